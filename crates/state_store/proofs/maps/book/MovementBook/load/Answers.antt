use Rattle.state_store.proofs.Common.{Amount, FlightDate, ap, built, held_of, ◌∙◌, ◌≡◌}
use Rattle.state_store.proofs.StillOk.{still_ok}
use Rattle.state_store.proofs.maps.book.MovementBook.load.Goals as goal

pub returns : goal.returns
returns c = λ summed.
    let book = c.args.self.now.moves.items in
    let w = c.args.awb.now in
    still_ok (λ (a : Amount). a ≡ held_of c.flow.result) (λ (a : Amount). a ≡ built book w c.args.flight.now) c.held.result
    (λ a e. e ∙ ap held_of (c.flow.ensures ∙ summed.flights c.of.result w) ∙ ap (λ (f : FlightDate). built book w f) c.of.ensures) c.held.ensures
