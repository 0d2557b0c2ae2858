use Rattle.state_store.proofs.Common.{Built, FlightDate, ap, flow_by, flow_of, ◌∙◌}
use Rattle.state_store.proofs.BookLists.{none_loaded}
use Rattle.state_store.proofs.maps.book.MovementBook.aboard.Goals as goal

pub returns-in-Some : goal.returns-in-Some
returns-in-Some c = λ summed.
    let book = c.args.self.now.moves.items in
    c.loads_in.ensures book c.args.flight.now
    (λ w. ap (λ o. flow_by o w) c.in-Some.ensures.value ∙ summed.flights c.of.result w ∙ ap (λ (f : FlightDate). flow_of book w (Built f)) c.of.ensures)

pub returns-in-None : goal.returns-in-None
returns-in-None c = λ summed.
    let book = c.args.self.now.moves.items in
    c.new.ensures.items ∙ none_loaded book c.args.flight.now
    (λ w. ap (λ o. flow_by o w) c.in-None.ensures.value ∙ summed.flights c.of.result w ∙ ap (λ (f : FlightDate). flow_of book w (Built f)) c.of.ensures)
