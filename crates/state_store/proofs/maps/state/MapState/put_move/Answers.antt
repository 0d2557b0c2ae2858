use Rattle.state_store.proofs.Common.{Cargo, [], arith, cargo_of, state_of, ◌++◌, ◌∷◌}
use Rattle.state_store.proofs.StillOk.{told_both}
use Rattle.state_store.proofs.Writing.{room_move, shows_more}
use Rattle.state_store.proofs.maps.state.MapState.put_move.Goals as goal

pub returns : goal.returns
returns c = λ s h.
    let old = c.args.self.now in
    let m = c.args.movement.now in
    told_both _ _ _ c.add.result
    (λ moves summed. shows_more old _ s (λ (k : Cargo). record k { book = k.book ++ m ∷ [] }) h (λ i. record (state_of old) { cargo = record (cargo_of old) { book = moves i } }) summed (room_move old s h m (omega arith)))
    c.add.ensures.moves (c.add.ensures.summed h.summed)
