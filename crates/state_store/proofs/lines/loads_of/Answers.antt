use Rattle.state_store.proofs.Common.{aboard_of, ap, load_on, map, map_twice, sym, waybills_on, ◌∙◌}
use Rattle.state_store.proofs.Walks.{reads_then}
use Rattle.state_store.proofs.lines.loads_of.Goals as goal

pub returns-in-Some : goal.returns-in-Some
returns-in-Some g c =
    let flight = c.args.flight.now in
    reads_then _ _ _ _ _ _ c.in_ok-aboard.ensures c.in_ok-rows.ensures (λ s listed rows. c.in-Some.ensures.value ∙ rows
    ∙ ap (map (aboard_of s.cargo)) (c.deref.ensures.value ∙ listed)
    ∙ sym (map_twice (aboard_of s.cargo) (load_on s.cargo.book flight) (waybills_on s.cargo.book flight)))
