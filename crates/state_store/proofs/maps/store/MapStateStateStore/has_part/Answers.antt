use Rattle.state_store.proofs.Common.{ℕ, Cargo, ap, get, is_some, lookup, part_of, rules, same_part, ◌∙◌, ◌≡◌}
use Rattle.state_store.specs.declared.flight_key.FlightKey.{FlightKey}
use Rattle.state_store.specs.declared.maps.state.AirportKey.{AirportKey}
use Rattle.state_store.proofs.Keyed.{found_by, some_mapped}
use Rattle.state_store.proofs.Surviving.{cargo_is, reads_so}
use Rattle.state_store.proofs.Writing.{by_part, by_part_keyed}
use Rattle.state_store.proofs.maps.store.MapStateStateStore.has_part.Goals as goal

pub returns : goal.returns
returns c = reads_so _ _ _ (λ s h.
    let k = c.args.self.now in
    let part = c.args.part.now in
    let key : FlightKey × AirportKey × ℕ = (c.of-flight.result, record { letters = c.letters-letters.result }, c.number.result) in
    let is : part_of key ≡ part = λ i. record { flight = c.of-flight.ensures i; airport = c.letters-letters.ensures.value i; number = c.number.ensures.value i } in
    let found : c.contains_key.result ≡ is_some (get by_part k.parts key) = search rules in
    found ∙ ap (λ o. is_some o) (found_by by_part part_of same_part by_part_keyed k.parts.entries key part is)
    ∙ some_mapped (λ text. text.items) (lookup (λ q. same_part part (part_of q)) k.parts.entries) ∙ ap (λ (g : Cargo). is_some (g.parts part)) (cargo_is k s h))
