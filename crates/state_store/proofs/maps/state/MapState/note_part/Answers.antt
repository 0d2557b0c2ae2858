use Rattle.std.proofs.Common.{ℕ, ◌≡◌, ◌∙◌, Some, ap, cond, option_map}
use Rattle.state_store.proofs.Common.{NotePart, Part, cargo_of, if◌then◌else◌, lookup, part_of, parts_in, same_part, state_of, written}
use Rattle.state_store.specs.declared.flight_key.FlightKey.{FlightKey}
use Rattle.state_store.specs.declared.maps.state.AirportKey.{AirportKey}
use Rattle.state_store.proofs.Keyed.{put_in}
use Rattle.state_store.proofs.KeptRows.{mapped}
use Rattle.state_store.proofs.Writing.{by_part, by_part_keyed, shows_more}
use Rattle.state_store.proofs.maps.state.MapState.note_part.Goals as goal

pub returns : goal.returns
returns c = λ s h.
    let old = c.args.self.now in
    let part = c.args.part.now in
    let text = c.args.text.now in
    let v = c.in_ok-text.text in
    let key : FlightKey × AirportKey × ℕ = (c.of-flight.result, record { letters = c.letters-letters.result }, c.number.result) in
    let is : part_of key ≡ part = λ i. record { flight = c.of-flight.ensures i; airport = c.letters-letters.ensures.value i; number = c.number.ensures.value i } in
    let e : (q : Part) → parts_in c.insert.new.self q ≡ (if same_part q part then Some text else parts_in old.parts q) = λ q.
    ap (option_map (λ t. t.items)) (put_in by_part part_of same_part by_part_keyed old.parts.entries c.insert.new.self.entries key v part q is c.in_ok-insert.ensures.entries)
    ∙ mapped (λ t. t.items) (same_part q part) v (lookup (λ k. same_part q (part_of k)) old.parts.entries)
    ∙ ap (λ t. cond (same_part q part) (Some t) (parts_in old.parts q)) c.in_ok-text.ensures.items in
    shows_more old _ s (written text (NotePart part)) h (λ i. record (state_of old) { cargo = record (cargo_of old) { parts = λ q. e q i } }) h.summed h.room
