use Rattle.state_store.proofs.Common.{Trail, [], ap, arith, cargo_of, rules, state_of, trail_in, written, ◌++◌, ◌∙◌, ◌∷◌, ◌≡◌}
use Rattle.state_store.proofs.Writing.{room_line, shows_more, trail_more}
use Rattle.state_store.proofs.maps.state.MapState.add_line.Goals as goal

pub returns : goal.returns
returns c = λ s h.
    let old = c.args.self.now in
    let w = c.args.awb.now in
    let line = c.args.line.now in
    let kept : c.in_ok-line.line.items ≡ line = search rules in
    let e : trail_in c.push.new.self.items ≡ trail_in old.trail.items ++ (w, line) ∷ [] = ap trail_in c.in_ok-push.ensures.items ∙ trail_more old.trail.items _ ∙ ap (λ l. trail_in old.trail.items ++ (w, l) ∷ []) kept in
    shows_more old _ s (written [] (Trail w line)) h (λ i. record (state_of old) { cargo = record (cargo_of old) { trail = e i } }) h.summed (room_line old s h (w, line) (omega arith))
