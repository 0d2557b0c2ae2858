use Rattle.state_store.proofs.Common.{Built, FlightKey, IsWaybillSummed, [], ap, flow_at, flow_of, flow_with, if◌then◌else◌, subst, sym, ℕ, ◌++◌, ◌==◌, ◌∙◌, ◌∷◌, ◌≡◌}
use Rattle.state_store.specs.declared.maps.book.MovementBook.{MovementBook}
use Rattle.state_store.proofs.Posting.{flight_summed, posted_both, posted_first}
use Rattle.state_store.proofs.maps.book.MovementBook.add.Goals.{then-not-is_same+in_ok-post_load-2, else-not-is_same}
use Rattle.state_store.proofs.maps.book.MovementBook.add.Goals as goal

pub returns-clause-summed : goal.returns-clause-summed
returns-clause-summed c = λ summed.
    let book = c.args.self.now in
    let m = c.args.movement.now in
    let loaded = c.post_load.new.self in
    let flows : c.if-not-is_same.self.flows ≡ c.post_flows.new.self.flows = elim c.if-not-is_same.branch [
      | then-not-is_same+in_ok-post_load-2 w ↦ ap (λ (b : MovementBook). b.flows) w.self-is ∙ w.post_load-then-not-is_same.ensures.flows ∙ c.post_load.ensures.flows
      | else-not-is_same w ↦ ap (λ (b : MovementBook). b.flows) w.self-is ∙ c.post_load.ensures.flows
    ] in
    let moves : c.if-not-is_same.self.moves ≡ book.moves = elim c.if-not-is_same.branch [
      | then-not-is_same+in_ok-post_load-2 w ↦ ap (λ (b : MovementBook). b.moves) w.self-is ∙ w.post_load-then-not-is_same.ensures.moves ∙ c.post_load.ensures.moves ∙ c.post_flows.ensures.moves
      | else-not-is_same w ↦ ap (λ (b : MovementBook). b.moves) w.self-is ∙ c.post_load.ensures.moves ∙ c.post_flows.ensures.moves
    ] in
    let items : c.push.new.self.items ≡ book.moves.items ++ m ∷ [] = c.in_ok-push.ensures.items ∙ ap (λ v. v.items ++ m ∷ []) moves in
    let at : (k : FlightKey) (w : ℕ) → flow_at c.if-not-is_same.self.loads k w ≡ (if m.awb == w then flow_with (Built k.flight) (flow_at c.post_flows.new.self.loads k w) m else flow_at c.post_flows.new.self.loads k w) = λ k q. elim c.if-not-is_same.branch [
      | then-not-is_same+in_ok-post_load-2 w ↦ ap (λ (b : MovementBook). flow_at b.loads k q) w.self-is
          ∙ posted_both (Built k.flight) (flow_at c.post_flows.new.self.loads k q) (flow_at loaded.loads k q) m (m.awb == q) (c.in_ok-post_load.ensures.posted k q)
          (flow_at w.post_load-then-not-is_same.new.self.loads k q) (w.in_ok-post_load-2.ensures.posted k q) (sym c.is_same.ensures ∙ w.if-not-is_same.true)
      | else-not-is_same w ↦ ap (λ (b : MovementBook). flow_at b.loads k q) w.self-is
          ∙ posted_first (Built k.flight) (flow_at c.post_flows.new.self.loads k q) (flow_at loaded.loads k q) m (m.awb == q) (c.in_ok-post_load.ensures.posted k q)
          (sym c.is_same.ensures ∙ w.if-not-is_same.false)
    ] in
    record {
      waybills = λ w. subst (λ f. IsWaybillSummed f c.push.new.self.items w) (sym flows) (subst (λ l. IsWaybillSummed c.post_flows.new.self.flows l w) (sym items) (c.in_ok-post_flows.ensures.posted summed w));
      flights = λ k w. flight_summed book.moves.items m k w (flow_at c.post_flows.new.self.loads k w) (flow_at c.if-not-is_same.self.loads k w)
          (ap (λ l. flow_at l k w) c.post_flows.ensures.loads ∙ summed.flights k w) (at k w) ∙ ap (λ l. flow_of l w (Built k.flight)) (sym items);
    }
