use Rattle.table_state.proofs.Common.{None, Option, Some, ap, false, is_run, run_of, ℕ, ◌≡◌}
use Rattle.table_state.proofs.Changes.{orders_on, due_on, of_refusal, on_refusal, refusal_on, stays_on}
use Rattle.table_state.proofs.Lifting.{of_answer}
use Rattle.table_state.proofs.state.TableStateStateStore.carry_out_order.Goals as goal

pub returns-clause-accepted : goal.returns-clause-accepted
returns-clause-accepted g c = λ s shown sound.
    of_answer _ c.carry_out_order.result (λ _ is. due_on _ _ _ _ _ s shown c.carry_out_order.ensures.ordered.survives c.args.order.now None (rw is at c.carry_out_order.ensures.ordered.was_open) (rw is at (c.carry_out_order.ensures.ordered.accepted (g.S.TableStore.view c.args.self.now.store).now)) sound)

pub returns-clause-done : goal.returns-clause-done
returns-clause-done g c = λ s shown.
    of_answer _ c.carry_out_order.result (λ _ is. orders_on _ _ _ _ _ s shown c.carry_out_order.ensures.ordered.survives (rw is at c.carry_out_order.ensures.ordered.was_open) c.args.order.now (rw is at (c.carry_out_order.ensures.ordered.done (g.S.TableStore.view c.args.self.now.store).now)))

pub returns-clause-refused : goal.returns-clause-refused
returns-clause-refused g c = λ s shown sound.
    of_refusal _ c.carry_out_order.result (λ number lowest is.
    let size : is_run (run_of c.args.order.now) ≡ false → ◌≡◌ {A = Option (ℕ × Option ℕ)} (Some (105, None)) (Some (number, lowest)) = λ e. (let r = rw is at ((c.carry_out_order.ensures.size e).0) in cc) in
    refusal_on _ _ _ _ _ s shown c.carry_out_order.ensures.ordered.survives c.args.order.now (Some (number, lowest)) (λ e. rw is at (c.carry_out_order.ensures.ordered.open_at_refusal e)) size
    (rw is at (c.carry_out_order.ensures.ordered.refused (g.S.TableStore.view c.args.self.now.store).now)) sound)

pub returns-clause-same : goal.returns-clause-same
returns-clause-same g c = λ s shown.
    on_refusal _ c.carry_out_order.result (λ number lowest is.
    stays_on _ _ _ _ _ s shown c.carry_out_order.ensures.ordered.survives c.args.order.now (λ e. rw is at (c.carry_out_order.ensures.ordered.open_at_refusal e)) (λ e. ap g.S.TableStore.view (c.carry_out_order.ensures.size e).1)
    (rw is at (c.carry_out_order.ensures.ordered.same (g.S.TableStore.view c.args.self.now.store).now)))
