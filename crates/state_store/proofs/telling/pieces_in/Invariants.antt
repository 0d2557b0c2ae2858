use Rattle.state_store.proofs.Common.{Load, sum_by, take, ◌*◌, ◌≡◌, ◌≤◌}
use Rattle.state_store.proofs.telling.pieces_in.Given as goal

abbrev pub invariant-loop-load : goal.invariant-loop-load
invariant-loop-load l =
    (l.sum ≡ sum_by (λ (load : Load). load.amount.pieces) (take l.load-index l.loads)) × (l.sum ≤ 4_294_967_295 * l.load-index)
