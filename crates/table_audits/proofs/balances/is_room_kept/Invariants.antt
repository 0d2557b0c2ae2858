use Rattle.std.proofs.Common.{◌≡◌, ◌≤◌}
use Rattle.table_audits.proofs.Runs.{runs_fit}
use Rattle.table_audits.proofs.balances.is_room_kept.Given as goal

-- no run is too long where none ahead is
abbrev pub invariant-loop-place : goal.invariant-loop-place
invariant-loop-place l = (l.waybills ≤ 500) × (runs_fit 0 0 l.fn.sums.builds.entries ≡ runs_fit l.flight l.waybills l.place-iterator)
