use Rattle.imp_fields.proofs.Common.{is_printable, length, list_all, take, true, ◌-◌, ◌≡◌, ◌≤◌}
use Rattle.imp_fields.proofs.run.printable_in_front.Given as goal

abbrev pub invariant-loop-eight : goal.invariant-loop-eight
invariant-loop-eight l = (l.len ≤ length l.text) × (list_all is_printable (take l.len l.text) ≡ true)

abbrev pub decreases-loop-eight : goal.decreases-loop-eight
decreases-loop-eight l = length l.text - l.len
