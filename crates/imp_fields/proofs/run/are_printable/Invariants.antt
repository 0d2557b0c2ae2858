use Rattle.imp_fields.proofs.Common.{is_printable, list_all, take, ◌≡◌}
use Rattle.imp_fields.proofs.run.are_printable.Given as goal

abbrev pub invariant-loop-b : goal.invariant-loop-b
invariant-loop-b l = l.all ≡ list_all is_printable (take l.b-index l.eight)
