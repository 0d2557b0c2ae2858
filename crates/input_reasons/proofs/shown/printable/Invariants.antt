use Rattle.input_reasons.proofs.Common.{IsTrue, is_printable, list_all, string_bytes}
use Rattle.input_reasons.proofs.shown.printable.Given as goal

-- what was appended so far is printable
abbrev pub invariant-loop-byte : goal.invariant-loop-byte
invariant-loop-byte l = IsTrue (list_all is_printable (string_bytes l.text))
