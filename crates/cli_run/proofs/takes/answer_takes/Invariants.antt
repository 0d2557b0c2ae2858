use Rattle.cli_run.proofs.Common.{AreMade, HasTakenNext, None, call}
use Rattle.cli_run.proofs.takes.answer_takes.Given as goal

-- the inputs so far were taken
abbrev pub invariant-loop-turn : goal.invariant-loop-turn
invariant-loop-turn g l =
    record {
      made : AreMade (HasTakenNext (g.P.Answering.answered l.fn.way None) g.I.ByteIn.given g.I.Inputs.turned) l._turn
          (call l.fn.desk (g.W.ByteOut.taken l.fn.writer) l.fn.errors, l.fn.reader) (call l.desk (g.W.ByteOut.taken l.writer) l.errors, l.reader) l.good;
    }
