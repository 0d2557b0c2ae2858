use Rattle.cli_run.proofs.Common.{AreAnswered, IfSome, List, call, length, ℕ, ◌+◌, ◌≡◌}
use Rattle.cli_run.proofs.Lines.{Known}
use Rattle.cli_run.proofs.acts.answer_lines.Given as goal

-- the lines so far were answered, and take the text to what the reader has left
abbrev pub invariant-loop-number : goal.invariant-loop-number
invariant-loop-number g l =
    record {
      lines : (lines : List (List ℕ)) × (l.number ≡ 1 + length lines)
          × IfSome (g.R.Read.remaining l.fn.reader) (Known (g.R.Read.remaining l.reader) lines)
          × AreAnswered (g.P.Answering.answered_line l.fn.way) 1 lines
          (call l.fn.desk (g.W.ByteOut.taken l.fn.writer) l.fn.errors) (call l.desk (g.W.ByteOut.taken l.writer) l.errors) l.good;
    }
