use Rattle.cli_run.proofs.Common.{AreAnswered, IfSome, List, Ready, Row, call, default_config, length, ◌+◌, ◌<◌, ◌≡◌, ◌≤◌}
use Rattle.csv.specs.declared.reader.Trim.TheVariants as trim
use Rattle.cli_run.proofs.MoreRows.{Known}
use Rattle.cli_run.proofs.rows.answer_rows.Given as goal

-- the rows so far were answered, and take the text to what the reader has left
abbrev pub invariant-loop-row : goal.invariant-loop-row
invariant-loop-row g l =
    record {
      trim : l.row-iterator.rdr.trim ≡ trim.None;
      ready : Ready l.row-iterator.rdr;
      left : 0 < l.row-iterator.left;
      config : l.row-iterator.rdr.config ≡ default_config;
      counted : l.number + l.row-iterator.left ≤ 18446744073709551615;
      rows : (rows : List Row) × (l.number ≡ length rows) × IfSome (g.R.Read.remaining l.fn.reader) (Known g.R.Read.remaining l.row-iterator.rdr rows)
          × AreAnswered (g.P.Answering.answered_row l.fn.way) 1 rows
          (call l.fn.desk (g.W.ByteOut.taken l.fn.writer) l.fn.errors) (call l.desk (g.W.ByteOut.taken l.writer) l.errors) l.good;
    }
