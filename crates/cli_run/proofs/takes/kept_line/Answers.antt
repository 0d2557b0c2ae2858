use Rattle.std.proofs.Common.{rules, arith}
use Rattle.cli_run.proofs.KeptLines.{kept_front, kept_whole}
use Rattle.cli_run.proofs.takes.kept_line.Goals as goal

pub returns-then-branch-clause-read : goal.returns-then-branch-clause-read
returns-then-branch-clause-read g c =
    let (few, no_end, before) = c.loop-reader.invariant in
    let (part, is, after, more, ended) = c.in_ok-keep_part.ensures.part in
    let (stops, ends, end) = ended (search rules) in
    kept_whole _ _ _ c.loop-reader.line.items part _ before no_end after stops ends end is c.in_ok-keep_part.ensures.room

pub returns-clause-read : goal.returns-clause-read
returns-clause-read g c =
    let (few, no_end, before) = c.loop-reader.invariant in
    kept_front _ _ _ c.loop-reader.line.items before no_end c.in_ok-skip_until.ensures.rest (omega (arith, few, c.loop-reader-test.false, c.len.ensures))
