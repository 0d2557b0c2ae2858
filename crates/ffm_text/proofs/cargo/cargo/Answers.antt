use Rattle.ffm_text.proofs.Common.{arith, map, take, texts_of, unloaded_of, ◌+◌}
use Rattle.ffm_text.proofs.ToldLaws.{told_token}
use Rattle.ffm_text.proofs.cargo.cargo.Goals as goal

pub returns-in-Err-clause-fault : goal.returns-in-Err-clause-fault
returns-in-Err-clause-fault c =
    let i = c.loop-line.line-index in
    let lines = c.args.lines.now in
    told_token lines i _ (map unloaded_of c.loop-line.seen.cargo.items) (c.loop-line.number + 1) c.in-Err.fault c.loop-line-test.true
    c.loop-line.invariant.0.cargo.read (omega arith) (c.in-Err.ensures.fault (texts_of (take i lines)) c.loop-line.invariant.0)
