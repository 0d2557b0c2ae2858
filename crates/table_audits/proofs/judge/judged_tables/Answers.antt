use Rattle.table_audits.proofs.Common.{Err, HasJudged, Ok, read_as, state}
use Rattle.sqlite.proofs.StateLemmas.{survives_then}
use Rattle.table_audits.proofs.Judged.{all_judged, gone_on, reads_err, told}
use Rattle.table_audits.proofs.judge.judged_tables.Goals as goal

pub returns-in_err-is_good-clause-read : goal.returns-in_err-is_good-clause-read
returns-in_err-is_good-clause-read g c = λ clean up so_far knows. reads_err (state g.S.Store c.args.conn.now) (state g.S.Store c.is_good.new.conn) c.from_residual.result _ c.from_residual.ensures.0
    (told g.S.Store c.args.conn.now c.loop-ahead.conn c.is_good.new.conn c.args.known.now c.loop-ahead.known c.in-Some.name (Err c.in_err-is_good.field-0.0) (HasJudged c.in-Some.name c.is_good.new.known) (rw c.in-Some.is at c.loop-ahead.invariant) c.is_good.ensures.survives c.in_err-is_good.ensures.read clean up knows)

pub returns-then-not-branch-clause-read : goal.returns-then-not-branch-clause-read
returns-then-not-branch-clause-read g c = λ clean up so_far knows.
    let now = told g.S.Store c.args.conn.now c.loop-ahead.conn c.is_good.new.conn c.args.known.now c.loop-ahead.known c.in-Some.name (Ok c.in_ok-is_good.field-0) (HasJudged c.in-Some.name c.is_good.new.known) (rw c.in-Some.is at c.loop-ahead.invariant) c.is_good.ensures.survives c.in_ok-is_good.ensures.read clean up knows in
    (rw c.if-not-branch.true at now.0, now.1)

pub loop-ahead-preserved : goal.loop-ahead-preserved
loop-ahead-preserved g c = record {
  survives = survives_then (state g.S.Store c.args.conn.now) (state g.S.Store c.loop-ahead.conn) (state g.S.Store c.is_good.new.conn) (λ _. ⊥) (λ _. ⊥) (λ _. ⊥) (λ _ _ no. no) (λ _ _ no. no) c.loop-ahead.invariant.survives c.is_good.ensures.survives;
  said = λ clean up knows.
      let now = told g.S.Store c.args.conn.now c.loop-ahead.conn c.is_good.new.conn c.args.known.now c.loop-ahead.known c.in-Some.name (Ok c.in_ok-is_good.field-0) (HasJudged c.in-Some.name c.is_good.new.known) (rw c.in-Some.is at c.loop-ahead.invariant) c.is_good.ensures.survives c.in_ok-is_good.ensures.read clean up knows in
      (gone_on c.in-Some.name c.is_good.new.known (read_as c.args.known.now.version (state g.S.Store c.args.conn.now).now) c.next-ahead.result c.next-ahead.ensures (rw c.if-not-branch.false at now.0), now.1);
}

pub returns-clause-read : goal.returns-clause-read
returns-clause-read g c = λ clean up so_far knows.
    let so = (rw c.in_default.is at c.loop-ahead.invariant).said clean up knows in
    (all_judged c.loop-ahead.known (read_as c.args.known.now.version (state g.S.Store c.args.conn.now).now) so.0, so.1)
