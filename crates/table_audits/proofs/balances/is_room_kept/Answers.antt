use Rattle.table_audits.proofs.Runs.{all_kept, one_broken, run_on, new_run}
use Rattle.table_audits.proofs.balances.is_room_kept.Goals.{then-place-flight, else-place-flight}
use Rattle.table_audits.proofs.balances.is_room_kept.Goals as goal

pub returns-then-waybills-gt-MOST_WAYBILLS : goal.returns-then-waybills-gt-MOST_WAYBILLS
returns-then-waybills-gt-MOST_WAYBILLS c =
    let l = c.loop-place in
    one_broken c.args.sums.now.builds.entries c.into_iter-place-iterator.ensures.into_iter_gives.5 l.flight l.waybills l.place-iterator l.invariant.1
    (c.in-Some.place.now, c.in-Some.field-0-1.now) _ c.if-place-flight.waybills c.in-Some.ensures.steps
    (elim c.if-place-flight.branch [
      | then-place-flight w ↦ run_on l.flight l.waybills c.in-Some.place.now.flight c.if-place-flight.waybills w.if-place-flight.true w.waybills-is
      | else-place-flight w ↦ new_run l.flight l.waybills c.in-Some.place.now.flight c.if-place-flight.waybills w.if-place-flight.false w.waybills-is
    ])
    c.if-waybills-gt-MOST_WAYBILLS.true

pub returns : goal.returns
returns c =
    let l = c.loop-place in
    all_kept c.args.sums.now.builds.entries c.into_iter-place-iterator.ensures.into_iter_gives.5 l.flight l.waybills l.place-iterator l.invariant.1 c.in-None.ensures.steps.0
