use Rattle.table_state.proofs.Common.{SFits, inside, rules, sym, to_z-of_z, w64, waybill_meant, ◌∙◌}
use Rattle.table_state.proofs.Lifting.{of_answer}
use Rattle.table_state.proofs.Putting.{over_waybill, as_new_waybill}
use Rattle.table_state.proofs.writing.put_waybill.Goals as goal

pub returns-then-is_some-clause-done : goal.returns-then-is_some-clause-done
returns-then-is_some-clause-done g c = λ before now shown.
    let awb_fits : SFits w64 c.args.row.now.awb = search rules in
    of_answer _ c.write-then-is_some.result (λ _ is. over_waybill (g.S.TableStore.view c.write-then-is_some.new.self) before now c.args.is_missing c.in_ok-read.field-0 (waybill_meant c.args.row.now) c.if-is_missing.false
    (sym c.is_some.ensures ∙ c.if-is_some.true)
    (λ sound. rw (to_z-of_z w64 c.args.row.now.awb awb_fits) at (c.in_ok-read.ensures.read (inside before now) shown (c.write-then-is_some.ensures.made.survives.sound sound)))
    (rw is at (c.write-then-is_some.ensures.made.done before now (c.in_ok-read.ensures.same (inside before now) shown))))

pub returns-else-is_some-clause-done : goal.returns-else-is_some-clause-done
returns-else-is_some-clause-done g c = λ before now shown.
    let awb_fits : SFits w64 c.args.row.now.awb = search rules in
    of_answer _ c.write-else-is_some.result (λ _ is. as_new_waybill (g.S.TableStore.view c.write-else-is_some.new.self) before now c.args.is_missing c.in_ok-read.field-0 (waybill_meant c.args.row.now) c.if-is_missing.false
    (sym c.is_some.ensures ∙ c.if-is_some.false)
    (λ sound. rw (to_z-of_z w64 c.args.row.now.awb awb_fits) at (c.in_ok-read.ensures.read (inside before now) shown (c.write-else-is_some.ensures.made.survives.sound sound)))
    (rw is at (c.write-else-is_some.ensures.made.done before now (c.in_ok-read.ensures.same (inside before now) shown))))
