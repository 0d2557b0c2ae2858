use Rattle.table_state.proofs.Common.{expected_meant, inside, sym, to_z-of_z, w64, ◌∙◌}
use Rattle.table_state.proofs.Lifting.{of_answer}
use Rattle.table_state.proofs.Putting.{over_expected}
use Rattle.table_state.proofs.writing.put_expected.Goals as goal

pub returns-then-is_some-clause-done : goal.returns-then-is_some-clause-done
returns-then-is_some-clause-done g c = λ before now shown.
    of_answer _ c.write-then-is_some.result (λ _ is. over_expected (g.S.TableStore.view c.write-then-is_some.new.self) before now (c.args.flight.now, (c.args.day, c.args.awb)) c.in_ok-read.field-0 (expected_meant c.args.row.now)
    (sym c.is_some.ensures ∙ c.if-is_some.true)
    (λ sound. rw (to_z-of_z w64 c.args.day c.ranges.day, to_z-of_z w64 c.args.awb c.ranges.awb) at (c.in_ok-read.ensures.read (inside before now) shown (c.write-then-is_some.ensures.made.survives.sound sound)))
    (rw (is, to_z-of_z w64 c.args.day c.ranges.day, to_z-of_z w64 c.args.awb c.ranges.awb) at (c.write-then-is_some.ensures.made.done before now (c.in_ok-read.ensures.same (inside before now) shown))))

pub returns-else-is_some-clause-done : goal.returns-else-is_some-clause-done
returns-else-is_some-clause-done g c = λ before now shown.
    rw (to_z-of_z w64 c.args.day c.ranges.day, to_z-of_z w64 c.args.awb c.ranges.awb) at (c.write-else-is_some.ensures.made.done before now (c.in_ok-read.ensures.same (inside before now) shown))

pub returns-then-is_missing-clause-done : goal.returns-then-is_missing-clause-done
returns-then-is_missing-clause-done g c = λ before now shown.
    rw (to_z-of_z w64 c.args.day c.ranges.day, to_z-of_z w64 c.args.awb c.ranges.awb) at (c.write.ensures.made.done before now shown)
