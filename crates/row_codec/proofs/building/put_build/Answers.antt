use Rattle.std.proofs.Common.{sym, subst, ◌∙◌, to_z-of_z}
use Rattle.row_codec.proofs.Common.{Build, BuildKey, ShowsChange, Tables, build_row, changing_build, with_build, without_build}
use Rattle.row_codec.proofs.Stores.{row_removed, row_changed, row_added}
use Rattle.row_codec.proofs.building.put_build.Goals as goal

pub returns-then-is_nothing-clause-done : goal.returns-then-is_nothing-clause-done
returns-then-is_nothing-clause-done g c =
    let view = g.S.TableStore.view in
    row_removed (λ (t : Tables). t.builds) (λ m t. record t { builds = m }) (view c.args.store.now) (view c.write.new.self) c.write.result _ c.args.is_there (c.args.flight.now, (c.args.day, c.args.awb)) (build_row c.args.sum)
    (sym c.is_nothing.ensures ∙ c.if-is_nothing.true)
    (subst (λ (k : BuildKey). ShowsChange (view c.args.store.now) (view c.write.new.self) c.write.result (without_build k)) (λ i. (c.args.flight.now, (to_z-of_z c.ranges.day i, to_z-of_z c.ranges.awb i))) c.write.ensures.made.done)

pub returns-then-is_there-clause-done : goal.returns-then-is_there-clause-done
returns-then-is_there-clause-done g c =
    let view = g.S.TableStore.view in
    row_changed (λ (t : Tables). t.builds) (λ m t. record t { builds = m }) (view c.args.store.now) (view c.write-then-is_there.new.self) c.write-then-is_there.result _ c.args.is_there (c.args.flight.now, (c.args.day, c.args.awb)) (build_row c.args.sum)
    (sym c.is_nothing.ensures ∙ c.if-is_nothing.false) c.if-is_there.true
    (subst (λ (x : BuildKey × Build). ShowsChange (view c.args.store.now) (view c.write-then-is_there.new.self) c.write-then-is_there.result (changing_build x))
    (c.in_ok-row.ensures ∙ λ i. ((c.args.flight.now, (to_z-of_z c.ranges.day i, to_z-of_z c.ranges.awb i)), build_row c.args.sum)) c.write-then-is_there.ensures.made.done)

pub returns-clause-done : goal.returns-clause-done
returns-clause-done g c =
    let view = g.S.TableStore.view in
    row_added (λ (t : Tables). t.builds) (λ m t. record t { builds = m }) (view c.args.store.now) (view c.write-else-is_there.new.self) c.write-else-is_there.result _ c.args.is_there (c.args.flight.now, (c.args.day, c.args.awb)) (build_row c.args.sum)
    (sym c.is_nothing.ensures ∙ c.if-is_nothing.false) c.if-is_there.false
    (subst (λ (x : BuildKey × Build). ShowsChange (view c.args.store.now) (view c.write-else-is_there.new.self) c.write-else-is_there.result (with_build x))
    (c.in_ok-row.ensures ∙ λ i. ((c.args.flight.now, (to_z-of_z c.ranges.day i, to_z-of_z c.ranges.awb i)), build_row c.args.sum)) c.write-else-is_there.ensures.made.done)
