use Rattle.std.proofs.Common.{sym, subst, ◌∙◌, to_z-of_z}
use Rattle.row_codec.proofs.Common.{Count, CountKey, ShowsChange, Tables, changing_count, count_row, with_count, without_count}
use Rattle.row_codec.proofs.Stores.{row_removed, row_changed, row_added}
use Rattle.row_codec.proofs.counting.put_count.Goals as goal

pub returns-then-is_nothing-clause-done : goal.returns-then-is_nothing-clause-done
returns-then-is_nothing-clause-done g c =
    let view = g.S.TableStore.view in
    row_removed (λ (t : Tables). t.counts) (λ m t. record t { counts = m }) (view c.args.store.now) (view c.write.new.self) c.write.result _ c.args.is_there (c.args.awb, c.args.place) (count_row c.args.sum)
    (sym c.is_nothing.ensures ∙ c.if-is_nothing.true)
    (subst (λ (k : CountKey). ShowsChange (view c.args.store.now) (view c.write.new.self) c.write.result (without_count k)) (λ i. (to_z-of_z c.ranges.awb i, to_z-of_z c.ranges.place i)) c.write.ensures.made.done)

pub returns-then-is_there-clause-done : goal.returns-then-is_there-clause-done
returns-then-is_there-clause-done g c =
    let view = g.S.TableStore.view in
    row_changed (λ (t : Tables). t.counts) (λ m t. record t { counts = m }) (view c.args.store.now) (view c.write-then-is_there.new.self) c.write-then-is_there.result _ c.args.is_there (c.args.awb, c.args.place) (count_row c.args.sum)
    (sym c.is_nothing.ensures ∙ c.if-is_nothing.false) c.if-is_there.true
    (subst (λ (x : CountKey × Count). ShowsChange (view c.args.store.now) (view c.write-then-is_there.new.self) c.write-then-is_there.result (changing_count x))
    (c.row_of-row.ensures ∙ λ i. ((to_z-of_z c.ranges.awb i, to_z-of_z c.ranges.place i), count_row c.args.sum)) c.write-then-is_there.ensures.made.done)

pub returns-else-is_there-clause-done : goal.returns-else-is_there-clause-done
returns-else-is_there-clause-done g c =
    let view = g.S.TableStore.view in
    row_added (λ (t : Tables). t.counts) (λ m t. record t { counts = m }) (view c.args.store.now) (view c.write-else-is_there.new.self) c.write-else-is_there.result _ c.args.is_there (c.args.awb, c.args.place) (count_row c.args.sum)
    (sym c.is_nothing.ensures ∙ c.if-is_nothing.false) c.if-is_there.false
    (subst (λ (x : CountKey × Count). ShowsChange (view c.args.store.now) (view c.write-else-is_there.new.self) c.write-else-is_there.result (with_count x))
    (c.row_of-row.ensures ∙ λ i. ((to_z-of_z c.ranges.awb i, to_z-of_z c.ranges.place i), count_row c.args.sum)) c.write-else-is_there.ensures.made.done)
