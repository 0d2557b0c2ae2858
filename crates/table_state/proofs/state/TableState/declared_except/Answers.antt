use Rattle.std.proofs.Common.{◌∙◌, ap, filter, map, not}
use Rattle.table_state.proofs.Common.{AnnouncedRow, WaybillRow, announced_by, contains, nat_cmp, told_so, waybill_meant}
use Rattle.table_state.proofs.Lifting.{at_rest_of, read_by}
use Rattle.table_state.proofs.Values.{announced_are}
use Rattle.table_state.proofs.state.TableState.declared_except.Goals as goal

pub returns : goal.returns
returns g c = at_rest_of (read_by g.S.TableStore.view c.args.self.now _ _ _ _ c.in_ok-rows.ensures (λ s means tells.
    told_so _ _ c.announced_among.result
    (λ all are. announced_are _ s means c.args.come.now c.in_ok-rows.rows.items all.items
    (are ∙ ap (λ rows. filter (λ (one : AnnouncedRow). not (contains nat_cmp c.args.come.now one.awb)) (map (λ (row : WaybillRow). announced_by (waybill_meant row)) rows)) c.deref.ensures.value) tells)
    c.announced_among.ensures))
