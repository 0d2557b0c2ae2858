use Rattle.std.proofs.Common.{rules, ap, sym, Some, option_map, ◌∙◌, SFits, w64}
use Rattle.table_state.proofs.Common.{WaybillRow, declared_by, to_z-of_z, waybill_meant}
use Rattle.table_state.proofs.Lifting.{read_by}
use Rattle.table_state.proofs.Values.{declared_is}
use Rattle.table_state.proofs.state.TableStateStateStore.declared.Goals as goal

pub returns-in-None : goal.returns-in-None
returns-in-None g c =
    let awb_fits : SFits w64 c.awb_key.result = search rules in
    read_by g.S.TableStore.view c.args.self.now _ _ _ _ c.in_ok-read.ensures (λ s means tells.
    ap (option_map (λ (r : WaybillRow). declared_by (waybill_meant r))) (sym c.in-None.is)
    ∙ declared_is _ s means c.args.awb.now _ c.in_ok-read.field-0 (to_z-of_z w64 c.awb_key.result awb_fits ∙ c.awb_key.ensures.value) tells)

pub returns-in_ok-ok_or-in-Some : goal.returns-in_ok-ok_or-in-Some
returns-in_ok-ok_or-in-Some g c =
    let awb_fits : SFits w64 c.awb_key.result = search rules in
    read_by g.S.TableStore.view c.args.self.now _ _ _ _ c.in_ok-read.ensures (λ s means tells.
    ap Some (rw c.in_ok-ok_or-in-Some.ensures.ok_part at c.waybill_by.ensures.declared) ∙ ap (option_map (λ (r : WaybillRow). declared_by (waybill_meant r))) (sym c.in-Some.is)
    ∙ declared_is _ s means c.args.awb.now _ c.in_ok-read.field-0 (to_z-of_z w64 c.awb_key.result awb_fits ∙ c.awb_key.ensures.value) tells)

pub returns-in_err-ok_or-in-Some : goal.returns-in_err-ok_or-in-Some
returns-in_err-ok_or-in-Some g c = read_by g.S.TableStore.view c.args.self.now _ _ _ _ c.in_ok-read.ensures (λ s means tells. search rules)
