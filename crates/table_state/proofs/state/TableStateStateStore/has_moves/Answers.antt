use Rattle.table_state.proofs.Common.{SFits, ap, length, nat_lt, not, rules, to_z-of_z, w64, ◌∙◌, ◌≡◌}
use Rattle.table_state.proofs.HasMoves.{has_items}
use Rattle.table_state.proofs.Lifting.{read_by}
use Rattle.table_state.proofs.Values.{moves_are}
use Rattle.table_state.proofs.state.TableStateStateStore.has_moves.Goals as goal

pub returns : goal.returns
returns g c =
    let awb_fits : SFits w64 c.awb_key.result = search rules in
    let some : not c.is_empty.result ≡ nat_lt 0 (length c.in_ok-read.field-0.items) = ap not c.is_empty.ensures ∙ has_items c.in_ok-read.field-0 in
    read_by g.S.TableStore.view c.args.self.now _ _ _ _ c.in_ok-read.ensures (λ s means tells.
    moves_are _ s means c.in_ok-read.field-0.items (not c.is_empty.result) c.args.awb.now _ (to_z-of_z w64 c.awb_key.result awb_fits ∙ c.awb_key.ensures.value) some tells)
