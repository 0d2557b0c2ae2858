use Rattle.std.proofs.Common.{rules, ◌≡◌, ap, sym, Some, option_map, ◌∙◌}
use Rattle.table_state.proofs.Common.{KeptRow, kept_by, kept_meant}
use Rattle.table_state.proofs.Lifting.{read_by}
use Rattle.table_state.proofs.Values.{kept_key_is}
use Rattle.table_state.proofs.state.TableStateStateStore.kept_key.Goals as goal

pub returns-in-None : goal.returns-in-None
returns-in-None g c =
    let name : c.as_str.result.now ≡ c.args.key.now = search rules in
    read_by g.S.TableStore.view c.args.self.now _ _ _ _ c.in_ok-read.ensures (λ s means tells.
    ap (option_map (λ (row : KeptRow). kept_by (kept_meant row))) (sym c.in-None.is)
    ∙ kept_key_is _ s means c.args.key.now _ c.in_ok-read.field-0 name tells)

pub returns-in_ok-ok_or-in-Some : goal.returns-in_ok-ok_or-in-Some
returns-in_ok-ok_or-in-Some g c =
    let name : c.as_str.result.now ≡ c.args.key.now = search rules in
    read_by g.S.TableStore.view c.args.self.now _ _ _ _ c.in_ok-read.ensures (λ s means tells.
    ap Some (rw c.in_ok-ok_or-in-Some.ensures.ok_part at c.kept_by.ensures.value) ∙ ap (option_map (λ (row : KeptRow). kept_by (kept_meant row))) (sym c.in-Some.is)
    ∙ kept_key_is _ s means c.args.key.now _ c.in_ok-read.field-0 name tells)
