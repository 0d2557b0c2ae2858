use Rattle.std.proofs.Common.{rules, ◌≡◌, ap, sym, Some, option_map, ◌∙◌, SFits, w64}
use Rattle.table_state.proofs.Common.{natural, to_z-of_z}
use Rattle.table_state.proofs.Lifting.{read_by}
use Rattle.table_state.proofs.Values.{kept_text_is}
use Rattle.table_state.proofs.state.TableStateStateStore.kept_text.Goals as goal

pub returns-in-None : goal.returns-in-None
returns-in-None g c =
    let name : c.in-Ok.text.now ≡ c.args.text.now = search rules in
    read_by g.S.TableStore.view c.args.self.now _ _ _ _ c.in_ok-read.ensures (λ s means tells.
    ap (option_map natural) (sym c.in-None.is)
    ∙ kept_text_is _ s means c.args.text.now _ c.in_ok-read.field-0 name tells)

pub returns-in_ok-ok_or-in-Some : goal.returns-in_ok-ok_or-in-Some
returns-in_ok-ok_or-in-Some g c =
    let name : c.in-Ok.text.now ≡ c.args.text.now = search rules in
    let fits : SFits w64 c.in-Some.count = search rules in
    read_by g.S.TableStore.view c.args.self.now _ _ _ _ c.in_ok-read.ensures (λ s means tells.
    ap Some ((rw c.in_ok-ok_or-in-Some.ensures.ok_part at c.count_of.ensures.value) ∙ ap natural (to_z-of_z w64 c.in-Some.count fits)) ∙ ap (option_map natural) (sym c.in-Some.is)
    ∙ kept_text_is _ s means c.args.text.now _ c.in_ok-read.field-0 name tells)

pub returns-in_err-ok_or-in-Some : goal.returns-in_err-ok_or-in-Some
returns-in_err-ok_or-in-Some g c = read_by g.S.TableStore.view c.args.self.now _ _ _ _ c.in_ok-read.ensures (λ s means tells. search rules)
