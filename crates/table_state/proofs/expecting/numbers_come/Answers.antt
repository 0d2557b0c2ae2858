use Rattle.table_state.proofs.Common.{ap, length, list_any, rules, take, take-length, ◌∙◌, ◌≡◌}
use Rattle.table_state.proofs.Announced.{come_by_all, comes}
use Rattle.table_state.proofs.expecting.numbers_come.Goals as goal

pub returns : goal.returns
returns c = λ book all w.
    let rows = c.args.waybills.now in
    let last : c.loop-waybill.waybill-index ≡ length rows = search rules in
    c.loop-waybill.invariant w ∙ ap (λ n. list_any (comes w) (take n rows)) last ∙ ap (list_any (comes w)) (take-length rows) ∙ come_by_all book w rows all
