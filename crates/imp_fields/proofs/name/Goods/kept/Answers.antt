use Rattle.imp_fields.proofs.Common.{IsTrue, is_goods, subst, sym}
use Rattle.imp_fields.proofs.NameLaws.{kept_is, kept_is_goods}
use Rattle.imp_fields.proofs.name.Goods.kept.Goals as goal

pub of-requires : goal.of-requires
of-requires c =
    let text = c.args.text.now in
    subst (λ t. IsTrue (is_goods t)) (sym (kept_is text c.min.result c.blanks_at_end.result c.min.ensures c.blanks_at_end.ensures.run)) (kept_is_goods text c.requires)
