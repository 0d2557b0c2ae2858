use Rattle.table_load.proofs.Common.{IsTyped, refl, subst, sym, ◌∙◌}
use Rattle.table_load.proofs.TableLemmas.{less_trans}
use Rattle.table_load.proofs.WalkLemmas.{one_untyped, not_following, next_taken}
use Rattle.table_load.proofs.walk.step.Goals as goal

pub returns-in_default : goal.returns-in_default
returns-in_default g c = λ keys given raw agrees typed was.
    let t = g.T.KeyedRow in
    one_untyped (g.F.RowFold.has c.args.beside.now) t.meant t.to_row t.cmp t.IsLawful given raw (subst (IsTyped t.meant t.to_row t.IsLawful raw) c.in_default.is typed)

pub returns-then-not-follows : goal.returns-then-not-follows
returns-then-not-follows g c = λ keys given raw agrees typed was.
    let t = g.T.KeyedRow in
    not_following (g.F.RowFold.has c.args.beside.now) t.meant t.to_row t.cmp t.IsLawful t.from_row g.met.T.KeyedRow.back given raw c.args.walk.now c.in-Some.row c.if-not-walk.false c.args.walk.now.last refl was
    (subst (IsTyped t.meant t.to_row t.IsLawful raw) c.in-Some.is typed) (sym c.follows.ensures ∙ c.if-not-follows.true)

pub returns-in-Some-replace : goal.returns-in-Some-replace
returns-in-Some-replace g c = λ keys given raw agrees typed was.
    let t = g.T.KeyedRow in
    next_taken (g.F.RowFold.has c.args.beside.now) t.meant t.to_row t.cmp t.IsLawful (less_trans keys t.to_row t.cmp agrees t.IsLawful) given raw c.args.walk.now c.in-Some.row c.in-Some-replace.before c.take.new.self c.replace.new.self
    c.if-not-walk.false (sym c.replace.ensures.value ∙ c.in-Some-replace.is) was (subst (IsTyped t.meant t.to_row t.IsLawful raw) c.in-Some.is typed) (sym c.follows.ensures ∙ c.if-not-follows.false) c.replace.ensures.after c.take.result c.take.ensures
