use Rattle.stock_tables.proofs.Common.{AllByRecursion, Behind, IsNumber, None, Some, StockRun, [], ap, arith, cut_from, end_of, inl, inr, refl, rules, subst, sym, ◌+◌, ◌-◌, ◌∷◌, ◌≡◌}
use Rattle.stock_tables.proofs.Places.{behind_last}
use Rattle.stock_tables.proofs.Standing.{each_split}
use Rattle.stock_tables.proofs.near.behind.Goals as goal

pub returns-then-high-end-clause-cut : goal.returns-then-high-end-clause-cut
returns-then-high-end-clause-cut c =
    subst (λ l. Behind c.args.end c.args.to.now l c.args.end None) (sym c.in-Some.ensures.cases.0)
    (behind_last c.args.end c.args.to.now c.in-Some._others.now c.in-Some.row.now c.args.end None (inl (inl (omega (arith, c.key-low.ensures.value, c.from.ensures, c.if-high-end.true), (refl, refl)))))

pub returns-then-is_same-clause-cut : goal.returns-then-is_same-clause-cut
returns-then-is_same-clause-cut c =
    subst (λ l. Behind c.args.end c.args.to.now l (c.key-low.result + c.from.result) None) (sym c.in-Some.ensures.cases.0)
    (behind_last c.args.end c.args.to.now c.in-Some._others.now c.in-Some.row.now (c.key-low.result + c.from.result) None
    (inl (inr (omega (arith, c.key-low.ensures.value, c.from.ensures, c.if-high-end.false), (c.is_same.ensures.0 c.if-is_same.true, (omega (arith, c.key-low.ensures.value, c.from.ensures), refl))))))

pub returns-then-low-end-clause-some : goal.returns-then-low-end-clause-some
returns-then-low-end-clause-some c = λ within all.
    let row = (each_split _ c.in-Some._others.now (c.in-Some.row.now ∷ []) (subst (AllByRecursion _) c.in-Some.ensures.cases.0 all)).1.0 in
    absurd (omega (arith, row.0, c.key-low.ensures.value, c.if-low-end.true))

pub returns-in_err-of_key-clause-some : goal.returns-in_err-of_key-clause-some
returns-in_err-of_key-clause-some c = λ within all.
    let row = (each_split _ c.in-Some._others.now (c.in-Some.row.now ∷ []) (subst (AllByRecursion _) c.in-Some.ensures.cases.0 all)).1.0 in
    let number : IsNumber c.args.end = omega (arith, row.1.one_prefix, c.key-low.ensures.value, c.key-low.ensures.bound, c.from.ensures, c.if-high-end.false) in
    let some = c.of_key.ensures.in_range.1 number in
    search (rules, some)

pub returns-clause-cut : goal.returns-clause-cut
returns-clause-cut c =
    let is : c.in_ok-of_key.field-0 ≡ c.args.end = c.in_ok-of_key.ensures.value in
    let low : c.key-low.result + c.from.result - c.args.end ≡ end_of c.in-Some.row.now - c.args.end = omega (arith, c.key-low.ensures.value, c.from.ensures) in
    let row : StockRun = record { first = c.in_ok-of_key.field-0; count = c.key-low.result + c.from.result - c.args.end; holder = c.in-Some.row.now.holder } in
    let cut : row ≡ cut_from c.args.end c.in-Some.row.now = λ i. record { first = is i; count = low i; holder = c.in-Some.row.now.holder } in
    subst (λ l. Behind c.args.end c.args.to.now l c.args.end (Some row)) (sym c.in-Some.ensures.cases.0)
    (behind_last c.args.end c.args.to.now c.in-Some._others.now c.in-Some.row.now c.args.end (Some row)
    (inr (omega (arith, c.key-low.ensures.value, c.from.ensures, c.if-high-end.false), (λ h. (let t = c.is_same.ensures.1 h in cc), (refl, ap Some cut)))))
