use Rattle.agent_stock.proofs.Common.{Bool, ap, arith, false, holders_of, not, passes, suc, sym, ℕ, ◌+◌, ◌-◌, ◌∙◌, ◌≡◌}
use Rattle.agent_stock.proofs.Serials.{find_next}
use Rattle.agent_stock.proofs.rows.PlainRowsStockRows.uniform.Goals as goal

pub loop-key-preserved : goal.loop-key-preserved
loop-key-preserved c =
    let p : ℕ → Bool = λ q. not (passes c.args.test.now (holders_of c.args.self.now q)) in
    let at : c.passes.result ≡ passes c.args.test.now (holders_of c.args.self.now c.loop-key.key-counter) = c.passes.ensures ∙ ap (passes c.args.test.now) (c.copied.ensures ∙ c.get.ensures.value) in
    let goes_on : p c.loop-key.key-counter ≡ false = ap not (sym at ∙ c.if-not-passes.false) in
    let ahead : (c.key.result + c.from.result) - c.loop-key.key-counter ≡ suc ((c.key.result + c.from.result) - (c.loop-key.key-counter + 1)) = omega arith in
    c.loop-key.invariant ∙ find_next p c.loop-key.key-counter _ _ ahead goes_on
