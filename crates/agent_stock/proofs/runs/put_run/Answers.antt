use Rattle.agent_stock.proofs.Common.{AreStockRuns, [], ap, arith, min, subst, sym, true≢false, ℕ, ◌++◌, ◌+◌, ◌-◌, ◌^◌, ◌∙◌, ◌∷◌, ◌≡◌, ◌≤◌}
use Rattle.std.proofs.Math.Nat.{min-eq_left}
use Rattle.agent_stock.proofs.JoinedRuns.{run_behind, run_longer, in_prefix}
use Rattle.agent_stock.proofs.runs.put_run.Goals as goal

pub returns-in_ok-push-2 : goal.returns-in_ok-push-2
returns-in_ok-push-2 c = λ held fits none runs.
    let front = c.pop.new.self.items in
    let last = c.in-Some.last in
    let are = subst (AreStockRuns held) c.in-Some.ensures.items runs in
    let goes = c.goes_on.ensures.0 c.if-goes_on.true in
    let most : last.count + c.args.next.count ≤ 10_000_000 = in_prefix held c.args.next none fits.some fits.one_prefix front last are goes in
    let count : min (last.count + c.args.next.count) (2 ^ 32 - 1) ≡ last.count + c.args.next.count = min-eq_left (omega (arith, most)) in
    run_longer held c.args.next none fits.some fits.one_prefix front last are
    (record { first = last.first; count = c.saturating_add.result; holder = last.holder })
    (ap (λ (n : ℕ). record { first = last.first; count = n; holder = last.holder }) (c.saturating_add.ensures ∙ count))
    goes c.push-then-goes_on.new.self.items c.in_ok-push-2.ensures.items

pub returns-in_ok-push-4 : goal.returns-in_ok-push-4
returns-in_ok-push-4 c = λ held fits none runs.
    let front = c.pop.new.self.items in
    let last = c.in-Some.last in
    let was : c.args.runs.now.items ≡ front ++ last ∷ [] = c.in-Some.ensures.items in
    run_behind held c.args.next none fits.some fits.one_prefix front last (subst (AreStockRuns held) was runs)
    c.push-else-goes_on-2.new.self.items (c.in_ok-push-4.ensures.items ∙ ap (λ l. l ++ c.args.next ∷ []) c.in_ok-push-3.ensures.items)
    (λ goes. true≢false (sym (c.goes_on.ensures.1 goes) ∙ c.if-goes_on.false))
