use Rattle.state_store.proofs.Common.{AreStockRuns, StockRun, ap, arith, cases_lt, inl, inr, subst, sym, with_numbers, ◌∙◌, ◌≡◌, ◌≤◌}
use Rattle.state_store.proofs.Ahead.{none_further, some_more, none_yet, none_at_all}
use Rattle.state_store.proofs.maps.stock_runs.put_numbers.Goals as goal

pub loop-from-init : goal.loop-from-init
loop-from-init c = (omega arith, λ more. absurd (omega arith), λ held none runs. subst (λ h. AreStockRuns h c.args.rows.now.items) (sym (none_yet held c.args.first c.args.holder.now)) runs)

pub loop-from-preserved : goal.loop-from-preserved
loop-from-preserved c =
    let first = c.args.first in
    let from = c.loop-from.from in
    let holder = c.args.holder.now in
    let row : StockRun = record { first = c.in-Some.number; count = c.min-count.result; holder = holder } in
    let low : first ≤ from = c.loop-from.invariant.0 in
    let at : row.first ≡ from = c.in-Some.ensures.value in (
      omega (arith, low),
      λ _. omega arith,
      λ held none runs.
          subst (λ h. AreStockRuns h c.put_run.new.runs.items) (some_more held first from holder none low row at (λ i. holder))
          (c.in_ok-put_run.ensures (with_numbers held first from holder) (record { some = omega arith; one_prefix = omega arith }) (λ q le. none_further held first from holder none low q (omega (arith, at, le))) (c.loop-from.invariant.2 held none runs)),
    )

pub returns : goal.returns
returns c = λ held none runs.
    let first = c.args.first in
    let from = c.loop-from.from in
    let holder = c.args.holder.now in
    let low : first ≤ from = c.loop-from.invariant.0 in
    let made = c.loop-from.invariant.2 held none runs in
    elim (cases_lt first from) [
      | inl lt ↦
          let over = c.loop-from.invariant.1 lt in
          let same : from ≡ c.args.end = omega (arith, over) in
          subst (λ n. AreStockRuns (with_numbers held first n holder) c.loop-from.rows.items) same made
      | inr le ↦
          let same : from ≡ first = omega (arith, low, le) in
          let none_of = none_yet held first holder ∙ sym (none_at_all held first c.args.end holder (omega (arith, same))) in
          subst (λ h. AreStockRuns h c.loop-from.rows.items) (ap (λ n. with_numbers held first n holder) same ∙ none_of) made
    ]
