use Rattle.stock_tables.proofs.Common.{AllByRecursion, Before, Behind, IsRunRow, arith, rules, serial_of, subst, sym, ◌+◌, ◌-◌, ◌≡◌, ◌≤◌}
use Rattle.agent_stock.specs.declared.runs.StockRun.{StockRun as Row}
use Rattle.stock_tables.proofs.Places.{run_parts, near_rows, all_assigned, all_runs, high_within, size_within, prefix_low, low_at, high_at, beside_rows}
use Rattle.stock_tables.proofs.joining.join_rows.Goals as goal

pub returns-in_err-high-clause-some : goal.returns-in_err-high-clause-some
returns-in_err-high-clause-some c = λ before after runs touch.
    let run = c.args.run.now in
    let end : run.first + run.count ≡ c.key-first.result + c.from.result = omega (arith, c.key-first.ensures.value, c.from.ensures) in
    let rows = near_rows run c.args.near.now before after runs touch in
    let parts = run_parts run.count (serial_of run.first) c.requires in
    let fits : c.key-first.result + c.from.result ≤ 10_000_000_000 = omega (arith, end, parts.1, c.key-first.ensures.bound, c.key-first.ensures.value) in
    let some = c.behind.ensures.some fits (subst (λ n. AllByRecursion (λ (row : Row). (row.first ≤ n) × IsRunRow row) c.args.near.now) end rows) in
    search (rules, some)

pub returns-in_err-count-clause-some : goal.returns-in_err-count-clause-some
returns-in_err-count-clause-some c = λ before after runs touch.
    let low = low_at c.key-first.result c.args.to.now c.args.near.now c.in_ok-low.low c.in_ok-low.left c.in_ok-low.ensures.cut in
    let high = high_at (c.key-first.result + c.from.result) c.args.to.now c.args.near.now c.in_ok-high.high c.in_ok-high.right c.in_ok-high.ensures.cut in
    absurd (c.in_err-count.ensures (omega (arith, low, high)))

pub returns-then-count-gt-SERIALS-clause-some : goal.returns-then-count-gt-SERIALS-clause-some
returns-then-count-gt-SERIALS-clause-some c = λ before after runs touch.
    let run = c.args.run.now in
    let to = c.args.to.now in
    let near = c.args.near.now in
    let parts = run_parts run.count (serial_of run.first) c.requires in
    let end : c.key-first.result + c.from.result ≡ run.first + run.count = omega (arith, c.key-first.ensures.value, c.from.ensures) in
    let l : Before run.first to near c.in_ok-low.low c.in_ok-low.left = subst (λ n. Before n to near c.in_ok-low.low c.in_ok-low.left) c.key-first.ensures.value c.in_ok-low.ensures.cut in
    let r : Behind (run.first + run.count) to near c.in_ok-high.high c.in_ok-high.right = subst (λ n. Behind n to near c.in_ok-high.high c.in_ok-high.right) end c.in_ok-high.ensures.cut in
    let is : c.in_ok-low.low + (c.in_ok-high.high - c.in_ok-low.low) ≡ c.in_ok-high.high = omega (arith, c.in_ok-count.ensures.0) in
    let most = high_within run to near c.in_ok-low.left c.in_ok-high.right c.in_ok-low.low c.in_ok-high.high (c.in_ok-high.high - c.in_ok-low.low) parts.0 parts.1 touch l r is before after runs in
    let size = size_within run.first c.in_ok-low.low c.in_ok-high.high (prefix_low run to near c.in_ok-low.low c.in_ok-low.left touch l) most in
    absurd (omega (arith, size, c.in_ok-count.ensures.1, c.if-count-gt-SERIALS.true))

pub returns-clause-assigned : goal.returns-clause-assigned
returns-clause-assigned c = λ before after runs around touch.
    let run = c.args.run.now in
    let to = c.args.to.now in
    let near = c.args.near.now in
    let parts = run_parts run.count (serial_of run.first) c.requires in
    let end : c.key-first.result + c.from.result ≡ run.first + run.count = omega (arith, c.key-first.ensures.value, c.from.ensures) in
    let number : c.in_ok-low.low ≡ c.in_ok-of_key.field-0 = sym c.in_ok-of_key.ensures.value in
    let l : Before run.first to near c.in_ok-of_key.field-0 c.in_ok-low.left =
    subst (λ m. Before run.first to near m c.in_ok-low.left) number (subst (λ n. Before n to near c.in_ok-low.low c.in_ok-low.left) c.key-first.ensures.value c.in_ok-low.ensures.cut) in
    let r : Behind (run.first + run.count) to near c.in_ok-high.high c.in_ok-high.right = subst (λ n. Behind n to near c.in_ok-high.high c.in_ok-high.right) end c.in_ok-high.ensures.cut in
    let is : c.in_ok-of_key.field-0 + c.in_ok-count.count ≡ c.in_ok-high.high = omega (arith, number, c.in_ok-count.ensures.0, c.in_ok-count.ensures.1) in
    all_assigned run to near c.in_ok-low.left c.in_ok-high.right c.in_ok-of_key.field-0 c.in_ok-high.high c.in_ok-count.count parts.0 parts.1 touch l r is before after runs around

pub returns-clause-runs : goal.returns-clause-runs
returns-clause-runs c = λ before after runs around touch.
    let run = c.args.run.now in
    let to = c.args.to.now in
    let near = c.args.near.now in
    let parts = run_parts run.count (serial_of run.first) c.requires in
    let end : c.key-first.result + c.from.result ≡ run.first + run.count = omega (arith, c.key-first.ensures.value, c.from.ensures) in
    let number : c.in_ok-low.low ≡ c.in_ok-of_key.field-0 = sym c.in_ok-of_key.ensures.value in
    let l : Before run.first to near c.in_ok-of_key.field-0 c.in_ok-low.left =
    subst (λ m. Before run.first to near m c.in_ok-low.left) number (subst (λ n. Before n to near c.in_ok-low.low c.in_ok-low.left) c.key-first.ensures.value c.in_ok-low.ensures.cut) in
    let r : Behind (run.first + run.count) to near c.in_ok-high.high c.in_ok-high.right = subst (λ n. Behind n to near c.in_ok-high.high c.in_ok-high.right) end c.in_ok-high.ensures.cut in
    let is : c.in_ok-of_key.field-0 + c.in_ok-count.count ≡ c.in_ok-high.high = omega (arith, number, c.in_ok-count.ensures.0, c.in_ok-count.ensures.1) in
    all_runs run to near c.in_ok-low.left c.in_ok-high.right c.in_ok-of_key.field-0 c.in_ok-high.high c.in_ok-count.count parts.0 parts.1 touch l r is before after runs around

pub returns-clause-beside : goal.returns-clause-beside
returns-clause-beside c =
    let number : c.in_ok-low.low ≡ c.in_ok-of_key.field-0 = sym c.in_ok-of_key.ensures.value in
    let goes : c.in_ok-high.high ≡ c.in_ok-of_key.field-0 + c.in_ok-count.count = omega (arith, number, c.in_ok-count.ensures.0, c.in_ok-count.ensures.1) in
    beside_rows c.key-first.result (c.key-first.result + c.from.result) c.args.to.now c.args.near.now c.in_ok-low.left c.in_ok-high.right c.in_ok-low.low c.in_ok-high.high c.in_ok-of_key.field-0 c.in_ok-count.count
    c.in_ok-low.ensures.cut c.in_ok-high.ensures.cut number goes
