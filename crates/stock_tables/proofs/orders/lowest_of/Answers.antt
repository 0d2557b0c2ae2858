use Rattle.stock_tables.proofs.Common.{IsNumber, None, Some, arith, drop, drop_all, end_of, false, given_as, length, passes, serial_of, subst, sym, ◌+◌, ◌<◌, ◌∙◌, ◌≡◌, ◌≤◌}
use Rattle.stock_tables.proofs.Places.{run_parts}
use Rattle.stock_tables.proofs.Lowest.{Left, at_place, as_row, gap_fails, row_fails, goes_on, last_fails, none_fails, whole}
use Rattle.stock_tables.proofs.orders.lowest_of.Goals as goal

pub returns-then-fails : goal.returns-then-fails
returns-then-fails c = λ h stand agree.
    let run = c.args.run.now in
    let near = c.args.near.now in
    let test = c.args.test.now in
    let row = c.row-item.result in
    let next = c.loop-row.next in
    let rest = drop (c.loop-row.row-index + 1) near in
    let parts = run_parts run.count (serial_of run.first) c.requires in
    let end : c.key.result + c.from.result ≡ run.first + run.count = omega (arith, c.key.ensures.value, c.from.ensures) in
    let within : c.loop-row.row-index < length near = omega arith in
    let left = subst (λ l. Left h run test near l next) (at_place row near c.loop-row.row-index within c.row-item.is) (c.loop-row.invariant h stand agree) in
    let low : row.first ≤ c.later-from.result = omega (arith, c.later-from.ensures.second, c.key-in-loop-row.ensures.value) in
    let is = as_row c.later-from.result next c.key-in-loop-row.result row.first c.key-in-loop-row.ensures.value c.later-from.ensures.one in
    let f = c.fails.ensures.0 c.if-fails.true in
    let below : next < run.first + run.count = omega (arith, f.1.0, end) in
    let found = gap_fails h run test near agree row rest next c.later-from.result c.later-from.result left c.later-from.ensures.first low is (f.0, (below, f.1.1)) in
    let number : IsNumber next = omega (arith, below, parts.1, c.key.ensures.bound, c.key.ensures.value) in
    given_as c.of_key.result next (c.of_key.ensures.in_range.1 number) c.of_key.ensures.value ∙ sym (whole h run test ∙ found)

pub returns-then-fails-2 : goal.returns-then-fails-2
returns-then-fails-2 c = λ h stand agree.
    let run = c.args.run.now in
    let near = c.args.near.now in
    let test = c.args.test.now in
    let row = c.row-item.result in
    let next = c.loop-row.next in
    let from = c.later-from.result in
    let rest = drop (c.loop-row.row-index + 1) near in
    let parts = run_parts run.count (serial_of run.first) c.requires in
    let end : c.key.result + c.from.result ≡ run.first + run.count = omega (arith, c.key.ensures.value, c.from.ensures) in
    let within : c.loop-row.row-index < length near = omega arith in
    let left = subst (λ l. Left h run test near l next) (at_place row near c.loop-row.row-index within c.row-item.is) (c.loop-row.invariant h stand agree) in
    let low : row.first ≤ from = omega (arith, c.later-from.ensures.second, c.key-in-loop-row.ensures.value) in
    let is = as_row from next c.key-in-loop-row.result row.first c.key-in-loop-row.ensures.value c.later-from.ensures.one in
    let high : end_of row ≤ c.later-to.result = omega (arith, c.later-to.ensures.second, c.end_key.ensures) in
    let are = as_row c.later-to.result from c.end_key.result (end_of row) c.end_key.ensures c.later-to.ensures.one in
    let f = c.fails-in-loop-row.ensures.0 c.if-fails-2.true in
    let below : from < run.first + run.count = omega (arith, f.1.0, end) in
    let stays : (next < from) × ((next < run.first + run.count) × (passes test None ≡ false)) → ⊥ =
    λ g. (let t = c.fails.ensures.1 (g.0, (omega (arith, g.1.0, end), g.1.1)) in cc) in
    let found = row_fails h run test near agree row rest next from c.later-to.result left c.later-from.ensures.first low is stays c.later-to.ensures.first high are (f.0, (below, f.1.1)) in
    let number : IsNumber from = omega (arith, below, parts.1, c.key.ensures.bound, c.key.ensures.value) in
    given_as c.of_key-then-fails-2.result from (c.of_key-then-fails-2.ensures.in_range.1 number) c.of_key-then-fails-2.ensures.value ∙ sym (whole h run test ∙ found)

pub loop-row-preserved : goal.loop-row-preserved
loop-row-preserved c = λ h stand agree.
    let run = c.args.run.now in
    let near = c.args.near.now in
    let test = c.args.test.now in
    let row = c.row-item.result in
    let next = c.loop-row.next in
    let from = c.later-from.result in
    let rest = drop (c.loop-row.row-index + 1) near in
    let end : c.key.result + c.from.result ≡ run.first + run.count = omega (arith, c.key.ensures.value, c.from.ensures) in
    let within : c.loop-row.row-index < length near = omega arith in
    let left = subst (λ l. Left h run test near l next) (at_place row near c.loop-row.row-index within c.row-item.is) (c.loop-row.invariant h stand agree) in
    let low : row.first ≤ from = omega (arith, c.later-from.ensures.second, c.key-in-loop-row.ensures.value) in
    let is = as_row from next c.key-in-loop-row.result row.first c.key-in-loop-row.ensures.value c.later-from.ensures.one in
    let high : end_of row ≤ c.later-to.result = omega (arith, c.later-to.ensures.second, c.end_key.ensures) in
    let are = as_row c.later-to.result from c.end_key.result (end_of row) c.end_key.ensures c.later-to.ensures.one in
    let stays : (next < from) × ((next < run.first + run.count) × (passes test None ≡ false)) → ⊥ =
    λ g. (let t = c.fails.ensures.1 (g.0, (omega (arith, g.1.0, end), g.1.1)) in cc) in
    let on : (from < c.later-to.result) × ((from < run.first + run.count) × (passes test (Some row.holder) ≡ false)) → ⊥ =
    λ g. (let t = c.fails-in-loop-row.ensures.1 (g.0, (omega (arith, g.1.0, end), g.1.1)) in cc) in
    goes_on h run test near agree row rest next from c.later-to.result left c.later-from.ensures.first low is stays c.later-to.ensures.first high are on

pub returns-then-fails-3 : goal.returns-then-fails-3
returns-then-fails-3 c = λ h stand agree.
    let run = c.args.run.now in
    let near = c.args.near.now in
    let test = c.args.test.now in
    let next = c.loop-row.next in
    let parts = run_parts run.count (serial_of run.first) c.requires in
    let end : c.key.result + c.from.result ≡ run.first + run.count = omega (arith, c.key.ensures.value, c.from.ensures) in
    let left = subst (λ l. Left h run test near l next) (drop_all c.loop-row.row-index near (omega arith)) (c.loop-row.invariant h stand agree) in
    let f = c.fails-2.ensures.0 c.if-fails-3.true in
    let below : next < run.first + run.count = omega (arith, f.1.0, end) in
    let found = last_fails h run test near agree next left (below, (below, f.1.1)) in
    let number : IsNumber next = omega (arith, below, parts.1, c.key.ensures.bound, c.key.ensures.value) in
    given_as c.of_key-then-fails-3.result next (c.of_key-then-fails-3.ensures.in_range.1 number) c.of_key-then-fails-3.ensures.value ∙ sym (whole h run test ∙ found)

pub returns : goal.returns
returns c = λ h stand agree.
    let run = c.args.run.now in
    let near = c.args.near.now in
    let test = c.args.test.now in
    let next = c.loop-row.next in
    let end : c.key.result + c.from.result ≡ run.first + run.count = omega (arith, c.key.ensures.value, c.from.ensures) in
    let left = subst (λ l. Left h run test near l next) (drop_all c.loop-row.row-index near (omega arith)) (c.loop-row.invariant h stand agree) in
    let on : (next < run.first + run.count) × ((next < run.first + run.count) × (passes test None ≡ false)) → ⊥ =
    λ g. (let t = c.fails-2.ensures.1 (omega (arith, g.0, end), (omega (arith, g.0, end), g.1.1)) in cc) in
    sym (whole h run test ∙ none_fails h run test near agree next left on)
