use Rattle.stock_tables.proofs.Common.{List, StockRow, StockRun, ap, ap₂, arith, entries, filter, ints, is_between, last_up_to, map, of_z, option_map, pos, prefix_of, run_in, serial_of, stock_meant, to_z, w64, ℤ, ◌++◌, ◌+ℤ◌, ◌+◌, ◌-ℤ◌, ◌∙◌, ◌≡◌}
use Rattle.stock_tables.proofs.Held.{near_is}
use Rattle.stock_tables.proofs.Showing.{made_of, reads_after}
use Rattle.stock_tables.proofs.near.near_by_two.Goals as goal

pub returns-in-Some : goal.returns-in-Some
returns-in-Some g c = made_of (g.S.TableStore.view c.args.store.now) _ _ _ (reads_after _ _ _ _ c.in_ok-row.ensures c.in_ok-rows.ensures) (λ seen showing sound stocked.
    let run = c.args.run.now in
    let down = c.read-2.ensures.survives.sound sound in
    let p : ℤ = to_z w64 (of_z w64 c.from-prefix.result) in
    let f : ℤ = to_z w64 (of_z w64 c.from-first.result) in
    let z : ℤ = to_z w64 (of_z w64 (to_z w64 (of_z w64 c.from-first.result) -ℤ pos 1)) in
    let e : ℤ = to_z w64 (of_z w64 (to_z w64 (of_z w64 c.from-first.result) +ℤ to_z w64 (of_z w64 c.from.result))) in
    let prefix : p ≡ pos (prefix_of run.first) = omega (arith, ints, c.from-prefix.ensures, c.prefix.ensures.value) in
    let first : f ≡ pos (serial_of run.first) = omega (arith, ints, c.from-first.ensures, c.serial.ensures.value) in
    let low : z +ℤ pos 1 ≡ pos (serial_of run.first) = omega (arith, ints, c.from-first.ensures, c.serial.ensures.value, c.serial.ensures.bound) in
    let last : e ≡ pos (serial_of run.first + run.count) = omega (arith, ints, c.from-first.ensures, c.serial.ensures.value, c.serial.ensures.bound, c.from.ensures, c.number.ensures.value, c.number.ensures.in_range) in
    let read : option_map stock_meant c.in_ok-row.row ≡ last_up_to (pos (prefix_of run.first)) z (entries seen.now.stock) =
    c.in_ok-row.ensures.read seen showing down ∙ ap (λ (n : ℤ). last_up_to n z (entries seen.now.stock)) prefix in
    let rows : map stock_meant c.in_ok-rows.rows.items ≡ filter (is_between (pos (prefix_of run.first)) (pos (serial_of run.first)) (pos (serial_of run.first + run.count))) (entries seen.now.stock) =
    c.in_ok-rows.ensures.read seen (c.in_ok-row.ensures.same seen showing) sound ∙ (λ i. filter (is_between (prefix i) (first i) (last i)) (entries seen.now.stock)) in
    c.in-Some.ensures
    ∙ ap₂ (λ (a : List StockRun) (b : List StockRow). a ++ map run_in (map stock_meant b)) (c.deref.ensures.value ∙ c.in_ok-ahead.ensures) c.deref-2.ensures.value
    ∙ near_is seen.now.stock stocked run z low c.in_ok-row.row read c.in_ok-rows.rows.items rows)
