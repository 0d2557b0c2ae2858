use Rattle.stock_tables.proofs.Common.{ap, ap₂, are_enough, arith, entries, filter, ints, last_rows_up_to, map, of_z, pos, prefix_of, reaches, run_in, serial_of, stock_meant, sym, to_z, true, w64, ℤ, ◌+ℤ◌, ◌+◌, ◌∙◌, ◌≡◌}
use Rattle.stock_tables.proofs.Held.{near_is_last}
use Rattle.stock_tables.proofs.Showing.{made_of}
use Rattle.stock_tables.proofs.near.near_at_once.Goals as goal

pub returns-in-Some-reaching_rows : goal.returns-in-Some-reaching_rows
returns-in-Some-reaching_rows g c = made_of (g.S.TableStore.view c.args.store.now) _ _ _ c.in_ok-rows.ensures (λ seen showing sound stocked.
    let run = c.args.run.now in
    let p : ℤ = to_z w64 (of_z w64 c.from-3.result) in
    let e : ℤ = to_z w64 (of_z w64 (to_z w64 (of_z w64 c.from.result) +ℤ to_z w64 (of_z w64 c.from-2.result))) in
    let prefix : p ≡ pos (prefix_of run.first) = omega (arith, ints, c.from-3.ensures, c.prefix.ensures.value) in
    let last : e ≡ pos (serial_of run.first + run.count) = omega (arith, ints, c.from.ensures, c.serial.ensures.value, c.serial.ensures.bound, c.from-2.ensures, c.number.ensures.value, c.number.ensures.in_range) in
    let items = c.in_ok-rows.rows.items in
    let read : map stock_meant items ≡ last_rows_up_to (pos (prefix_of run.first)) (pos (serial_of run.first + run.count)) 3 (entries seen.now.stock) =
    c.in_ok-rows.ensures.read seen showing sound ∙ ap₂ (λ (n l : ℤ). last_rows_up_to n l 3 (entries seen.now.stock)) prefix last in
    let rows : c.in-Some.rows.items ≡ map run_in (map stock_meant items) = c.in-Some.ensures ∙ ap (λ l. map run_in (map stock_meant l)) c.deref.ensures.value in
    let enough : are_enough 3 run (map run_in (map stock_meant items)) ≡ true =
    sym (c.are_all_near.ensures ∙ ap (are_enough 3 run) (c.deref-2.ensures.value ∙ rows)) ∙ c.if-not-are_all_near.false in
    c.in-Some-reaching_rows.ensures ∙ ap (filter (reaches run)) (c.deref-3.ensures.value ∙ rows) ∙ near_is_last seen.now.stock stocked run 3 items read enough)
