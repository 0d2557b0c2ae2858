use Rattle.stock_tables.proofs.Common.{Holder, IfOk, Option, StockRow, ap, ap₂, arith, entries, holder_at, holders_in, ints, last_up_to, of_z, option_and_then, option_map, pos, prefix_of, run_in, serial_of, stock_meant, subst, sym, to_z, w64, ℤ, ◌∙◌, ◌≡◌}
use Rattle.stock_tables.proofs.Showing.{if_given, made_of}
use Rattle.stock_tables.proofs.Held.{held_is}
use Rattle.stock_tables.proofs.giving.holder.Goals as goal

pub returns-in-Some : goal.returns-in-Some
returns-in-Some g c = made_of (g.S.TableStore.view c.args.store.now) _ _ _ c.in_ok-row.ensures (λ x showing sound. if_given _ c.holder_in.result (λ stocked.
    let n = c.args.awb.now in
    let prefix : to_z w64 (of_z w64 c.from.result) ≡ pos (prefix_of n) = omega (arith, ints, c.from.ensures, c.prefix.ensures.value) in
    let serial : to_z w64 (of_z w64 c.from-2.result) ≡ pos (serial_of n) = omega (arith, ints, c.from-2.ensures, c.serial.ensures.value) in
    let read : option_map stock_meant c.in_ok-row.row ≡ last_up_to (pos (prefix_of n)) (pos (serial_of n)) (entries x.now.stock) =
    c.in_ok-row.ensures.read x showing sound ∙ ap₂ (λ (p l : ℤ). last_up_to p l (entries x.now.stock)) prefix serial in
    let is : holder_at n (run_in (stock_meant c.in-Some.row)) ≡ holders_in x.now.stock n =
    sym (ap (option_and_then (λ (row : StockRow). holder_at n (run_in (stock_meant row)))) c.in-Some.is) ∙ held_is x.now.stock stocked n c.in_ok-row.row read in
    subst (λ (h : Option Holder). IfOk c.holder_in.result (λ holder. holder ≡ h)) is c.holder_in.ensures))

pub returns-in-None : goal.returns-in-None
returns-in-None g c = made_of (g.S.TableStore.view c.args.store.now) _ _ _ c.in_ok-row.ensures (λ x showing sound. λ stocked.
    let n = c.args.awb.now in
    let prefix : to_z w64 (of_z w64 c.from.result) ≡ pos (prefix_of n) = omega (arith, ints, c.from.ensures, c.prefix.ensures.value) in
    let serial : to_z w64 (of_z w64 c.from-2.result) ≡ pos (serial_of n) = omega (arith, ints, c.from-2.ensures, c.serial.ensures.value) in
    let read : option_map stock_meant c.in_ok-row.row ≡ last_up_to (pos (prefix_of n)) (pos (serial_of n)) (entries x.now.stock) =
    c.in_ok-row.ensures.read x showing sound ∙ ap₂ (λ (p l : ℤ). last_up_to p l (entries x.now.stock)) prefix serial in
    sym (ap (option_and_then (λ (row : StockRow). holder_at n (run_in (stock_meant row)))) c.in-None.is) ∙ held_is x.now.stock stocked n c.in_ok-row.row read)
