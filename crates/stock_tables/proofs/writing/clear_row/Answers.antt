use Rattle.stock_tables.proofs.Common.{Bool, FinMap, IsShowing, Stock, ap, arith, begins, cond, false, inside, ints, key_of, of_z, pos, prefix_of, remove, restocked, serial_of, stock_cmp, subst, sym, to_z, w64, without, written, ◌∙◌, ◌≡◌}
use Rattle.stock_tables.proofs.writing.clear_row.Goals as goal

pub returns-clause-done : goal.returns-clause-done
returns-clause-done g c = λ before now showing.
    let row = c.args.row.now in
    let new = written c.args.new.now in
    let gone : begins row.first new ≡ false = sym c.keeps.ensures ∙ c.if-keeps.false in
    let prefix : to_z w64 (of_z w64 c.from-prefix.result) ≡ pos (prefix_of row.first) = omega (arith, ints, c.from-prefix.ensures, c.prefix.ensures.value) in
    let low : to_z w64 (of_z w64 c.from.result) ≡ pos (serial_of row.first) = omega (arith, ints, c.from.ensures, c.serial.ensures.value) in
    let same : remove now.stock (to_z w64 (of_z w64 c.from-prefix.result), to_z w64 (of_z w64 c.from.result)) ≡ without new row now.stock =
    (λ i. remove now.stock (prefix i, low i)) ∙ sym (ap (λ (b : Bool). cond b now.stock (remove now.stock (key_of row.first))) gone) in
    subst (λ (m : FinMap stock_cmp Stock). IsShowing (g.S.TableStore.view c.write.new.self) (inside before (restocked m now))) same (c.in_ok-write.ensures.made.done before now showing)
