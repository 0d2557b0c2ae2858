-- The rows of `stock` are lawful exactly where the table is.
use Rattle.table_audits.proofs.Common.{AllByRecursion, AreStocks, Bool, IsLawfulStock, IsSome, List, None, Option, Some, Stock, StockKey, Tables, all_both, all_from_test, all_weaker, ap, are_apart, arith, cargo_in, cond, entries, false, find, has_waybill, holder_by, holders_in, int_eq, ints, is_agent_code, is_some, is_stock_row, length, option_and_then, pos, refl, stands_for, test_from_all, true, ℕ, ◌==◌, ◌∙◌, ◌≡◌}
use Rattle.agent_stock.specs.declared.stock.Holder.{Holder}
use Rattle.agent_stock.specs.declared.stock.Holder.TheVariants as holder
use Rattle.table_audits.proofs.Each.{found_holds, found_test}
use Rattle.table_audits.proofs.DeclaredLaws.{declared_from, declared_back}
use Rattle.table_audits.proofs.StockRows.{in_range, between, stands, IsFound, each_found}

-- ---- who holds a row's number

abbrev held_if : List ℕ → Bool → Bool → Bool → Bool → Bool → Bool → Option Holder
held_if agent one code empty zero two three =
    cond one (cond code (Some (holder.Agent agent)) None) (cond empty (cond zero (Some holder.Desk) (cond two (Some holder.Used) (cond three (Some holder.Void) None))) None)

used_if : (agent : List ℕ) (one code empty zero two three : Bool) → held_if agent one code empty zero two three ≡ Some holder.Used → two ≡ true
used_if agent true true empty zero two three h = absurd (cc)
used_if agent true false empty zero two three h = absurd (cc)
used_if agent false code false zero two three h = absurd (cc)
used_if agent false code true true two three h = absurd (cc)
used_if agent false code true false true three h = refl
used_if agent false code true false false true h = absurd (cc)
used_if agent false code true false false false h = absurd (cc)

held_used : (agent : List ℕ) (one code empty zero two three : Bool) → one ≡ false → zero ≡ false → two ≡ true → is_some (held_if agent one code empty zero two three) ≡ true → held_if agent one code empty zero two three ≡ Some holder.Used
held_used agent false code true false true three a b d h = refl
held_used agent _ _ _ _ _ _ a b d h = absurd (cc)

used_row : (s : Stock) → holder_by s ≡ Some holder.Used → int_eq s.holder (pos 2) ≡ true
used_row s h = used_if s.agent (int_eq s.holder (pos 1)) (is_agent_code s.agent) (length s.agent == 0) (int_eq s.holder (pos 0)) (int_eq s.holder (pos 2)) (int_eq s.holder (pos 3)) h

is_used : (s : Stock) → is_some (holder_by s) ≡ true → int_eq s.holder (pos 2) ≡ true → holder_by s ≡ Some holder.Used
is_used s some two = held_used s.agent (int_eq s.holder (pos 1)) (is_agent_code s.agent) (length s.agent == 0) (int_eq s.holder (pos 0)) (int_eq s.holder (pos 2)) (int_eq s.holder (pos 3)) (grind (arith, ints)) (grind (arith, ints)) two some

-- ---- the table

module _ (t : Tables) where
  pub are_stocks : are_apart (entries t.stock) ≡ true → AllByRecursion (IsLawfulStock t.waybills) (entries t.stock) → AreStocks t
  are_stocks apart all = record {
    rows = record { rows = test_from_all is_stock_row (entries t.stock) (all_weaker (IsLawfulStock t.waybills) (λ e. is_stock_row e ≡ true) (λ e h. h.0) (entries t.stock) all); apart = apart };
    used = λ w h. go w (find (stands_for w) (entries t.stock)) refl h;
  }
    where
      go : (w : ℕ) (o : Option (StockKey × Stock)) → find (stands_for w) (entries t.stock) ≡ o → option_and_then (λ row. holder_by row.1) o ≡ Some holder.Used → IsSome ((cargo_in t).declared w)
      go w None is h = absurd (cc)
      go w (Some e) is h =
          let lawful = found_holds (IsLawfulStock t.waybills) (stands_for w) (entries t.stock) e all is in
          let range = in_range e lawful.0 in
          let number = between e.0.0 e.0.1 e.1.high w range.prefix range.low range.some (found_test (stands_for w) (entries t.stock) e is) in
          declared_from t.waybills w (lawful.1 (used_row e.1 h) (pos w) number.from number.to)

  pub lawful_stocks : AreStocks t → AllByRecursion (IsLawfulStock t.waybills) (entries t.stock)
  lawful_stocks law = all_both (λ e. is_stock_row e ≡ true) (IsFound (entries t.stock)) (IsLawfulStock t.waybills) go (entries t.stock) (all_from_test is_stock_row (entries t.stock) law.rows.rows) (each_found (entries t.stock) law.rows.rows law.rows.apart)
    where
      go : (e : StockKey × Stock) → is_stock_row e ≡ true → IsFound (entries t.stock) e → IsLawfulStock t.waybills e
      go e fits found = (
        fits,
        λ two n from to.
            let range = in_range e fits in
            let number = stands e.0.0 e.0.1 e.1.high n range.prefix range.low range.some range.high from to in
            let used : holders_in t.stock number.0 ≡ Some holder.Used = ap (option_and_then (λ row. holder_by row.1)) (found number.0 number.2) ∙ is_used e.1 range.held two in
            ap (has_waybill t.waybills) number.1 ∙ declared_back t.waybills number.0 (law.used number.0 used),
      )
