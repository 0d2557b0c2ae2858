-- What is declared of a waybill is written.
use Rattle.std.proofs.Common.{◌≡◌, ◌==◌, ℕ, zero, suc, pos, Bool, true, false, cond, Option, Some, None, option_map, List, int_eq, refl, sym, ap, ◌∙◌, arith}
use Rattle.std.specs.Bool.{if◌then◌else◌}
use Rattle.row_codec.proofs.Common.{Declare, Declared, Means, State, Tables, Waybill, changing_waybill, declared_by, declared_in, flag, get_by, insert_by, is_set, is_waybill_row, meaning_of, on_cargo, since_column, since_of, update_where, waybill_id, waybill_row, with_waybill, written}
use Rattle.row_codec.proofs.Listed.{get_by-insert_by, list_all-insert_by, get_by-update_where, list_all-update_where}
use Rattle.row_codec.proofs.Fits.{not_zero}
use Rattle.row_codec.proofs.Tests.{int_pos, is_int}

pub flag_again : (set : Bool) → is_set (flag set) ≡ set
flag_again true = refl
flag_again false = refl

since_again : (o : Option ℕ) → since_of (since_column o) ≡ o
since_again None = refl
since_again (Some zero) = refl
since_again (Some (suc n)) = ap (λ (b : Bool). if b then None else Some (suc n)) (not_zero n)

pub declared_again : (w : ℕ) (d : Declared) → declared_by (waybill_row w d) ≡ d
declared_again w d = λ i. record d { notified = flag_again d.notified i; since = since_again d.since i }

module _ (t : Tables) (w : ℕ) (d : Declared) where
  chosen : (b : Bool) (x : Waybill) (o : Option Waybill) → option_map declared_by (cond b (Some x) o) ≡ cond b (Some (declared_by x)) (option_map declared_by o)
  chosen b x o = grind arith

  inserted : (q : ℕ) → declared_in (insert_by waybill_id t.waybills (waybill_row w d)) q ≡ cond (q == w) (Some d) (declared_in t.waybills q)
  inserted q =
      ap (option_map declared_by) (get_by-insert_by waybill_id t.waybills (waybill_row w d) (pos q))
      ∙ chosen (int_eq (pos w) (pos q)) (waybill_row w d) (get_by waybill_id t.waybills (pos q))
      ∙ (λ i. cond (int_pos w q i) (Some (declared_again w d i)) (declared_in t.waybills q))

  -- the row of the waybill, changed
  abbrev changed : Waybill → Waybill
  changed x = record (waybill_row w d) { awb = x.awb }

  same_row : (x : Waybill) → int_eq (waybill_id x) (pos w) ≡ true → waybill_row w d ≡ changed x
  same_row x e = λ i. record (waybill_row w d) { awb = sym (is_int x.awb (pos w) e) i }

  updated : (was : Waybill) → get_by waybill_id t.waybills (pos w) ≡ Some was → (q : ℕ)
      → declared_in (update_where (λ x. int_eq (waybill_id x) (pos w)) changed t.waybills) q ≡ cond (q == w) (Some d) (declared_in t.waybills q)
  updated was has q =
      ap (option_map declared_by) (get_by-update_where waybill_id (pos w) changed (λ x. refl) t.waybills (pos q))
      ∙ go (int_eq (pos w) (pos q)) refl
      ∙ (λ i. cond (int_pos w q i) (Some d) (declared_in t.waybills q))
    where
      here : int_eq (pos w) (pos q) ≡ true → get_by waybill_id t.waybills (pos q) ≡ Some was
      here e = ap (get_by waybill_id t.waybills) (sym (is_int (pos w) (pos q) e)) ∙ has

      go : (b : Bool) → int_eq (pos w) (pos q) ≡ b → option_map declared_by (cond b (option_map changed (get_by waybill_id t.waybills (pos q))) (get_by waybill_id t.waybills (pos q))) ≡ cond b (Some d) (declared_in t.waybills q)
      go true e = ap (λ o. option_map declared_by (option_map changed o)) (here e) ∙ ap (λ (x : Declared). Some x) (declared_again w d)
      go false e = refl

  module _ (s : State) (text : List ℕ) (fits : is_waybill_row (waybill_row w d) ≡ true) (means : Means t (Some s)) where
    -- a row that is added
    pub declares : Means (with_waybill (waybill_row w d) t) (Some (on_cargo (written text (Declare w d)) s))
    declares = (
      assumption (list_all-insert_by waybill_id is_waybill_row t.waybills (waybill_row w d) fits means.0.waybills, means),
      (λ i. record (meaning_of t) { cargo = record (meaning_of t).cargo { declared = λ q. inserted q i } }) ∙ ap (on_cargo (written text (Declare w d))) means.1,
    )

    -- a row that is there
    pub declares_again : (was : Waybill) → get_by waybill_id t.waybills (pos w) ≡ Some was → Means (changing_waybill (waybill_row w d) t) (Some (on_cargo (written text (Declare w d)) s))
    declares_again was has = (
      assumption (list_all-update_where is_waybill_row (λ x. int_eq (waybill_id x) (pos w)) changed (λ x e. ap is_waybill_row (sym (same_row x e)) ∙ fits) t.waybills means.0.waybills, means),
      (λ i. record (meaning_of t) { cargo = record (meaning_of t).cargo { declared = λ q. updated was has q i } }) ∙ ap (on_cargo (written text (Declare w d))) means.1,
    )
