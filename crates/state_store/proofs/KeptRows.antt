-- What is kept under keys and of texts, with one more.
use Rattle.std.proofs.Common.{◌≡◌, ◌∙◌, ℕ, ◌<◌, ◌≤◌, Bool, true, false, cond, List, [], ◌∷◌, length, Option, Some, None, option_map, inl, inr, refl, sym, ap, arith, String}
use Rattle.state_store.proofs.Common.{Vec, bytes_eq, bytes_eq-true, cases_lt, keeping, keeping_text, lookup, nat_list_eq_equiv, string_bytes, ◌^◌}
use Rattle.std.specs.HashMap.{HashMap, get, get_by}
use Rattle.state_store.specs.Store.{count_under, kept_in, kept_under}

-- two names are the same bytes
abbrev pub same_bytes : {Z : Type 0} → Vec ℕ Z → Vec ℕ Z → Bool
same_bytes a b = bytes_eq a.items b.items

swapped : {X : Type 0} (a b : List ℕ) (x y : X) → cond (bytes_eq a b) x y ≡ cond (bytes_eq b a) x y
swapped a b x y = ap (λ t. cond t x y) (nat_list_eq_equiv.symm a b)

pub mapped : {X V : Type 0} (value : X → V) (b : Bool) (one : X) (o : Option X) → option_map value (cond b (Some one) o) ≡ cond b (Some (value one)) (option_map value o)
mapped value true one o = refl
mapped value false one o = refl

-- no vector has so many bytes
not_these : {Z : Type 0} (t : List ℕ) (v : Vec ℕ Z) → 2 ^ 63 ≤ length t → bytes_eq t v.items ≡ false
not_these t v long = elim (bytes_eq t v.items) as (λ b. bytes_eq t v.items ≡ b → b ≡ false) [
  | true ↦ λ same. let is : length t ≡ length v.items = ap length (bytes_eq-true t v.items same) in absurd (omega (arith, long, is, v.ok.0, v.ok.1, v.small))
  | false ↦ λ _. refl
] refl

none_of : {X Z : Type 0} (t : List ℕ) → 2 ^ 63 ≤ length t → (es : List (Vec ℕ Z × X)) → lookup (λ k. bytes_eq t k.items) es ≡ None
none_of t long [] = refl
none_of t long (e ∷ es) = ap (λ b. cond b (Some e.1) (lookup (λ k. bytes_eq t k.items) es)) (not_these t e.0 long) ∙ none_of t long es

module _ {X Z S : Type 0} (old new : HashMap (Vec ℕ Z) X S) (name : Vec ℕ Z) where
  abbrev at : HashMap (Vec ℕ Z) X S → List ℕ → Option X
  at m t = get_by (λ k. bytes_eq t k.items) m

  -- a vector of these bytes
  abbrev of_bytes : (t : List ℕ) → length t < 2 ^ 63 → Vec ℕ Z
  of_bytes t fits = record name { items = t; len = length t; cap = length t; ok = (refl, omega arith); small = fits }

  put_at : (text : List ℕ) (one : X) → name.items ≡ text → ((q : Vec ℕ Z) → get same_bytes new q ≡ cond (same_bytes name q) (Some one) (get same_bytes old q))
      → (t : List ℕ) → at new t ≡ cond (bytes_eq t text) (Some one) (at old t)
  put_at text one is put t = elim (cases_lt (length t) (2 ^ 63)) [
    | inl fits ↦
        put (of_bytes t fits) ∙ swapped name.items t (Some one) (at old t)
        ∙ ap (λ n. cond (bytes_eq t n) (Some one) (at old t)) is
    | inr long ↦
        none_of t long new.entries ∙ sym (none_of t long old.entries)
        ∙ sym (ap (λ b. cond b (Some one) (at old t)) (ap (bytes_eq t) (sym is) ∙ not_these t name long))
  ]

module _ {Y Z S : Type 0} (old new : HashMap (Vec ℕ Z) (String Y × ℕ) S) (name : Vec ℕ Z) where
  pub keyed_more : (one : String Y × ℕ) (key request : List ℕ) → name.items ≡ key → string_bytes one.0 ≡ request
      → ((q : Vec ℕ Z) → get same_bytes new q ≡ cond (same_bytes name q) (Some one) (get same_bytes old q))
      → (k : List ℕ) → kept_under new k ≡ keeping (kept_under old) key (record { request = request; count = one.1 }) k
  keyed_more one key request is asked put k =
      ap (option_map kept_in) (put_at old new name key one is put k)
      ∙ mapped kept_in (bytes_eq k key) one (get_by (λ n. bytes_eq k n.items) old)
      ∙ (λ j. keeping (kept_under old) key (record { request = asked j; count = one.1 }) k)

module _ {Z S : Type 0} (old new : HashMap (Vec ℕ Z) ℕ S) (name : Vec ℕ Z) where
  pub texts_kept : (count : ℕ) (text : List ℕ) → name.items ≡ text
      → ((q : Vec ℕ Z) → get same_bytes new q ≡ cond (same_bytes name q) (Some count) (get same_bytes old q))
      → (t : List ℕ) → count_under new t ≡ keeping_text (count_under old) text count t
  texts_kept count text is put t = put_at old new name text count is put t
