-- Text that is kept is a goods text.
use Rattle.imp_fields.proofs.Common.{Bool, IsTrue, List, and_from, and_parts, ap, arith, cases_lt, drop, ends_in_blank, false, get_or, get_or-reverse, get_or-take, inl, inr, is_blank, is_goods, is_printable, kept_goods, le-leb, length, length-reverse, length-take, length-take-le, list_all, list_all-append, min, not, prefix_len_stops, reverse, subst, suffix_len, sym, take, take-append-drop, take_all, trimmed, true, ℕ, ◌-◌, ◌<◌, ◌∙◌, ◌≡◌, ◌≤◌}

pub list_all-take : {X : Type 0} (p : X → Bool) (n : ℕ) (xs : List X) → list_all p xs ≡ true → list_all p (take n xs) ≡ true
list_all-take p n xs all =
    (and_parts _ _ (sym (list_all-append p (take n xs) (drop n xs)) ∙ ap (list_all p) (take-append-drop n xs) ∙ all)).0

-- the element in front of the run at the end fails the test
pub run_stops : (p : ℕ → Bool) (xs : List ℕ) → suffix_len p xs < length xs → p (get_or xs (length xs - suffix_len p xs - 1) 0) ≡ false
run_stops p xs lt =
    let shorter : suffix_len p xs < length (reverse xs) = subst (λ n. suffix_len p xs < n) (sym (length-reverse xs)) lt in
    let place : length xs - 1 - suffix_len p xs ≡ length xs - suffix_len p xs - 1 = omega arith in
    ap p (ap (λ k. get_or xs k 0) (sym place) ∙ sym (get_or-reverse xs (suffix_len p xs) 0 lt)) ∙ prefix_len_stops p (reverse xs) 0 shorter

pub trimmed_end : (text : List ℕ) → ends_in_blank (trimmed text) ≡ false
trimmed_end text =
    let n = length text - suffix_len is_blank text in
    elim (cases_lt (suffix_len is_blank text) (length text)) [
      | inl lt ↦
          let len : length (take n text) ≡ n = length-take-le n text (omega arith) in
          let before : n - 1 < n = omega (arith, lt) in
          ap (λ k. is_blank (get_or (take n text) (k - 1) 0)) len ∙ ap is_blank (get_or-take n text (n - 1) 0 before) ∙ run_stops is_blank text lt
      | inr le ↦
          let none : n ≡ 0 = omega (arith, le) in
          ap (λ k. ends_in_blank (take k text)) none
    ]

pub kept_is_goods : (text : List ℕ) → IsTrue (list_all is_printable text) → is_goods (kept_goods text) ≡ true
kept_is_goods text all =
    let front = take 15 text in
    let short : length (kept_goods text) ≤ 15 = omega (arith, length-take (length front - suffix_len is_blank front) front, length-take 15 text) in
    and_from _ _ (and_from _ _ (le-leb _ _ short) (list_all-take is_printable (length front - suffix_len is_blank front) front (list_all-take is_printable 15 text all)))
    (ap not (trimmed_end front))

take_min : {X : Type 0} (n : ℕ) (xs : List X) → take (min (length xs) n) xs ≡ take n xs
take_min n xs =
    elim (cases_lt (length xs) n) [
      | inl lt ↦
          let least : min (length xs) n ≡ length xs = omega (arith, lt) in
          ap (λ k. take k xs) least ∙ take_all (length xs) xs (omega arith) ∙ sym (take_all n xs (omega (arith, lt)))
      | inr le ↦ let least : min (length xs) n ≡ n = omega (arith, le) in ap (λ k. take k xs) least
    ]

-- what is kept, as the code cuts it
pub kept_is : (text : List ℕ) (n s : ℕ) → n ≡ min (length text) 15 → s ≡ suffix_len is_blank (take n text)
    → take (length (take n text) - s) (take n text) ≡ kept_goods text
kept_is text n s least run =
    let front : take n text ≡ take 15 text = ap (λ k. take k text) least ∙ take_min 15 text in
    ap (λ k. take (length (take n text) - k) (take n text)) run ∙ ap (λ f. take (length f - suffix_len is_blank f) f) front
