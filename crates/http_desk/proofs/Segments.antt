-- Paths, and the segments that they are printed from.
use Rattle.std.proofs.Common.{arith, inl, inr, ◌≡◌, ◌∙◌, ap, sym, refl, ℕ, suc, ◌+◌, ◌<◌, Bool, cond, true, false, Some, None, Option, List, [], ◌∷◌, ◌++◌, length, take, drop, codes, length-append, append_assoc, take-append-drop}
use Rattle.http_desk.proofs.Common.{after_first, and_from, and_parts, before_first, by_segments, by_slash, bytes_eq, bytes_eq-true, drop-append_seam, has_slash, if◌then◌else◌, is_ascii_graphic, is_slash, list_all, list_all-append, nat_le, nat_lt, nat_tests, not, path_text, position_or_len, take-append_seam, ◌&&◌, ◌==◌, ◌⊎◌}

pub all_weaker : (p q : ℕ → Bool) → ((b : ℕ) → p b ≡ true → q b ≡ true) → (xs : List ℕ) → list_all p xs ≡ true → list_all q xs ≡ true
all_weaker p q weaker [] all = refl
all_weaker p q weaker (x ∷ xs) all =
    let parts = and_parts (p x) (list_all p xs) all in
    and_from _ _ (weaker x parts.0) (all_weaker p q weaker xs parts.1)

pub join : (p : ℕ → Bool) (a b : List ℕ) → list_all p a ≡ true → list_all p b ≡ true → list_all p (a ++ b) ≡ true
join p a b front back = list_all-append p a b ∙ and_from _ _ front back

-- The bytes of a segment, and those of a path.

abbrev pub is_path_good : ℕ → Bool
is_path_good b = is_ascii_graphic b && (not (b == 46) && not (b == 63))

abbrev pub is_segment_byte : ℕ → Bool
is_segment_byte b = is_path_good b && not (is_slash b)

abbrev pub is_segment : List ℕ → Bool
is_segment s = nat_le (length s) 20 && list_all is_segment_byte s

abbrev is_plain : ℕ → Bool
is_plain b = not (is_slash b)

pub plain : (s : List ℕ) → is_segment s ≡ true → list_all is_plain s ≡ true
plain s h =
    all_weaker is_segment_byte is_plain (λ b h. (and_parts (is_path_good b) (is_plain b) h).1) s
    (and_parts (nat_le (length s) 20) (list_all is_segment_byte s) h).1

-- What is printed is read as it was.

suc_is : (n m : ℕ) → n ≡ m → 1 + n ≡ suc m
suc_is n m e = omega (arith, e)

place_is : (text more : List ℕ) → list_all is_plain text ≡ true → position_or_len is_slash (text ++ 47 ∷ more) ≡ length text
place_is [] more all = refl
place_is (b ∷ bs) more all =
    let parts = and_parts (is_plain b) (list_all is_plain bs) all in
    ap (λ (t : Bool). cond t (1 + position_or_len is_slash (bs ++ 47 ∷ more)) 0) parts.0
    ∙ suc_is (position_or_len is_slash (bs ++ 47 ∷ more)) (length bs) (place_is bs more parts.1)

end_is : (text : List ℕ) → list_all is_plain text ≡ true → position_or_len is_slash text ≡ length text
end_is [] all = refl
end_is (b ∷ bs) all =
    let parts = and_parts (is_plain b) (list_all is_plain bs) all in
    ap (λ (t : Bool). cond t (1 + position_or_len is_slash bs) 0) parts.0
    ∙ suc_is (position_or_len is_slash bs) (length bs) (end_is bs parts.1)

not_below : (n : ℕ) → nat_lt n n ≡ false
not_below n = grind (arith, nat_tests)

pub no_slash : (text : List ℕ) → list_all is_plain text ≡ true → has_slash text ≡ false
no_slash text all = ap (λ (n : ℕ). nat_lt n (length text)) (end_is text all) ∙ not_below (length text)

below_more : (n m : ℕ) → n < m → nat_lt n m ≡ true
below_more n m lt = grind (arith, nat_tests, lt)

a_slash : (text more : List ℕ) → list_all is_plain text ≡ true → has_slash (text ++ 47 ∷ more) ≡ true
a_slash text more all =
    below_more _ _ (omega (arith, place_is text more all, length-append text (47 ∷ more)))

first_is : (text more : List ℕ) → list_all is_plain text ≡ true → before_first is_slash (text ++ 47 ∷ more) ≡ text
first_is text more all = ap (λ (n : ℕ). take n (text ++ 47 ∷ more)) (place_is text more all) ∙ take-append_seam text (47 ∷ more)

later_is : (text more : List ℕ) → list_all is_plain text ≡ true → after_first is_slash (text ++ 47 ∷ more) ≡ more
later_is text more all =
    ap (λ (n : ℕ). drop (n + 1) (text ++ 47 ∷ more)) (place_is text more all)
    ∙ ap (λ (n : ℕ). drop n (text ++ 47 ∷ more)) (sym (length-append text (47 ∷ [])))
    ∙ ap (λ (l : List ℕ). drop (length (text ++ 47 ∷ [])) l) (sym (append_assoc text (47 ∷ []) more))
    ∙ drop-append_seam (text ++ 47 ∷ []) more

module _ {A : Type 0} where
  pub whole : (one : List ℕ → A) (two : List ℕ → List ℕ → A) (text : List ℕ) → has_slash text ≡ false → by_slash one two text ≡ one text
  whole one two text none = ap (λ (v : Bool). if v then two (before_first is_slash text) (after_first is_slash text) else one text) none

  pub parted : (one : List ℕ → A) (two : List ℕ → List ℕ → A) (text more : List ℕ) → list_all is_plain text ≡ true → by_slash one two (text ++ 47 ∷ more) ≡ two text more
  parted one two text more all =
      let t : List ℕ = text ++ 47 ∷ more in
      ap (λ (v : Bool). if v then two (before_first is_slash t) (after_first is_slash t) else one t) (a_slash text more all)
      ∙ ap (λ (l : List ℕ). two l (after_first is_slash t)) (first_is text more all)
      ∙ ap (two text) (later_is text more all)

module _ {A : Type 0} (one : List ℕ → Option A) (two : List ℕ → List ℕ → Option A) (three : List ℕ → List ℕ → List ℕ → Option A) where
  pub at_one : (a : List ℕ) → has_slash a ≡ false → by_segments one two three (path_text (a ∷ [])) ≡ one a
  at_one a none = whole one (λ first later. by_slash (two first) (three first) later) a none

  pub at_two : (a b : List ℕ) → list_all is_plain a ≡ true → has_slash b ≡ false → by_segments one two three (path_text (a ∷ b ∷ [])) ≡ two a b
  at_two a b all none =
      parted one (λ first later. by_slash (two first) (three first) later) a b all
      ∙ whole (two a) (three a) b none

  pub at_three : (a b c : List ℕ) → list_all is_plain a ≡ true → list_all is_plain b ≡ true → by_segments one two three (path_text (a ∷ b ∷ c ∷ [])) ≡ three a b c
  at_three a b c all more =
      parted one (λ first later. by_slash (two first) (three first) later) a (b ++ 47 ∷ c) all
      ∙ parted (two a) (three a) b c more

-- What is read stands at the segments.

slash_is : (b : ℕ) → is_slash b ≡ true → b ≡ 47
slash_is b h = grind (arith, nat_tests, h)

one_more : (n : ℕ) → suc (n + 1) ≡ suc n + 1
one_more n = omega arith

lower : (n m : ℕ) → nat_lt (suc n) (suc m) ≡ true → nat_lt n m ≡ true
lower n m h = grind (arith, nat_tests, h)

pub cut : (text : List ℕ) → has_slash text ≡ true → text ≡ before_first is_slash text ++ 47 ∷ after_first is_slash text
cut [] e = cc e
cut (b ∷ bs) e = by (is_slash b) refl e (cut bs)
  where
    by : (v : Bool) → is_slash b ≡ v → has_slash (b ∷ bs) ≡ true → (has_slash bs ≡ true → bs ≡ before_first is_slash bs ++ 47 ∷ after_first is_slash bs)
        → b ∷ bs ≡ before_first is_slash (b ∷ bs) ++ 47 ∷ after_first is_slash (b ∷ bs)
    by true is e next = rw is (ap (λ n. n ∷ bs) (slash_is b is))
    by false is e next =
        let here : position_or_len is_slash (b ∷ bs) ≡ suc (position_or_len is_slash bs) =
        ap (λ (t : Bool). cond (not t) (1 + position_or_len is_slash bs) 0) is ∙ suc_is (position_or_len is_slash bs) (position_or_len is_slash bs) refl in
        let more : has_slash bs ≡ true = lower (position_or_len is_slash bs) (length bs) (sym (ap (λ (n : ℕ). nat_lt n (suc (length bs))) here) ∙ e) in
        let n = position_or_len is_slash bs in
        rw here (ap (λ l. b ∷ l) (next more) ∙ ap (λ (k : ℕ). (b ∷ take n bs) ++ 47 ∷ drop k (b ∷ bs)) (one_more n))

front_plain : (text : List ℕ) → list_all is_plain (before_first is_slash text) ≡ true
front_plain [] = refl
front_plain (b ∷ bs) = by (is_slash b) refl (front_plain bs)
  where
    by : (v : Bool) → is_slash b ≡ v → list_all is_plain (before_first is_slash bs) ≡ true → list_all is_plain (before_first is_slash (b ∷ bs)) ≡ true
    by true is next = rw is refl
    by false is next =
        let here : position_or_len is_slash (b ∷ bs) ≡ suc (position_or_len is_slash bs) =
        ap (λ (t : Bool). cond (not t) (1 + position_or_len is_slash bs) 0) is ∙ suc_is (position_or_len is_slash bs) (position_or_len is_slash bs) refl in
        rw here (and_from (is_plain b) (list_all is_plain (before_first is_slash bs)) (ap not is) next)

some_below : (n : ℕ) → nat_lt 0 (suc n) ≡ true
some_below n = grind (arith, nat_tests)

lower_false : (n m : ℕ) → nat_lt (1 + n) (suc m) ≡ false → nat_lt n m ≡ false
lower_false n m h = grind (arith, nat_tests, h)

pub all_plain : (text : List ℕ) → has_slash text ≡ false → list_all is_plain text ≡ true
all_plain [] none = refl
all_plain (b ∷ bs) none = by (is_slash b) refl (all_plain bs)
  where
    by : (v : Bool) → is_slash b ≡ v → (has_slash bs ≡ false → list_all is_plain bs ≡ true) → list_all is_plain (b ∷ bs) ≡ true
    by true is rest =
        let wrong : true ≡ false = sym (some_below (length bs)) ∙ sym (ap (λ (t : Bool). nat_lt (cond (not t) (1 + position_or_len is_slash bs) 0) (suc (length bs))) is) ∙ none in
        cc wrong
    by false is rest =
        let here : has_slash (b ∷ bs) ≡ nat_lt (1 + position_or_len is_slash bs) (suc (length bs)) =
        ap (λ (t : Bool). nat_lt (cond (not t) (1 + position_or_len is_slash bs) 0) (suc (length bs))) is in
        and_from (is_plain b) (list_all is_plain bs) (ap not is) (rest (lower_false (position_or_len is_slash bs) (length bs) (sym here ∙ none)))

front_is : (path : List ℕ) → bytes_eq (take 4 path) (codes "/v1/") ≡ true → path ≡ codes "/v1/" ++ drop 4 path
front_is path e = sym (take-append-drop 4 path) ∙ ap (λ (l : List ℕ). l ++ drop 4 path) (bytes_eq-true (take 4 path) (codes "/v1/") e)

module _ {A : Type 0} where
  -- a text is one part, or two
  abbrev Is : (List ℕ → Option A) → (List ℕ → List ℕ → Option A) → List ℕ → A → Type 0
  Is one two text x = ((has_slash text ≡ false) × (one text ≡ Some x)) ⊎ ((a : List ℕ) × (b : List ℕ) × (text ≡ a ++ 47 ∷ b) × (list_all is_plain a ≡ true) × (two a b ≡ Some x))

  parts : (one : List ℕ → Option A) (two : List ℕ → List ℕ → Option A) (text : List ℕ) (x : A) → by_slash one two text ≡ Some x → Is one two text x
  parts one two text x e = by (has_slash text) refl e
    where
      by : (v : Bool) → has_slash text ≡ v → (if v then two (before_first is_slash text) (after_first is_slash text) else one text) ≡ Some x → Is one two text x
      by true is e = inr (before_first is_slash text, after_first is_slash text, cut text is, front_plain text, e)
      by false is e = inl (is, e)

  -- what is found at one, two or three segments
  abbrev pub IsFound : (List ℕ → Option A) → (List ℕ → List ℕ → Option A) → (List ℕ → List ℕ → List ℕ → Option A) → List ℕ → A → Type 0
  IsFound one two three path x =
      ((a : List ℕ) × (path ≡ path_text (a ∷ [])) × (one a ≡ Some x))
      ⊎ (((a : List ℕ) × (b : List ℕ) × (path ≡ path_text (a ∷ b ∷ [])) × (has_slash b ≡ false) × (two a b ≡ Some x))
      ⊎ ((a : List ℕ) × (b : List ℕ) × (c : List ℕ) × (path ≡ path_text (a ∷ b ∷ c ∷ [])) × (has_slash b ≡ false) × (three a b c ≡ Some x)))

  no_some : (x : A) → ◌≡◌ {A = Option A} None (Some x) → ⊥
  no_some x e = cc e

  module _ (one : List ℕ → Option A) (two : List ℕ → List ℕ → Option A) (three : List ℕ → List ℕ → List ℕ → Option A) (path : List ℕ) (x : A) where
    later : (a b : List ℕ) → path ≡ codes "/v1/" ++ (a ++ 47 ∷ b) → Is (two a) (three a) b x → IsFound one two three path x
    later a b is (inl (none, e)) = inr (inl (a, b, is, none, e))
    later a b is (inr (c, d, at, plain, e)) = inr (inr (a, c, d, is ∙ ap (λ (l : List ℕ). codes "/v1/" ++ (a ++ 47 ∷ l)) at, no_slash c plain, e))

    first : path ≡ codes "/v1/" ++ drop 4 path → Is one (λ first more. by_slash (two first) (three first) more) (drop 4 path) x → IsFound one two three path x
    first is (inl (none, e)) = inl (drop 4 path, is, e)
    first is (inr (a, b, at, plain, e)) = later a b (is ∙ ap (λ (l : List ℕ). codes "/v1/" ++ l) at) (parts (two a) (three a) b x e)

    pub found : by_segments one two three path ≡ Some x → IsFound one two three path x
    found e = by (bytes_eq (take 4 path) (codes "/v1/")) refl e
      where
        by : (v : Bool) → bytes_eq (take 4 path) (codes "/v1/") ≡ v
            → (if v then by_slash one (λ first more. by_slash (two first) (three first) more) (drop 4 path) else None) ≡ Some x → IsFound one two three path x
        by true is e = first (front_is path is) (parts one (λ first more. by_slash (two first) (three first) more) (drop 4 path) x e)
        by false is e = absurd (no_some x e)
