-- Whether a text ends as a report does is decided by its tail.
use Rattle.desk_client.proofs.Common.{Bool, Form, List, [], and-false, and_parts, ap, append_assoc, arith, before_digits, behind_digits, bytes_eq, codes, drop, drop-append_seam, ends_with, false, has_count, has_count_in, has_end, if◌then◌else◌, is_before_count, is_before_json_count, is_digit, length, length-append, length-drop, list_all, ltb-false, ltb-true, mark_of, nat_lt, nat_tests, not, refl, reverse, reverse-append, reverse-reverse, suc, sym, take, take-append-drop, take-append_seam, true, where_true, without, ℕ, ◌&&◌, ◌++◌, ◌-◌, ◌==◌, ◌||◌, ◌∙◌, ◌∷◌, ◌≡◌, ◌≤◌}
use Rattle.std.specs.Cmp.Lexicographic.{pointwise, unequal}
use Rattle.reports.specs.declared.layout.Form.TheVariants as form

-- a byte isn't among these
abbrev lacks : ℕ → List ℕ → Bool
lacks m needle = list_all (λ b. not (b == m)) needle

not_true : (a : Bool) → not a ≡ true → a ≡ false
not_true true e = cc e
not_true false e = refl

-- a text with the byte isn't a text without it
apart : (m : ℕ) (needle front v : List ℕ) → lacks m needle ≡ true → pointwise ◌==◌ needle (front ++ m ∷ v) ≡ false
apart m [] [] v none = refl
apart m [] (y ∷ front) v none = refl
apart m (x ∷ needle) [] v none =
    ap (λ b. b && pointwise ◌==◌ needle v) (not_true (x == m) (and_parts (not (x == m)) (lacks m needle) none).0)
apart m (x ∷ needle) (y ∷ front) v none =
    ap (λ b. (x == y) && b) (apart m needle front v (and_parts (not (x == m)) (lacks m needle) none).1) ∙ and-false (x == y)

flip_eq : (a b : ℕ) → (a == b) ≡ (b == a)
flip_eq a b = grind arith

flipped : (xs ys : List ℕ) → pointwise ◌==◌ xs ys ≡ pointwise ◌==◌ ys xs
flipped [] [] = refl
flipped [] (y ∷ ys) = refl
flipped (x ∷ xs) [] = refl
flipped (x ∷ xs) (y ∷ ys) = (λ i. flip_eq x y i && flipped xs ys i)

-- a byte more in front of the byte doesn't matter to an ending whose other bytes lack it
ends_behind : (m x p : ℕ) (needle front v : List ℕ) → lacks m needle ≡ true → (short : Bool) → nat_lt (length (front ++ m ∷ v)) (length (x ∷ needle)) ≡ short
    → ends_with ◌==◌ (p ∷ front ++ m ∷ v) (x ∷ needle) ≡ ends_with ◌==◌ (front ++ m ∷ v) (x ∷ needle)
ends_behind m x p needle front v none false is =
    let text = front ++ m ∷ v in
    let fits : length (x ∷ needle) ≤ length text = ltb-false (length text) (length (x ∷ needle)) is in
    let one_more : length (p ∷ text) - length (x ∷ needle) ≡ suc (length text - length (x ∷ needle)) = omega (arith, fits) in
    ap (λ k. pointwise ◌==◌ (x ∷ needle) (drop k (p ∷ text))) one_more
ends_behind m x p needle front v none true is =
    let text = front ++ m ∷ v in
    let less = ltb-true (length text) (length (x ∷ needle)) is in
    let all : length (p ∷ text) - length (x ∷ needle) ≡ 0 = omega (arith, less) in
    let none_left : length text - length (x ∷ needle) ≡ 0 = omega (arith, less) in
    ap (λ k. pointwise ◌==◌ (x ∷ needle) (drop k (p ∷ text))) all ∙ ap (λ b. (x == p) && b) (apart m needle front v none) ∙ and-false (x == p)
    ∙ sym (ap (λ k. pointwise ◌==◌ (x ∷ needle) (drop k text)) none_left ∙ unequal ◌==◌ (x ∷ needle) text (λ same. omega (arith, less, same)))

ends_by : (m x : ℕ) (needle front v : List ℕ) → lacks m needle ≡ true → ends_with ◌==◌ (front ++ m ∷ v) (x ∷ needle) ≡ ends_with ◌==◌ (m ∷ v) (x ∷ needle)
ends_by m x needle [] v none = refl
ends_by m x needle (p ∷ front) v none = ends_behind m x p needle front v none _ refl ∙ ends_by m x needle front v none

-- digits at the end: those before the byte don't matter

turned : (m : ℕ) (front v : List ℕ) → reverse (front ++ m ∷ v) ≡ reverse v ++ m ∷ reverse front
turned m front v =
    reverse-append front (m ∷ v) ∙ ap (λ l. l ++ reverse front) (reverse-append (m ∷ []) v) ∙ append_assoc (reverse v) (m ∷ []) (reverse front)

behind : (m : ℕ) (xs : List ℕ) → is_digit m ≡ false → (w : List ℕ) × ((ys : List ℕ) → behind_digits (xs ++ m ∷ ys) ≡ w ++ m ∷ ys)
behind m [] other = ([], λ ys. rw other refl)
behind m (x ∷ xs) other = by_first (is_digit x) (behind m xs other)
  where
    by_first : (b : Bool) → ((w : List ℕ) × ((ys : List ℕ) → behind_digits (xs ++ m ∷ ys) ≡ w ++ m ∷ ys))
        → (w : List ℕ) × ((ys : List ℕ) → (if b then behind_digits (xs ++ m ∷ ys) else x ∷ (xs ++ m ∷ ys)) ≡ w ++ m ∷ ys)
    by_first true is = is
    by_first false is = (x ∷ xs, λ ys. refl)

before : (m : ℕ) (u : List ℕ) → is_digit m ≡ false → (v : List ℕ) × ((front : List ℕ) → before_digits (front ++ m ∷ u) ≡ front ++ m ∷ v)
before m u other =
    let (w, is) = behind m (reverse u) other in (
      reverse w,
      λ front. ap (λ l. reverse (behind_digits l)) (turned m front u) ∙ ap reverse (is (reverse front)) ∙ turned m w (reverse front)
          ∙ ap (λ l. l ++ m ∷ reverse w) (reverse-reverse front),
    )

less_behind : (m : ℕ) (front v u : List ℕ) → nat_lt (length (front ++ m ∷ v)) (length (front ++ m ∷ u)) ≡ nat_lt (length (m ∷ v)) (length (m ∷ u))
less_behind m front v u = grind (arith, nat_tests, length-append front (m ∷ v), length-append front (m ∷ u))

-- what a test of the front needs
abbrev IsLocal : ℕ → (List ℕ → Bool) → Type 0
IsLocal m is_front = (front v : List ℕ) → is_front (front ++ m ∷ v) ≡ is_front (m ∷ v)

count_behind : (m : ℕ) (is_front : List ℕ → Bool) (front u : List ℕ) → is_digit m ≡ false → IsLocal m is_front
    → has_count is_front (front ++ m ∷ u) ≡ has_count is_front (m ∷ u)
count_behind m is_front front u other local =
    let (v, is) = before m u other in
    (λ i. nat_lt (length (is front i)) (length (front ++ m ∷ u)) && is_front (is front i))
    ∙ (λ i. less_behind m front v u i && local front v i)
    ∙ (λ i. nat_lt (length (sym (is []) i)) (length (m ∷ u)) && is_front (sym (is []) i))

-- a text without its last bytes
without_last : (end text last : List ℕ) → length last ≡ length end → without end (text ++ last) ≡ where_true (pointwise ◌==◌ last end) text
without_last end text last same =
    let front : length (text ++ last) - length end ≡ length text = omega (arith, same, length-append text last) in
    (λ i. where_true (pointwise ◌==◌ (drop (front i) (text ++ last)) end) (take (front i) (text ++ last)))
    ∙ (λ i. where_true (pointwise ◌==◌ (drop-append_seam text last i) end) (take-append_seam text last i))

by_end : (is_front : List ℕ → Bool) (b : Bool) (t s : List ℕ) → has_count is_front t ≡ has_count is_front s
    → has_count_in is_front (where_true b t) ≡ has_count_in is_front (where_true b s)
by_end is_front true t s same = same
by_end is_front false t s same = refl

in_behind : (m : ℕ) (is_front : List ℕ → Bool) (end front tail : List ℕ) → is_digit m ≡ false → IsLocal m is_front → length end ≤ length tail
    → has_count_in is_front (without end (front ++ m ∷ tail)) ≡ has_count_in is_front (without end (m ∷ tail))
in_behind m is_front end front tail other local some =
    let n = length tail - length end in
    let u = take n tail in
    let last = drop n tail in
    let same : length last ≡ length end = omega (arith, some, length-drop n tail) in
    let parts : (before : List ℕ) → before ++ m ∷ tail ≡ (before ++ m ∷ u) ++ last = λ before.
    ap (λ l. before ++ m ∷ l) (sym (take-append-drop n tail)) ∙ sym (append_assoc before (m ∷ u) last) in
    let cut : (before : List ℕ) → without end (before ++ m ∷ tail) ≡ where_true (pointwise ◌==◌ last end) (before ++ m ∷ u) = λ before.
    ap (without end) (parts before) ∙ without_last end (before ++ m ∷ u) last same in
    ap (has_count_in is_front) (cut front)
    ∙ by_end is_front (pointwise ◌==◌ last end) (front ++ m ∷ u) (m ∷ u) (count_behind m is_front front u other local)
    ∙ ap (has_count_in is_front) (sym (cut []))

-- the fronts of both ends

text_local : (m : ℕ) → lacks m (codes "END ") ≡ true → IsLocal m is_before_count
text_local m none front v =
    let no_word : (before : List ℕ) → bytes_eq (before ++ m ∷ v) (codes "END ") ≡ false = λ before.
    flipped (before ++ m ∷ v) (codes "END ") ∙ apart m (codes "END ") before v none in
    (λ i. no_word front i || ends_by m 10 (codes "END ") front v none i) ∙ (λ i. sym (no_word []) i || ends_with ◌==◌ (m ∷ v) (codes "\nEND "))

json_local : (m : ℕ) → lacks m (codes ",\"count\":") ≡ true → IsLocal m is_before_json_count
json_local m none front v = ends_by m 93 (codes ",\"count\":") front v none

by_mark : (m : ℕ) → is_digit m ≡ false → lacks m (codes "END ") ≡ true → lacks m (codes ",\"count\":") ≡ true → (front tail : List ℕ) → 2 ≤ length tail
    → has_end (front ++ m ∷ tail) ≡ has_end (m ∷ tail)
by_mark m other text json front tail some =
    (λ i. in_behind m is_before_count (codes "\n") front tail other (text_local m text) (omega (arith, some)) i
    || in_behind m is_before_json_count (codes "}\n") front tail other (json_local m json) some i)

-- what a text ends with behind a row is decided by the row's last byte and what follows, if that is
-- two bytes or more
pub tail_decides : (f : Form) (front tail : List ℕ) → 2 ≤ length tail → has_end (front ++ mark_of f ∷ tail) ≡ has_end (mark_of f ∷ tail)
tail_decides form.Text front tail some = by_mark 10 refl refl refl front tail some
tail_decides form.Json front tail some = by_mark 125 refl refl refl front tail some
