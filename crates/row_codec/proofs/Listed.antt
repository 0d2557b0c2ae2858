-- Rows under a number each: what is found after one is written or changed, and rows that are numbered from 1.
use Rattle.std.proofs.Common.{◌≡◌, ℕ, suc, ◌+◌, ◌≤◌, ℤ, pos, Bool, true, cond, ◌&&◌, Some, option_map, List, [], ◌∷◌, ◌++◌, map, length, int_cmp, int_eq, Less, refl, sym, ap, ap₂, subst, ◌∙◌, arith}
use Rattle.row_codec.proofs.Common.{AreNumbered, and_parts, get_by, insert_by, ints, list_all, match_ordering, range_with_len, update_where}

module _ {X : Type 0} (key : X → ℤ) where
  -- a row that is written
  pub get_by-insert_by : (xs : List X) (new : X) (id : ℤ) → get_by key (insert_by key xs new) id ≡ cond (int_eq (key new) id) (Some new) (get_by key xs id)
  get_by-insert_by [] new id = refl
  get_by-insert_by (x ∷ xs) new id = grind (arith, ints, get_by-insert_by xs new id)

  -- a test that each row passes
  pub list_all-insert_by : (p : X → Bool) (xs : List X) (new : X) → p new ≡ true → list_all p xs ≡ true → list_all p (insert_by key xs new) ≡ true
  list_all-insert_by p [] new n h = ap (λ b. b && true) n
  list_all-insert_by p (x ∷ xs) new n h = let more = list_all-insert_by p xs new n (and_parts (p x) (list_all p xs) h).1 in grind arith

  -- the row of a key, changed
  pub get_by-update_where : (id : ℤ) (f : X → X) → ((x : X) → key (f x) ≡ key x) → (xs : List X) (q : ℤ)
      → get_by key (update_where (λ (x : X). int_eq (key x) id) f xs) q ≡ cond (int_eq id q) (option_map f (get_by key xs q)) (get_by key xs q)
  get_by-update_where id f keeps [] q = grind arith
  get_by-update_where id f keeps (x ∷ xs) q = grind (arith, ints, keeps x, get_by-update_where id f keeps xs q)

-- a test that each row passes, and each changed row
pub list_all-update_where : {X : Type 0} (p test : X → Bool) (f : X → X) → ((x : X) → test x ≡ true → p (f x) ≡ true) → (xs : List X) → list_all p xs ≡ true → list_all p (update_where test f xs) ≡ true
list_all-update_where p test f fits [] h = refl
list_all-update_where p test f fits (x ∷ xs) h = let more = list_all-update_where p test f fits xs (and_parts (p x) (list_all p xs) h).1 in grind (arith, fits x)

-- ---- numbered rows

is_less : (a n : ℕ) (z w : ℤ) → z ≡ pos a → w ≡ pos n → suc a ≤ n → int_cmp z w ≡ Less
is_less a n z w e f below = grind (arith, ints)

module _ {X : Type 0} (key : X → ℤ) (new : X) where
  -- numbered from here
  abbrev AreFrom : ℕ → List X → Type 0
  AreFrom a xs = map key xs ≡ map pos (range_with_len a (length xs))

  insert_last : (xs : List X) (a n : ℕ) → AreFrom a xs → key new ≡ pos n → a + length xs ≤ n → insert_by key xs new ≡ xs ++ new ∷ []
  insert_last [] a n are is le = refl
  insert_last (x ∷ xs) a n are is le =
      let here : key x ≡ pos a = cc in
      let less : int_cmp (key x) (key new) ≡ Less = is_less a n (key x) (key new) here is (omega (arith, le)) in
      let rest : insert_by key xs new ≡ xs ++ new ∷ [] = insert_last xs (a + 1) n (cc) is (omega (arith, le)) in
      ap (λ o. match_ordering o (x ∷ insert_by key xs new) (new ∷ xs) (new ∷ x ∷ xs)) less ∙ ap (λ l. x ∷ l) rest

  numbered_push : (xs : List X) (a : ℕ) → AreFrom a xs → key new ≡ pos (a + length xs) → AreFrom a (xs ++ new ∷ [])
  numbered_push [] a are is = let e : a + 0 ≡ a = omega arith in ap (λ (z : ℤ). z ∷ []) (is ∙ ap pos e)
  numbered_push (x ∷ xs) a are is =
      let e : a + length (x ∷ xs) ≡ a + 1 + length xs = omega arith in
      let here : key x ≡ pos a = cc in
      ap₂ (λ (z : ℤ) (l : List ℤ). z ∷ l) here (numbered_push xs (a + 1) (cc) (is ∙ ap pos e))

  -- a row with the next number stands behind the others
  pub next_row : (xs : List X) → AreNumbered key xs → key new ≡ pos (length xs + 1) → insert_by key xs new ≡ xs ++ new ∷ []
  next_row xs are is = insert_last xs 1 (length xs + 1) are is (omega arith)

  pub still_numbered : (xs : List X) → AreNumbered key xs → key new ≡ pos (length xs + 1) → AreNumbered key (insert_by key xs new)
  still_numbered xs are is =
      let e : length xs + 1 ≡ 1 + length xs = omega arith in
      subst (AreNumbered key) (sym (next_row xs are is)) (numbered_push xs 1 are (is ∙ ap pos e))
