-- Rows that are numbered from 1, one row more.
use Rattle.table_audits.proofs.Common.{AreNumbered, List, [], ap, ap₂, arith, length, map, pos, range_with_len, refl, suc, ℕ, ℤ, ◌++◌, ◌+◌, ◌∙◌, ◌∷◌, ◌≡◌}

head_is : (x y : ℤ) (xs ys : List ℤ) → ◌≡◌ {A = List ℤ} (x ∷ xs) (y ∷ ys) → x ≡ y
head_is x y xs ys e = cc

tail_is : (x y : ℤ) (xs ys : List ℤ) → ◌≡◌ {A = List ℤ} (x ∷ xs) (y ∷ ys) → xs ≡ ys
tail_is x y xs ys e = cc

module _ {X : Type 0} (key : X → ℤ) where
  push_from : (a : ℕ) (xs : List X) (x : X) → map key xs ≡ map pos (range_with_len a (length xs)) → key x ≡ pos (length xs + a) → map key (xs ++ x ∷ []) ≡ map pos (range_with_len a (length (xs ++ x ∷ [])))
  push_from a [] x are is = ap (λ z. z ∷ []) (is ∙ (let e : 0 + a ≡ a = omega arith in ap pos e))
  push_from a (y ∷ xs) x are is =
      ap₂ (λ z zs. z ∷ zs) (head_is _ _ _ _ are)
      (push_from (a + 1) xs x (tail_is _ _ _ _ are) (is ∙ (let e : suc (length xs) + a ≡ length xs + (a + 1) = omega arith in ap pos e)))

  pop_from : (a : ℕ) (xs : List X) (x : X) → map key (xs ++ x ∷ []) ≡ map pos (range_with_len a (length (xs ++ x ∷ []))) → (map key xs ≡ map pos (range_with_len a (length xs))) × (key x ≡ pos (length xs + a))
  pop_from a [] x are = (refl, head_is _ _ _ _ are ∙ (let e : a ≡ 0 + a = omega arith in ap pos e))
  pop_from a (y ∷ xs) x are =
      let rest = pop_from (a + 1) xs x (tail_is _ _ _ _ are) in
      (ap₂ (λ z zs. z ∷ zs) (head_is _ _ _ _ are) rest.0, rest.1 ∙ (let e : length xs + (a + 1) ≡ suc (length xs) + a = omega arith in ap pos e))

  pub numbered_push : (xs : List X) (x : X) → AreNumbered key xs → key x ≡ pos (length xs + 1) → AreNumbered key (xs ++ x ∷ [])
  numbered_push xs x are is = push_from 1 xs x are is

  pub numbered_pop : (xs : List X) (x : X) → AreNumbered key (xs ++ x ∷ []) → AreNumbered key xs × (key x ≡ pos (length xs + 1))
  numbered_pop xs x are = pop_from 1 xs x are
