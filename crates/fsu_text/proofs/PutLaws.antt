-- What is written, piece by piece.
use Rattle.fsu_text.proofs.Common.{IsTrue, List, [], and_parts, append-nil, append_assoc, arith, is_name, leb-true, length, name_tail, refl, ℕ, ◌++◌, ◌∙◌, ◌∷◌, ◌≡◌, ◌≤◌}

pub name_short : (name : List ℕ) → IsTrue (is_name name) → length name ≤ 35
name_short name h = leb-true _ _ (and_parts _ _ (and_parts _ _ h).0).0

pub no_name : (name : List ℕ) → length name ≡ 0 → name_tail name ≡ []
no_name [] e = refl
no_name (b ∷ name) e = absurd (omega (arith, e))

pub some_name : (name : List ℕ) → 1 ≤ length name → name_tail name ≡ 47 ∷ name
some_name [] le = absurd (omega (arith, le))
some_name (b ∷ name) le = refl

-- the parts of a consignment line, written one behind the other
pub parts_joined : (base t1 t2 t3 t4 number n from f to t q : List ℕ) → t1 ≡ base ++ n → n ≡ number → t2 ≡ t1 ++ f → f ≡ from → t3 ≡ t2 ++ t → t ≡ to → t4 ≡ t3 ++ (47 ∷ q)
    → t4 ≡ base ++ (number ++ from ++ to ++ (47 ∷ []) ++ q ++ [])
parts_joined base t1 t2 t3 t4 number n from f to t q e1 en e2 ef e3 et e4 =
    let joined : t4 ≡ (((base ++ number) ++ from) ++ to) ++ (47 ∷ q) = cc in
    joined ∙ regroup
  where
    regroup : (((base ++ number) ++ from) ++ to) ++ (47 ∷ q) ≡ base ++ (number ++ from ++ to ++ (47 ∷ []) ++ q ++ [])
    regroup = simp (append_assoc, append-nil)
