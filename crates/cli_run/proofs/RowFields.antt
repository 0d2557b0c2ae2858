-- The fields of a row.
use Rattle.cli_run.proofs.Common.{List, None, Some, [], arith, asked_by, length, row_asks, suc, sym, zero, ℕ, ◌<◌, ◌∷◌, ◌≡◌}
use Rattle.csv.specs.Records.{field_at}

pub there : (fields : List (List ℕ)) (place : ℕ) → place < length fields → field_at fields place ≡ None → ⊥
unfolding field_at
there [] place within none = absurd (omega arith)
there (f ∷ fs) zero within none = cc
there (f ∷ fs) (suc place) within none = there fs place (omega arith) none

pub six : (fields : List (List ℕ)) (key verb prefix serial count agent : List ℕ) → length fields ≡ 6
    → field_at fields 0 ≡ Some key → field_at fields 1 ≡ Some verb → field_at fields 2 ≡ Some prefix
    → field_at fields 3 ≡ Some serial → field_at fields 4 ≡ Some count → field_at fields 5 ≡ Some agent
    → asked_by key verb prefix serial count agent ≡ row_asks fields
unfolding field_at
six (k ∷ v ∷ p ∷ s ∷ n ∷ a ∷ []) key verb prefix serial count agent len h0 h1 h2 h3 h4 h5 =
    let e0 : k ≡ key = cc h0 in
    let e1 : v ≡ verb = cc h1 in
    let e2 : p ≡ prefix = cc h2 in
    let e3 : s ≡ serial = cc h3 in
    let e4 : n ≡ count = cc h4 in
    let e5 : a ≡ agent = cc h5 in
    λ i. asked_by (sym e0 i) (sym e1 i) (sym e2 i) (sym e3 i) (sym e4 i) (sym e5 i)
six _ key verb prefix serial count agent len h0 h1 h2 h3 h4 h5 = absurd (omega arith)
