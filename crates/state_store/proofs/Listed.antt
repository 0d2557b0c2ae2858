-- The rows of the waybills that are asked for.
use Rattle.state_store.proofs.Common.{Bool, List, Move, WaybillQuery, [], asked, balances_of, false, flat_map, if◌then◌else◌, is_asked_for, map, refl, sym, true, true≢false, with_balances, ℕ, ◌++◌, ◌∷◌, ◌≡◌}
use Rattle.station_core.specs.declared.stored.WaybillBalances.{WaybillBalances}

module _ {X : Type 0} (row_by : WaybillBalances → X) where
  one_more : (a p : Bool) → a ≡ p → (b : WaybillBalances) (r : X) → row_by b ≡ r → (xs : List WaybillBalances) (ys : List X) → map row_by xs ≡ ys
      → map row_by ((if a then b ∷ [] else []) ++ xs) ≡ (if p then r ∷ [] else []) ++ ys
  one_more true true e b r row xs ys rest = λ i. row i ∷ rest i
  one_more false false e b r row xs ys rest = rest
  one_more true false e b r row xs ys rest = absurd (true≢false e)
  one_more false true e b r row xs ys rest = absurd (true≢false (sym e))

  -- a test that asks for the same waybills, and rows of the same
  pub rows_of : (query : WaybillQuery) (book : List Move) (passes : ℕ → Bool) (row_of : ℕ → X) → ((w : ℕ) → is_asked_for query (balances_of book w) ≡ passes w) → ((w : ℕ) → row_by (with_balances book w) ≡ row_of w)
      → (ws : List ℕ) → map row_by (flat_map (asked query book) ws) ≡ flat_map (λ w. if passes w then row_of w ∷ [] else []) ws
  rows_of query book passes row_of same rows [] = refl
  rows_of query book passes row_of same rows (w ∷ ws) =
      one_more (is_asked_for query (balances_of book w)) (passes w) (same w) (with_balances book w) (row_of w) (rows w)
      (flat_map (asked query book) ws) (flat_map (λ w. if passes w then row_of w ∷ [] else []) ws) (rows_of query book passes row_of same rows ws)
