-- Numbers of a run, one further.
use Rattle.state_store.proofs.Common.{Bool, Some, ap, arith, cond, false, find, nat_le, nat_lt, nat_tests, range_with_len, suc, true, zero, ℕ, ◌%◌, ◌&&◌, ◌+◌, ◌-◌, ◌<◌, ◌∙◌, ◌≡◌, ◌≤◌}

pub not_empty : (first count : ℕ) → (nat_lt 0 count && nat_le count 1_000_000 && nat_le (first % 10_000_000 + count) 10_000_000) ≡ true → first < first + count
not_empty first count run = grind (arith, nat_tests)

-- numbers that pass are passed over
pub find_further : (p : ℕ → Bool) (from n m : ℕ) → m ≤ n → ((q : ℕ) → from ≤ q → q < from + m → p q ≡ false) → find p (range_with_len from n) ≡ find p (range_with_len (from + m) (n - m))
find_further p from n zero le none = let a : from ≡ from + 0 = omega arith in let b : n ≡ n - 0 = omega arith in λ i. find p (range_with_len (a i) (b i))
find_further p from zero (suc m) le none = absurd (omega (arith, le))
find_further p from (suc n) (suc m) le none =
    let a : from + 1 + m ≡ from + suc m = omega arith in
    let b : n - m ≡ suc n - suc m = omega arith in
    ap (λ b. cond b (Some from) (find p (range_with_len (from + 1) n))) (none from (omega arith) (omega arith))
    ∙ find_further p (from + 1) n m (omega (arith, le)) (λ q low lt. none q (omega (arith, low)) (omega (arith, lt)))
    ∙ (λ i. find p (range_with_len (a i) (b i)))
