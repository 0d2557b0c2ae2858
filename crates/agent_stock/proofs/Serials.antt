-- Runs of numbers, one number further.
use Rattle.agent_stock.proofs.Common.{Bool, Holder, IfSome, IsNumber, IsSome, None, Option, Some, ap, arith, cond, false, find, is_eq, nat_cmp, nat_eq, nat_le, nat_lt, nat_tests, range_with_len, suc, true, ℕ, ◌%◌, ◌&&◌, ◌+◌, ◌-◌, ◌/◌, ◌<◌, ◌∙◌, ◌≡◌, ◌≤◌}
use Rattle.std.proofs.lemmas.Grind.{common_steps}

module _ (p : ℕ → Bool) (from n k : ℕ) (more : n ≡ suc k) where
  pub find_next : p from ≡ false → find p (range_with_len from n) ≡ find p (range_with_len (from + 1) k)
  find_next passes = ap (λ m. find p (range_with_len from m)) more ∙ ap (λ b. cond b (Some from) (find p (range_with_len (from + 1) k))) passes

  pub find_here : p from ≡ true → find p (range_with_len from n) ≡ Some from
  find_here fails = ap (λ m. find p (range_with_len from m)) more ∙ ap (λ b. cond b (Some from) (find p (range_with_len (from + 1) k))) fails

-- one number more is given
pub one_more : (first next q : ℕ) (new old : Option Holder) → first ≤ next
    → cond (nat_eq next q) new (cond (nat_le first q && nat_lt q next) new old) ≡ cond (nat_le first q && nat_lt q (next + 1)) new old
one_more first next q new old from = grind (arith, nat_tests)

pub none_yet : (first q : ℕ) (new old : Option Holder) → old ≡ cond (nat_le first q && nat_lt q first) new old
none_yet first q new old = grind (arith, nat_tests)

-- a key of the map
pub key_is : (a b : ℕ) → is_eq (nat_cmp a b) ≡ nat_eq a b
key_is a b = grind (arith, common_steps)

pub given_as : (o : Option ℕ) (k : ℕ) → IsSome o → IfSome o (λ j. j ≡ k) → o ≡ Some k
given_as (Some j) k there is = ap Some is
given_as None k there is = cc

-- a run ends among the numbers
pub IsNumber-covered : (first count k : ℕ) → IsNumber first → (nat_lt 0 count && nat_le count 1_000_000 && nat_le (first % 10_000_000 + count) 10_000_000) ≡ true → k < first + count → IsNumber k
IsNumber-covered first count k number run within = grind (arith, nat_tests)

-- a number of a run has the run's prefix, and its serial counts on from the first
module _ (first count n : ℕ) (run : (nat_lt 0 count && nat_le count 1_000_000 && nat_le (first % 10_000_000 + count) 10_000_000) ≡ true) (from : first ≤ n) (below : n < first + count) where
  fits : first % 10_000_000 + count ≤ 10_000_000
  fits = last count (nat_lt 0 count && nat_le count 1_000_000) run
    where
      last : (c : ℕ) (b : Bool) → (b && nat_le (first % 10_000_000 + c) 10_000_000) ≡ true → first % 10_000_000 + c ≤ 10_000_000
      last c true h = grind (arith, nat_tests)
      last c false h = cc

  pub serial_along : n % 10_000_000 ≡ first % 10_000_000 + (n - first)
  serial_along = omega (arith, fits)

  pub prefix_along : n / 10_000_000 ≡ first / 10_000_000
  prefix_along = omega (arith, fits)
