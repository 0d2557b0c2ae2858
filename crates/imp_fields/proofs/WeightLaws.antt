-- The weights that a message can write are in range.
use Rattle.imp_fields.proofs.Common.{IsTenths, arith, div-lt_iff_lt-mul, one-le-pow, pow-le-pow_right, rounded_tenths, ℕ, ◌*◌, ◌+◌, ◌/◌, ◌<◌, ◌^◌, ◌≤◌}

pub ten_pow_small : (k : ℕ) → k ≤ 6 → 10 ^ k ≤ 1_000_000
ten_pow_small k le = let pos : 0 < 10 = omega arith in pow-le-pow_right pos le

pub ten_pow_of_seven : (k : ℕ) → k ≤ 7 → 10 ^ k ≤ 10_000_000
ten_pow_of_seven k le = let pos : 0 < 10 = omega arith in pow-le-pow_right pos le

pub ten_pow_positive : (k : ℕ) → 1 ≤ 10 ^ k
ten_pow_positive k = let pos : 0 < 10 = omega arith in one-le-pow k 10 pos

rounded_below : (n d : ℕ) → 1 ≤ d → n * 20 + d < 99_999_991 * (d * 2) → IsTenths (rounded_tenths n d)
rounded_below n d pos lt =
    let twice : 0 < d * 2 = omega (arith, pos) in
    let below : (n * 20 + d) / (d * 2) < 99_999_991 = (div-lt_iff_lt-mul twice).1 lt in
    omega (arith, below)

pub kilograms_in_range : (n d : ℕ) → n < 10_000_000 → 1 ≤ d → IsTenths (rounded_tenths n d)
kilograms_in_range n d small pos = rounded_below n d pos (omega (arith, small, pos))

pub pounds_in_range : (n d : ℕ) → n < 10_000_000 → 1 ≤ d → IsTenths (rounded_tenths (n * 45_359_237) (d * 100_000_000))
pounds_in_range n d small pos = rounded_below (n * 45_359_237) (d * 100_000_000) (omega (arith, pos)) (omega (arith, small, pos))
