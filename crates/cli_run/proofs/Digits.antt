-- What seven digits at most can write.
use Rattle.cli_run.proofs.Common.{IfSome, IsSome, None, Option, Some, ap, arith, ℕ, ◌<◌, ◌^◌, ◌≡◌, ◌≤◌}
use Rattle.std.proofs.Math.Nat.{pow-le-pow_right}

pub seven_digits : (n length : ℕ) → n < 10 ^ length → length ≤ 7 → n ≤ 9_999_999
seven_digits n length below within =
    let larger : 10 ^ length ≤ 10 ^ 7 = pow-le-pow_right {n = 10} (omega arith) within in
    omega (arith, below, larger)

pub given_as : (o : Option ℕ) (n : ℕ) → IsSome o → IfSome o (λ m. m ≡ n) → o ≡ Some n
given_as (Some m) n there is = ap Some is
given_as None n there is = cc
