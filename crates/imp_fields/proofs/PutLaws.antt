-- How many digits the numbers of messages have.
use Rattle.imp_fields.proofs.Common.{List, [], ap, append_assoc, arith, decimal, decimal_step, length, length-append, length-decimal-le, sym, ℕ, ◌%◌, ◌++◌, ◌+◌, ◌/◌, ◌<◌, ◌^◌, ◌∙◌, ◌∷◌, ◌≡◌, ◌≤◌}

pub decimal_more : (n : ℕ) → 10 ≤ n → n < 2 ^ 32 → decimal n ≡ decimal (n / 10) ++ ((48 + n % 10) ∷ [])
decimal_more n le lt = decimal_step n le (omega (arith, lt))

pub length-decimal_more : (n : ℕ) → 10 ≤ n → n < 2 ^ 32 → length (decimal n) ≡ length (decimal (n / 10)) + 1
length-decimal_more n le lt = ap length (decimal_more n le lt) ∙ length-append (decimal (n / 10)) ((48 + n % 10) ∷ [])

pub length_decimal_short : (n : ℕ) → n ≤ 9999 → length (decimal n) ≤ 4
length_decimal_short n le = length-decimal-le 4 n (omega arith) (omega (arith, le)) (omega (arith, le))

pub length_decimal_five : (n : ℕ) → n ≤ 99_999 → length (decimal n) ≤ 5
length_decimal_five n le = length-decimal-le 5 n (omega arith) (omega (arith, le)) (omega (arith, le))

-- how a recursion that writes the last digit behind the others goes on
pub put_more : (n at place : ℕ) → 10 ≤ n → n < 2 ^ 32 → place ≡ at + length (decimal (n / 10)) → place + 1 ≡ at + length (decimal n)
put_more n at place le lt e = omega (arith, e, length-decimal_more n le lt)

pub put_last : (n : ℕ) (front old new : List ℕ) → 10 ≤ n → n < 2 ^ 32 → front ≡ old ++ decimal (n / 10) → new ≡ front ++ (48 + n % 10) ∷ [] → new ≡ old ++ decimal n
put_last n front old new le lt first last =
    last ∙ ap (λ f. f ++ (48 + n % 10) ∷ []) first ∙ append_assoc old (decimal (n / 10)) ((48 + n % 10) ∷ []) ∙ ap (λ d. old ++ d) (sym (decimal_more n le lt))
