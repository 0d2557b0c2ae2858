-- How answers begin.
use Rattle.http_desk.proofs.Common.{BeginsAs200, BeginsAs503, List, Option, [], ap, append_assoc, arith, codes, drop, json_answer, ok_answer, sym, take, take-append-drop, ℕ, ◌++◌, ◌∙◌, ◌∷◌, ◌≡◌}
use Rattle.std.specs.Fmt.{digits}

-- the tenth byte tells a 200 from other answers
abbrev pub first_byte : List ℕ → ℕ
first_byte [] = 0
first_byte (b ∷ bytes) = b

abbrev tenth : List ℕ → ℕ
tenth bytes = first_byte (drop 9 bytes)

no_other : ¬ (◌≡◌ {A = ℕ} 52 50)
no_other e = omega (arith, e)

no_fault : ¬ (◌≡◌ {A = ℕ} 53 50)
no_fault e = omega (arith, e)

-- no answer with this status begins as a 200 does
abbrev pub IsNo200 : ℕ → Type 0
IsNo200 status = (allow : Option (List ℕ)) (body : List ℕ) → ¬ (BeginsAs200 (json_answer status allow body))

pub no_400 : IsNo200 400
unfolding digits
no_400 allow body (rest, e) = no_other (ap tenth e)

pub no_404 : IsNo200 404
unfolding digits
no_404 allow body (rest, e) = no_other (ap tenth e)

pub no_405 : IsNo200 405
unfolding digits
no_405 allow body (rest, e) = no_other (ap tenth e)

pub no_409 : IsNo200 409
unfolding digits
no_409 allow body (rest, e) = no_other (ap tenth e)

pub no_411 : IsNo200 411
unfolding digits
no_411 allow body (rest, e) = no_other (ap tenth e)

pub no_413 : IsNo200 413
unfolding digits
no_413 allow body (rest, e) = no_other (ap tenth e)

pub no_503 : IsNo200 503
unfolding digits
no_503 allow body (rest, e) = no_fault (ap tenth e)

no_ok : ¬ (◌≡◌ {A = ℕ} 50 53)
no_ok e = omega (arith, e)

-- an accepted input isn't answered by 503
pub ok_no_503 : (count : ℕ) → ¬ (BeginsAs503 (ok_answer count))
unfolding digits
ok_no_503 count (rest, e) = no_ok (ap tenth e)

-- a beginning that begins so, begins the whole so
pub begins_as_200 : (n : ℕ) (out : List ℕ) → BeginsAs200 (take n out) → BeginsAs200 out
begins_as_200 n out (rest, e) = (rest ++ drop n out, sym (take-append-drop n out) ∙ ap (λ l. l ++ drop n out) e ∙ append_assoc (codes "HTTP/1.1 2") rest (drop n out))

pub begins_as_503 : (n : ℕ) (out : List ℕ) → BeginsAs503 (take n out) → BeginsAs503 out
begins_as_503 n out (rest, e) = (rest ++ drop n out, sym (take-append-drop n out) ∙ ap (λ l. l ++ drop n out) e ∙ append_assoc (codes "HTTP/1.1 5") rest (drop n out))
