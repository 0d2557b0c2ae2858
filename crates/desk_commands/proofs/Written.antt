-- Texts that are written.
use Rattle.std.proofs.Common.{◌≡◌, ◌∙◌, ℕ, List, Result, Ok, Err, IfOk}

pub told : {T E : Type 0} (shown : T → List ℕ) (r : Result T E) (bs xs : List ℕ) → bs ≡ xs → IfOk r (λ s. shown s ≡ bs) → IfOk r (λ s. shown s ≡ xs)
told shown (Ok s) bs xs same is = is ∙ same
told shown (Err e) bs xs same is = tt
