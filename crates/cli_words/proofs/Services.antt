-- A line that asks a running service.
use Rattle.std.proofs.Common.{◌≡◌, refl, ℕ, ◌≤◌, true, false, ◌||◌, is_some, List, Option, Some, None, IfSome, option_map}
use Rattle.cli_words.specs.Line.{IsAt, IsStation}

-- its port, and what holds of it
pub asked_port : {X : Type 0} (at : Option ℕ) (text : Option (List ℕ)) → IsAt text at → (is_some at ≡ true → X) → IfSome at (λ port. (1 ≤ port) × X)
asked_port None text is asks = tt
asked_port (Some port) None is asks = let none : Some port ≡ None = is in cc
asked_port (Some port) (Some text) is asks = (is.1, asks refl)

-- it names no file and no airport
pub no_own : {A : Type 0} (f : A → List ℕ) (file station zone : Option A) (airport : Option (List ℕ)) → (is_some file || is_some station || is_some zone) ≡ false
    → IsStation (option_map f station) airport → (file ≡ None) × (airport ≡ None)
no_own f None None None airport is named = (refl, named)
no_own f None None (Some z) airport is named = let bad : true ≡ false = is in cc
no_own f None (Some s) zone airport is named = let bad : true ≡ false = is in cc
no_own f (Some d) station zone airport is named = let bad : true ≡ false = is in cc
