-- Sinks after rows were handed out.
use Rattle.std.specs.Prelude.{◌≡◌, ℕ, Bool, Result, Ok, Err, List, [], ◌∷◌, take}
use Rattle.std.specs.Bool.{MatchBool}

-- The sink took these rows in order, all of them or up to the one at which it stopped.
abbrev pub HandedOut : {S Row : Type 0} → (S → Row → Bool → S → Type 0) → List Row → S → S → Type 0
HandedOut takes [] old new = new ≡ old
HandedOut {S} takes (row ∷ rows) old new = (go : Bool) × (mid : S) × takes old row go mid × MatchBool go (HandedOut takes rows mid new) (new ≡ mid)

-- At Ok all of these rows were handed out, or those up to the one at which the sink stopped; at an
-- error a prefix.
abbrev pub Hands : {S Row E : Type 0} → (S → Row → Bool → S → Type 0) → List Row → S → S → Result (Unit {0}) E → Type 0
Hands takes rows old new (Ok x) = HandedOut takes rows old new
Hands takes rows old new (Err e) = (n : ℕ) × HandedOut takes (take n rows) old new
