-- What fields hold fits their kinds.
use Rattle.desk_commands.proofs.Common.{Absent, Field, FieldValue, Flight, IsCount, IsDesignator, IsPieces, IsTenths, Kind, List, Number, Text, [], arith, kind_of, length, suc, true, zero, ℕ, ⊤, ◌<◌, ◌∷◌, ◌≡◌, ◌≤◌}
use Rattle.desk_commands.specs.declared.verb.Kind.TheVariants as kind
use Rattle.desk_commands.specs.Command.{day_line}
use Rattle.desk_commands.proofs.Free.{free}

-- texts without an end of a line, numbers and flights in their ranges, and what may be left out
abbrev pub Fits : Kind → FieldValue → Type 0
Fits kind.Text (Text t) = free t ≡ true
Fits kind.Number (Number n) = n < 4_294_967_296
Fits kind.Flight (Flight f) = IsDesignator f
Fits kind.FlightIfAny (Flight f) = IsDesignator f
Fits kind.FlightIfAny Absent = ⊤
Fits kind.TextIfAny (Text t) = (free t ≡ true) × (0 < length t)
Fits kind.TextIfAny Absent = ⊤
Fits _ _ = ⊥

abbrev pub AreFit : List Field → List FieldValue → Type 0
AreFit [] [] = ⊤
AreFit (f ∷ fs) (g ∷ gs) = Fits (kind_of f) g × AreFit fs gs
AreFit _ _ = ⊥

pub pieces_fit : (n : ℕ) → IsPieces n → n < 4_294_967_296
pieces_fit n h = let most = h.1 in omega (arith, most)

pub tenths_fit : (n : ℕ) → IsTenths n → n < 4_294_967_296
tenths_fit n h = omega (arith, h)

pub counted_fit : (n : ℕ) → IsCount n → n < 4_294_967_296
counted_fit n h = omega (arith, h)

pub count_fits : (n : ℕ) → n ≤ 9_999_999 → n < 4_294_967_296
count_fits n h = omega (arith, h)

pub day_long : (day : ℕ) → 0 < length (day_line day)
unfolding day_line
day_long day = omega arith

-- as many places as there are, of which the last are empty
abbrev pub values_in_places : ℕ → List FieldValue → List FieldValue
values_in_places zero values = []
values_in_places (suc n) [] = Absent ∷ values_in_places n []
values_in_places (suc n) (value ∷ values) = value ∷ values_in_places n values
