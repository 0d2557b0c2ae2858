-- What fields hold by their types, and the flight that may be left out.
use Rattle.desk_commands.proofs.Common.{Absent, FieldValue, Flight, FlightDate, IfSome, IsDesignator, IsFlightDate, List, None, Number, Option, Some, Text, [], day_if_any, flight_date_in, flight_if_any, flight_if_any_in, refl, subst, ⊤, ◌<◌, ◌>>=◌, ◌∷◌, ◌≡◌}
use Rattle.desk_commands.proofs.Fields.{IsFlightValues, flight_date_is}
use Rattle.desk_commands.proofs.Steps.{some_is, reads}

-- the ranges that numbers and flights have by their types
abbrev pub IsTyped : FieldValue → Type 0
IsTyped (Text text) = ⊤
IsTyped (Number n) = n < 4_294_967_296
IsTyped (Flight f) = IsDesignator f
IsTyped Absent = ⊤

pub date_range : (a b : FieldValue) (f : FlightDate) → IsTyped a → IsFlightValues a b f → IsFlightDate f
date_range a b f h r = (subst IsTyped r.flight_is h, r.day_is)

pub record IsFlightIfAny (a b : FieldValue) (f : Option FlightDate) : Type 0 where
  pub in_range : IfSome f IsFlightDate
  pub flight_is : a ≡ flight_if_any f
  pub date_is : b ≡ day_if_any f

named : (a b : FieldValue) (f : Option FlightDate) → IsTyped a → (flight_date_in a b >>= λ x. Some (Some x)) ≡ Some f → IsFlightIfAny a b f
named a b f h e =
    reads (flight_date_is a b) (λ x g e.
    subst (IsFlightIfAny a b) (some_is _ f e) (record { in_range = date_range a b x h g; flight_is = g.flight_is; date_is = g.date_is })) e

pub flight_if_any_is : (a b : FieldValue) (f : Option FlightDate) → IsTyped a → flight_if_any_in a b ≡ Some f → IsFlightIfAny a b f
flight_if_any_is Absent Absent f h e =
    let same = some_is {A = Option FlightDate} None f e in
    subst (IsFlightIfAny Absent Absent) same (record { in_range = tt; flight_is = refl; date_is = refl })
flight_if_any_is Absent (Text t) f h e = named Absent (Text t) f h e
flight_if_any_is Absent (Number n) f h e = named Absent (Number n) f h e
flight_if_any_is Absent (Flight g) f h e = named Absent (Flight g) f h e
flight_if_any_is (Text t) b f h e = named (Text t) b f h e
flight_if_any_is (Number n) b f h e = named (Number n) b f h e
flight_if_any_is (Flight g) b f h e = named (Flight g) b f h e

abbrev pub AreTyped : List FieldValue → Type 0
AreTyped [] = ⊤
AreTyped (g ∷ gs) = IsTyped g × AreTyped gs
