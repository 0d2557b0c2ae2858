-- What stays of carried waybills, the sums of all places, late repeats, and the
-- messages of a waybill.
use Rattle.std.specs.Prelude.{◌≡◌, ℕ, ◌+◌, ◌==◌, Bool, not, if◌then◌else◌, List, None}
use Rattle.carried_station.specs.Common.{filter, list_any, sum_by, balances_of, built, Cargo, FlightDate, IsCommand, IsMeant, Move, Place, State, WasKept, repeated, Input, Keyed, Wire, Reply, ManifestLine, Notice}
use Rattle.shipment_machine.specs.declared.notice.Notice.TheVariants as notice
use Rattle.carried_station.specs.Carried.{Choice, carried, carried_moves}

-- A waybill has the same declaration, holder, balances, moves, lines of the trail and expectations
-- in both.
pub record IsSameWaybill (w : ℕ) (old new : Cargo) : Type 0 where
  pub declared : new.declared w ≡ old.declared w
  pub holder : new.holders w ≡ old.holders w
  pub balances : balances_of new.book w ≡ balances_of old.book w
  pub built : (f : FlightDate) → built new.book w f ≡ built old.book w f
  pub moves : filter (λ m. m.awb == w) new.book ≡ filter (λ m. m.awb == w) old.book
  pub trail : filter (λ line. line.0 == w) new.trail ≡ filter (λ line. line.0 == w) old.trail
  pub expected : (f : FlightDate) → new.expected f w ≡ old.expected f w

-- the moves of waybills that are left out
abbrev pub left_moves : Choice → List Move → List Move
left_moves c book = filter (λ m. not (c.waybill m.awb)) book

-- what all moves, of whatever waybill, brought to places and took from them
abbrev pub all_in : (Move → ℕ) → List Move → (Place → Bool) → ℕ
all_in measure book there = sum_by (λ m. if there m.to then measure m else 0) book

abbrev pub all_out : (Move → ℕ) → List Move → (Place → Bool) → ℕ
all_out measure book there = sum_by (λ m. if there m.from then measure m else 0) book

-- the sums of places are those of the carried and of the left out together
pub record SumsAgree (measure : Move → ℕ) (c : Choice) (book : List Move) (there : Place → Bool)
    : Type 0 where
  pub came : all_in measure book there
      ≡ all_in measure (carried_moves c book) there + all_in measure (left_moves c book) there
  pub went : all_out measure book there
      ≡ all_out measure (carried_moves c book) there + all_out measure (left_moves c book) there

-- a command in range, or a telegram whose text says its content, as the types guarantee
abbrev pub IsProper : Input → Type 0
IsProper (Keyed key order) = IsCommand order
IsProper (Wire telegram) = IsMeant telegram

-- an input that the old station accepted, and that the new one doesn't know
pub record IsLate (s : State) (c : Choice) (input : Input) : Type 0 where
  pub proper : IsProper input
  pub reply : Reply
  pub kept : WasKept s input reply
  pub unknown : repeated (carried c s) input ≡ None

-- true if a notice is of a waybill: a status of it, or a manifest with it
abbrev pub is_of : ℕ → Notice → Bool
is_of w (notice.Status here consigned event pieces tenths) = consigned.awb == w
is_of w (notice.Manifest here flight unload lines) =
    list_any (λ (line : ManifestLine). line.consigned.awb == w) lines
