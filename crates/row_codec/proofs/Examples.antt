-- Worked examples of moves and running counts, computed.
use Rattle.row_codec.proofs.Common.{Built, Count, Delivered, Departed, FlightDate, Free, Hand, List, Missing, Move, None, Option, Place, Some, Surplus, [], build_in, codes, count_in, move_by, move_row, negsuc, pos, refl, running, ℕ, ◌∷◌, ◌≡◌}

abbrev lh400 : FlightDate
lh400 = record { flight = record { carrier = codes "LH"; number = 400; suffix = None }; day = 19_000 }

abbrev number : ℕ
number = 201_234_567

abbrev moved : Place → Place → ℕ → ℕ → Option FlightDate → Move
moved from to pieces tenths flight = record { awb = number; from = from; to = to; pieces = pieces; tenths = tenths; flight = flight; at = record { day = 19_000; minute = 600 } }

-- ten pieces received, four of them built and departed
abbrev book : List Move
book = moved Hand Free 10 1000 None ∷ moved Free (Built lh400) 4 400 (Some lh400) ∷ moved (Built lh400) Departed 4 400 (Some lh400) ∷ []

abbrev count : ℕ → Option Count
count place = count_in (running book) (pos number, pos place)

abbrev built_before : List Move
built_before = moved Hand Free 10 1000 None ∷ moved Free (Built lh400) 4 400 (Some lh400) ∷ []

from_hand : count 0 ≡ Some (record { pieces = negsuc 9; tenths = negsuc 999 })
from_hand = refl

in_store : count 2 ≡ Some (record { pieces = pos 6; tenths = pos 600 })
in_store = refl

gone : count 4 ≡ Some (record { pieces = pos 4; tenths = pos 400 })
gone = refl

none_delivered : count 5 ≡ None
none_delivered = refl

none_missing : count 6 ≡ None
none_missing = refl

no_code : count 3 ≡ None
no_code = refl

none_built : build_in (running book) (codes "LH400", (pos 19_000, pos number)) ≡ None
none_built = refl

four_built : build_in (running built_before) (codes "LH400", (pos 19_000, pos number)) ≡ Some (record { pieces = pos 4; tenths = pos 400 })
four_built = refl

no_flight : build_in (running built_before) (codes "LH0400", (pos 19_000, pos number)) ≡ None
no_flight = refl

-- the row of a move is read as that move

received : move_by (move_row 1 (moved Hand Free 10 1000 None)) ≡ moved Hand Free 10 1000 None
received = refl

found : move_by (move_row 1 (moved Surplus Free 1 100 None)) ≡ moved Surplus Free 1 100 None
found = refl

built : move_by (move_row 2 (moved Free (Built lh400) 4 400 (Some lh400))) ≡ moved Free (Built lh400) 4 400 (Some lh400)
built = refl

taken_off : move_by (move_row 3 (moved (Built lh400) Free 4 400 (Some lh400))) ≡ moved (Built lh400) Free 4 400 (Some lh400)
taken_off = refl

departed : move_by (move_row 3 (moved (Built lh400) Departed 4 400 (Some lh400))) ≡ moved (Built lh400) Departed 4 400 (Some lh400)
departed = refl

delivered : move_by (move_row 4 (moved Free Delivered 6 600 None)) ≡ moved Free Delivered 6 600 None
delivered = refl

missed : move_by (move_row 5 (moved Free Missing 1 100 None)) ≡ moved Free Missing 1 100 None
missed = refl

found_again : move_by (move_row 6 (moved Missing Free 1 100 None)) ≡ moved Missing Free 1 100 None
found_again = refl

-- a check-in names the flight that brought the pieces
checked_in : move_by (move_row 1 (moved Hand Free 10 1000 (Some lh400))) ≡ moved Hand Free 10 1000 (Some lh400)
checked_in = refl
