-- Commands and their texts, computed.
use Rattle.desk_commands.proofs.Common.{Book, Cargo, Depart, FlightDate, Issue, List, Missing, None, Some, Stock, [], codes, command_text, refl, ℕ, ◌++◌, ◌∷◌, ◌≡◌}
use Rattle.std.specs.Fmt.{digits}
use Rattle.desk_commands.specs.Command.{day_line}

-- a text and a line behind it
infixl 10 ◌⏎◌
abbrev ◌⏎◌ : List ℕ → List ℕ → List ℕ
text ⏎ line = text ++ (10 ∷ line)

abbrev lh400 : FlightDate
lh400 = record { flight = record { carrier = codes "LH"; number = 400; suffix = None }; day = 20465 }

issued : command_text (Stock (Issue (record { first = 201234572; count = 2 }) (codes "BETA"))) ≡ codes "issue" ⏎ codes "020" ⏎ codes "1234572" ⏎ codes "2" ⏎ codes "BETA"
unfolding digits
issued = refl

booked : command_text (Cargo (Book 201234567 (codes "FRA") (codes "JFK") 10 1000 [])) ≡ codes "book" ⏎ codes "020-12345675" ⏎ codes "FRA" ⏎ codes "JFK" ⏎ codes "10" ⏎ codes "1000" ⏎ []
unfolding digits
booked = refl

departed : command_text (Cargo (Depart lh400)) ≡ codes "depart" ⏎ codes "LH400" ⏎ codes "2026-01-12"
unfolding day_line
departed = refl

lost : command_text (Cargo (Missing 201234567 1 None)) ≡ codes "missing" ⏎ codes "020-12345675" ⏎ codes "1" ⏎ [] ⏎ []
unfolding digits
lost = refl

lost_of_a_flight : command_text (Cargo (Missing 201234567 1 (Some lh400))) ≡ codes "missing" ⏎ codes "020-12345675" ⏎ codes "1" ⏎ codes "LH400" ⏎ codes "2026-01-12"
unfolding digits day_line
lost_of_a_flight = refl
