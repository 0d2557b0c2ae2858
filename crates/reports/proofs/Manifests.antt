-- The worked manifests, computed.
use Rattle.reports.proofs.Common.{Built, Departed, FlightDate, Free, Hand, Json, List, Move, Some, Text, [], amount, codes, data_by, line_by, manifest_cells, manifest_of, refl, rows_text, ℕ, ◌*◌, ◌∷◌, ◌≡◌}
use Rattle.std.specs.Fmt.{digits}
use Rattle.serde_json.proofs.OnLiterals.{serde_json_on_literals}
use Rattle.shipment_machine.specs.declared.moves.Place.{Place}
use Rattle.reports.proofs.Examples.{on_the_day, printed}

-- a move of pieces of ten kilograms, which names the flight
abbrev move : ℕ → Place → Place → ℕ → Move
move w from to pieces = record { awb = w; from = from; to = to; pieces = pieces; tenths = pieces * 100; flight = Some on_the_day; at = record { day = 20465; minute = 720 } }

-- four of ten pieces are built, and these leave
abbrev received : List Move
received = move 201234567 Hand Free 10 ∷ []

example_received : manifest_of received on_the_day ≡ []
example_received = refl

abbrev loaded : List Move
loaded = move 201234567 Hand Free 10 ∷ move 201234567 Free (Built on_the_day) 4 ∷ []

example_loaded : manifest_of loaded on_the_day ≡ record { awb = 201234567; built = amount 4 400; departed = amount 0 0 } ∷ []
example_loaded = refl

abbrev departed : List Move
departed = move 201234567 Hand Free 10 ∷ move 201234567 Free (Built on_the_day) 4 ∷ move 201234567 (Built on_the_day) Departed 4 ∷ []

example_departed : manifest_of departed on_the_day ≡ record { awb = 201234567; built = amount 0 0; departed = amount 4 400 } ∷ []
example_departed = refl

-- another day
abbrev the_next_day : FlightDate
the_next_day = record { flight = on_the_day.flight; day = 20466 }

example_another_day : manifest_of loaded the_next_day ≡ []
example_another_day = refl

-- one of the four pieces is taken off again, or all of them
example_less_one : manifest_of (move 201234567 Free (Built on_the_day) 4 ∷ move 201234567 (Built on_the_day) Free 1 ∷ []) on_the_day ≡ record { awb = 201234567; built = amount 3 300; departed = amount 0 0 } ∷ []
example_less_one = refl

example_less_all : manifest_of (move 201234567 Free (Built on_the_day) 4 ∷ move 201234567 (Built on_the_day) Free 4 ∷ []) on_the_day ≡ []
example_less_all = refl

-- two waybills, ascending
abbrev two_waybills : List Move
two_waybills = move 201234567 Free (Built on_the_day) 4 ∷ move 201234560 Free (Built on_the_day) 2 ∷ move 201234567 (Built on_the_day) Departed 4 ∷ []

example_two : manifest_of two_waybills on_the_day
    ≡ record { awb = 201234560; built = amount 2 200; departed = amount 0 0 } ∷ record { awb = 201234567; built = amount 0 0; departed = amount 4 400 } ∷ []
example_two = refl

-- as text and as JSON
example_lines : rows_text Text (line_by manifest_cells) (data_by manifest_cells) (manifest_of loaded on_the_day) ≡ printed (codes "020-12345675 built    4    40.0 departed    0     0.0" ∷ codes "END 1" ∷ [])
unfolding digits
example_lines = refl

example_object : rows_text Json (line_by manifest_cells) (data_by manifest_cells) (manifest_of departed on_the_day)
    ≡ printed (codes "{\"rows\":[{\"awb\":\"020-12345675\",\"built\":{\"pieces\":0,\"tenths\":0},\"departed\":{\"pieces\":4,\"tenths\":400}}],\"count\":1}" ∷ [])
unfolding digits serde_json_on_literals
example_object = refl
