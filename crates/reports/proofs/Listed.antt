-- The worked listings, computed.
use Rattle.reports.proofs.Common.{After, FlightRow, Json, Last, Of, Text, [], book_by, book_cells, book_rows, codes, data_by, expected_cells, filter, flight_cells, irregular_cells, irregular_rows, is_awaited, is_held_by, is_open, line_by, map, message_data, message_lines, messages_about, messages_after, messages_by, pending_messages, refl, rows_text, shed_cells, shed_rows, stock_cells, trail_by, trail_data, trail_line, true, ◌∷◌, ◌≡◌}
use Rattle.std.specs.Fmt.{digits}
use Rattle.serde_json.proofs.OnLiterals.{serde_json_on_literals}
use Rattle.jiff_core.specs.Calendar.{days_of_years, days_of_months, day_count, days_from_civil}
use Rattle.desk_commands.specs.Command.{day_line}
use Rattle.station_core.specs.declared.rows.MessageQuery.TheVariants as messages
use Rattle.station_core.specs.declared.rows.TrailQuery.TheVariants as trail
use Rattle.reports.proofs.Examples.{printed, stock_runs, received, departed, told, short, flight_row, checked_row, jfk, on_the_day}

-- The runs of one agent.

example_of_agent : rows_text Text (line_by stock_cells) (data_by stock_cells) (filter (is_held_by (codes "ACME")) stock_runs) ≡ printed (codes "020 1234570 1234572        3 AGENT ACME" ∷ codes "END 1" ∷ [])
unfolding digits
example_of_agent = refl

example_of_agent_object : rows_text Json (line_by stock_cells) (data_by stock_cells) (filter (is_held_by (codes "ACME")) stock_runs)
    ≡ printed (codes "{\"rows\":[{\"prefix\":\"020\",\"first\":\"1234570\",\"last\":\"1234572\",\"count\":3,\"holder\":\"agent\",\"name\":\"ACME\"}],\"count\":1}" ∷ [])
unfolding digits serde_json_on_literals
example_of_agent_object = refl

-- another agent's code begins so
example_of_another : rows_text Json (line_by stock_cells) (data_by stock_cells) (filter (is_held_by (codes "ACM")) stock_runs) ≡ printed (codes "{\"rows\":[],\"count\":0}" ∷ [])
unfolding digits serde_json_on_literals
example_of_another = refl

-- An open flight beside one that has departed, and what isn't checked in.

abbrev departed_row : FlightRow
departed_row = record { noted = record { flight = on_the_day; outbound = record { unload = jfk; closed = true } }; waybills = 0; pieces = 0; tenths = 0 }

example_open_flights : rows_text Text (line_by flight_cells) (data_by flight_cells) (filter is_open (departed_row ∷ flight_row ∷ [])) ≡ printed (codes "LH400/2026-01-12   JFK    1    4    40.0 open" ∷ codes "END 1" ∷ [])
unfolding digits day_line
example_open_flights = refl

example_open_flights_object : rows_text Json (line_by flight_cells) (data_by flight_cells) (filter is_open (departed_row ∷ flight_row ∷ []))
    ≡ printed (codes "{\"rows\":[{\"flight\":\"LH400\",\"date\":\"2026-01-12\",\"unload\":\"JFK\",\"waybills\":1,\"pieces\":4,\"tenths\":400,\"closed\":false}],\"count\":1}" ∷ [])
unfolding digits day_line serde_json_on_literals
example_open_flights_object = refl

example_checked_in : rows_text Text (line_by expected_cells) (data_by expected_cells) (filter is_awaited (checked_row ∷ [])) ≡ printed (codes "END 0" ∷ [])
unfolding digits day_line
example_checked_in = refl

example_expected_object : rows_text Json (line_by expected_cells) (data_by expected_cells) (checked_row ∷ [])
    ≡ printed (codes "{\"rows\":[{\"flight\":\"LH400\",\"date\":\"2026-01-12\",\"awb\":\"020-12345675\",\"origin\":\"FRA\",\"destination\":\"JFK\",\"pieces\":4,\"tenths\":400,\"checked\":true}],\"count\":1}" ∷ [])
unfolding digits day_line serde_json_on_literals
example_expected_object = refl

-- The movements of a waybill, and those after a number.

example_moves : rows_text Text (line_by book_cells) (data_by book_cells) (book_by (Of 201234567) received.cargo)
    ≡ printed (codes "       1 2026-01-12 10:30 020-12345675 HAND      FREE        10   100.0 -" ∷ codes "END 1" ∷ [])
unfolding digits day_line
example_moves = refl

example_moves_object : rows_text Json (line_by book_cells) (data_by book_cells) (book_rows received.cargo)
    ≡ printed (codes "{\"rows\":[{\"number\":1,\"date\":\"2026-01-12\",\"time\":\"10:30\",\"awb\":\"020-12345675\",\"from\":\"HAND\",\"to\":\"FREE\",\"pieces\":10,\"tenths\":1000,\"flight\":null}],\"count\":1}" ∷ [])
unfolding digits day_line serde_json_on_literals
example_moves_object = refl

example_moves_of_another : rows_text Text (line_by book_cells) (data_by book_cells) (book_by (Of 201234568) departed.cargo) ≡ printed (codes "END 0" ∷ [])
unfolding digits day_line
example_moves_of_another = refl

example_after : rows_text Text (line_by book_cells) (data_by book_cells) (book_by (After 2) departed.cargo)
    ≡ printed (codes "       3 2026-01-12 12:00 020-12345675 BUILT     DEPARTED     4    40.0 LH400/2026-01-12" ∷ codes "END 1" ∷ [])
unfolding digits day_line
example_after = refl

example_after_object : rows_text Json (line_by book_cells) (data_by book_cells) (book_by (After 1) departed.cargo)
    ≡ printed (codes "{\"rows\":[{\"number\":2,\"date\":\"2026-01-12\",\"time\":\"12:00\",\"awb\":\"020-12345675\",\"from\":\"FREE\",\"to\":\"BUILT\",\"pieces\":4,\"tenths\":400,\"flight\":\"LH400/2026-01-12\"},{\"number\":3,\"date\":\"2026-01-12\",\"time\":\"12:00\",\"awb\":\"020-12345675\",\"from\":\"BUILT\",\"to\":\"DEPARTED\",\"pieces\":4,\"tenths\":400,\"flight\":\"LH400/2026-01-12\"}],\"count\":2}" ∷ [])
unfolding digits day_line serde_json_on_literals
example_after_object = refl

-- the last movement
example_last : rows_text Text (line_by book_cells) (data_by book_cells) (book_by (Last 1) departed.cargo)
    ≡ printed (codes "       3 2026-01-12 12:00 020-12345675 BUILT     DEPARTED     4    40.0 LH400/2026-01-12" ∷ codes "END 1" ∷ [])
unfolding digits day_line
example_last = refl

-- The trail of a waybill, its lines after the first, and the last ones.

example_trail_of : rows_text Json trail_line trail_data (trail_by (trail.Of 201234567) told.cargo)
    ≡ printed (codes "{\"rows\":[{\"number\":1,\"awb\":\"020-12345675\",\"line\":\"ARR/LH400/12JAN/JFK\"}],\"count\":1}" ∷ [])
unfolding digits day_line serde_json_on_literals
example_trail_of = refl

example_trail_after : rows_text Text trail_line trail_data (trail_by (trail.After 1) told.cargo) ≡ printed (codes "END 0" ∷ [])
unfolding digits day_line
example_trail_after = refl

example_trail_last : rows_text Text trail_line trail_data (trail_by (trail.Last 2) told.cargo) ≡ printed (codes "020-12345675 ARR/LH400/12JAN/JFK" ∷ codes "END 1" ∷ [])
unfolding digits day_line
example_trail_last = refl

-- Whole reports as JSON.

example_irregular_object : rows_text Json (line_by irregular_cells) (data_by irregular_cells) (irregular_rows short.cargo)
    ≡ printed (codes "{\"rows\":[{\"awb\":\"020-12345675\",\"origin\":\"FRA\",\"destination\":\"JFK\",\"missing\":{\"pieces\":3,\"tenths\":300},\"found\":{\"pieces\":0,\"tenths\":0}}],\"count\":1}" ∷ [])
unfolding digits day_line days_of_years days_of_months day_count days_from_civil serde_json_on_literals
example_irregular_object = refl

example_shed_object : rows_text Json (line_by shed_cells) (data_by shed_cells) (shed_rows received.cargo)
    ≡ printed (codes "{\"rows\":[{\"awb\":\"020-12345675\",\"origin\":\"FRA\",\"destination\":\"JFK\",\"free\":{\"pieces\":10,\"tenths\":1000},\"built\":{\"pieces\":0,\"tenths\":0},\"notified\":false}],\"count\":1}" ∷ [])
unfolding digits day_line serde_json_on_literals
example_shed_object = refl

-- no message is after the last one, and all unconfirmed ones are after any confirmed one
example_pending_after : rows_text Text message_lines message_data (messages_by (messages.PendingAfter 4) departed.cargo) ≡ printed (codes "END 0" ∷ [])
unfolding digits day_line
example_pending_after = refl

example_pending_before : messages_by (messages.PendingAfter 2) departed.cargo ≡ pending_messages departed.cargo
unfolding digits day_line
example_pending_before = refl

-- the confirmed messages are sent again; three of them tell the waybill's status, none another's
example_sent_after : map (λ m. m.number) (messages_after 1 departed.cargo) ≡ 2 ∷ 3 ∷ 4 ∷ []
unfolding digits day_line
example_sent_after = refl

example_sent : map (λ m. m.number) (messages_about 201234567 departed.cargo) ≡ 1 ∷ 2 ∷ 3 ∷ []
unfolding digits day_line
example_sent = refl

example_sent_of_another : messages_about 201234568 departed.cargo ≡ []
unfolding digits day_line
example_sent_of_another = refl

example_pending_object : rows_text Json message_lines message_data (pending_messages departed.cargo)
    ≡ printed (codes "{\"rows\":[{\"number\":4,\"text\":\"FFM/8\\r\\n1/LH400/12JAN/FRA\\r\\nJFK\\r\\n020-12345675FRAJFK/P4K40.0T10/CARGO\\r\\nLAST\\r\\n\"}],\"count\":1}" ∷ [])
unfolding digits day_line serde_json_on_literals
example_pending_object = refl
