use Rattle.reports.proofs.Common.{IsListing, arith, book_by, book_cells, common_steps, data_by, irregular_cells, kept_data, kept_line, kept_rows, line_by, manifest_cells, manifest_rows, message_data, message_lines, messages_about, messages_by, open_irregular_rows, rules, trail_by, trail_data, trail_line}
use Rattle.station_core.specs.declared.rows.BookQuery.TheVariants as book
use Rattle.station_core.specs.declared.rows.ExpectedQuery.TheVariants as expected
use Rattle.station_core.specs.declared.rows.MessageQuery.TheVariants as messages
use Rattle.station_core.specs.declared.rows.TrailQuery.TheVariants as trail
use Rattle.reports.proofs.FlightLists.{one_expected, one_flights}
use Rattle.reports.proofs.Handing.{reported_as, reported_rows, reported_these}
use Rattle.reports.proofs.OneList.{one_list}
use Rattle.reports.proofs.Arriving.{one_arrivals}
use Rattle.reports.proofs.reports.write_listing.Goals as goal

pub returns-in-All : goal.returns-in-All
returns-in-All g c = reported_as _ (λ s. IsListing c.args.form s) _ _ _ _ c.in-All.is c.report.ensures

pub returns-in-OpenFlights : goal.returns-in-OpenFlights
returns-in-OpenFlights g c = reported_as _ (λ s. IsListing c.args.form s) _ _ _ _ c.in-OpenFlights.is (reported_rows _ _ _ _ _ _ _ _ (λ row. grind (arith, common_steps)) (λ s. one_flights s.cargo) c.picked.ensures)

pub returns-in-OpenExpected : goal.returns-in-OpenExpected
returns-in-OpenExpected g c = reported_as _ (λ s. IsListing c.args.form s) _ _ _ _ c.in-OpenExpected.is (reported_rows _ _ _ _ _ _ _ _ (λ row. grind (arith, common_steps)) (λ s. one_expected expected.Open s.cargo) c.all.ensures)

pub returns-in-OpenIrregularities : goal.returns-in-OpenIrregularities
returns-in-OpenIrregularities g c = reported_as _ (λ s. IsListing c.args.form s) _ _ _ _ c.in-OpenIrregularities.is (reported_these _ (line_by irregular_cells) (data_by irregular_cells) c.args.form (λ rows. rows) (λ s. open_irregular_rows s.cargo) _ _ _ _ (λ row. search rules) c.all-in-OpenIrregularities.ensures)

pub returns-in-AgentStock : goal.returns-in-AgentStock
returns-in-AgentStock g c = reported_as _ (λ s. IsListing c.args.form s) _ _ _ _ c.in-AgentStock.is (reported_rows _ _ _ _ _ _ _ _ (λ row. grind (arith, common_steps)) (λ s. one_list s.cargo.holders) c.picked-in-AgentStock.ensures)

pub returns-in-Movements : goal.returns-in-Movements
returns-in-Movements g c = reported_as _ (λ s. IsListing c.args.form s) _ _ _ _ c.in-Movements.is (reported_these _ (line_by book_cells) (data_by book_cells) c.args.form (λ rows. rows) (λ s. book_by (book.Of c.in-Movements.awb) s.cargo) _ _ _ _ (λ row. grind (arith, common_steps)) c.all-in-Movements.ensures)

pub returns-in-MovementsAfter : goal.returns-in-MovementsAfter
returns-in-MovementsAfter g c = reported_as _ (λ s. IsListing c.args.form s) _ _ _ _ c.in-MovementsAfter.is (reported_these _ (line_by book_cells) (data_by book_cells) c.args.form (λ rows. rows) (λ s. book_by (book.After c.in-MovementsAfter.n) s.cargo) _ _ _ _ (λ row. grind (arith, common_steps)) c.all-in-MovementsAfter.ensures)

pub returns-in-MovementsLast : goal.returns-in-MovementsLast
returns-in-MovementsLast g c = reported_as _ (λ s. IsListing c.args.form s) _ _ _ _ c.in-MovementsLast.is (reported_these _ (line_by book_cells) (data_by book_cells) c.args.form (λ rows. rows) (λ s. book_by (book.Last c.in-MovementsLast.n) s.cargo) _ _ _ _ (λ row. grind (arith, common_steps)) c.all-in-MovementsLast.ensures)

pub returns-in-Trail : goal.returns-in-Trail
returns-in-Trail g c = reported_as _ (λ s. IsListing c.args.form s) _ _ _ _ c.in-Trail.is (reported_these _ trail_line trail_data c.args.form (λ rows. rows) (λ s. trail_by (trail.Of c.in-Trail.awb) s.cargo) _ _ _ _ (λ row. search rules) c.all-in-Trail.ensures)

pub returns-in-TrailAfter : goal.returns-in-TrailAfter
returns-in-TrailAfter g c = reported_as _ (λ s. IsListing c.args.form s) _ _ _ _ c.in-TrailAfter.is (reported_these _ trail_line trail_data c.args.form (λ rows. rows) (λ s. trail_by (trail.After c.in-TrailAfter.n) s.cargo) _ _ _ _ (λ row. search rules) c.all-in-TrailAfter.ensures)

pub returns-in-TrailLast : goal.returns-in-TrailLast
returns-in-TrailLast g c = reported_as _ (λ s. IsListing c.args.form s) _ _ _ _ c.in-TrailLast.is (reported_these _ trail_line trail_data c.args.form (λ rows. rows) (λ s. trail_by (trail.Last c.in-TrailLast.n) s.cargo) _ _ _ _ (λ row. search rules) c.all-in-TrailLast.ensures)

pub returns-in-PendingAfter : goal.returns-in-PendingAfter
returns-in-PendingAfter g c = reported_as _ (λ s. IsListing c.args.form s) _ _ _ _ c.in-PendingAfter.is (reported_these _ message_lines message_data c.args.form (λ rows. rows) (λ s. messages_by (messages.PendingAfter c.in-PendingAfter.n) s.cargo) _ _ _ _ (λ row. search rules) c.all-in-PendingAfter.ensures)

pub returns-in-SentAfter : goal.returns-in-SentAfter
returns-in-SentAfter g c = reported_as _ (λ s. IsListing c.args.form s) _ _ _ _ c.in-SentAfter.is (reported_these _ message_lines message_data c.args.form (λ rows. rows) (λ s. messages_by (messages.After c.in-SentAfter.n) s.cargo) _ _ _ _ (λ row. search rules) c.all-in-SentAfter.ensures)

pub returns-in-Sent : goal.returns-in-Sent
returns-in-Sent g c = reported_as _ (λ s. IsListing c.args.form s) _ _ _ _ c.in-Sent.is (reported_these _ message_lines message_data c.args.form (λ rows. rows) (λ s. messages_about c.in-Sent.awb s.cargo) _ _ _ _ (λ row. search rules) c.all-in-Sent.ensures)

pub returns-in-Kept : goal.returns-in-Kept
returns-in-Kept g c = reported_as _ (λ s. IsListing c.args.form s) _ _ _ _ c.in-Kept.is (reported_these _ kept_line kept_data c.args.form (λ rows. rows) (λ s. kept_rows s c.in-Kept.key) _ _ _ _ (λ row. grind (arith, common_steps)) c.all-in-Kept.ensures)

pub returns-in-Manifest : goal.returns-in-Manifest
returns-in-Manifest g c = reported_as _ (λ s. IsListing c.args.form s) _ _ _ _ c.in-Manifest.is (reported_these _ (line_by manifest_cells) (data_by manifest_cells) c.args.form (λ rows. rows) (λ s. manifest_rows s.cargo c.in-Manifest.flight) _ _ _ _ (λ row. search rules) c.all-in-Manifest.ensures)

pub returns-in-Arrivals : goal.returns-in-Arrivals
returns-in-Arrivals g c = reported_as _ (λ s. IsListing c.args.form s) _ _ _ _ c.in-Arrivals.is (reported_rows _ _ _ _ _ _ _ _ (λ row. grind (arith, common_steps)) (λ s. one_arrivals c.in-Arrivals.flight s.cargo) c.all-in-Arrivals.ensures)
