use Rattle.reports.proofs.Common.{IsWhole, [], arith, book_by, book_cells, common_steps, data_by, irregular_cells, irregular_rows, line_by, message_data, message_lines, messages_by, rules, shed_cells, shed_rows, summary_cells, trail_by, trail_data, trail_line, ◌∷◌}
use Rattle.station_core.specs.Keeping.{summary_of}
use Rattle.station_core.specs.declared.rows.BookQuery.TheVariants as book
use Rattle.station_core.specs.declared.rows.ExpectedQuery.TheVariants as expected
use Rattle.station_core.specs.declared.rows.MessageQuery.TheVariants as messages
use Rattle.station_core.specs.declared.rows.TrailQuery.TheVariants as trail
use Rattle.reports.specs.declared.days.Lasting.TheVariants.{Irregular, Stored}
use Rattle.reports.proofs.FlightLists.{one_announced, one_expected, one_flights}
use Rattle.reports.proofs.Handing.{reported_as, reported_rows, reported_these}
use Rattle.reports.proofs.OneList.{one_list}
use Rattle.reports.proofs.Stays.{one_dated}
use Rattle.reports.proofs.reports.Printer.report.Goals as goal

pub returns-in-Stock : goal.returns-in-Stock
returns-in-Stock g c = reported_as _ (λ s. IsWhole c.args.self.now.form s) _ _ _ _ c.in-Stock.is (reported_rows _ _ _ _ _ _ _ _ (λ row. grind (arith, common_steps)) (λ s. one_list s.cargo.holders) c.all.ensures)

pub returns-in-Announced : goal.returns-in-Announced
returns-in-Announced g c = reported_as _ (λ s. IsWhole c.args.self.now.form s) _ _ _ _ c.in-Announced.is (reported_rows _ _ _ _ _ _ _ _ (λ row. grind (arith, common_steps)) (λ s. one_announced s.cargo) c.all-in-Announced.ensures)

pub returns-in-Shed : goal.returns-in-Shed
returns-in-Shed g c = reported_as _ (λ s. IsWhole c.args.self.now.form s) _ _ _ _ c.in-Shed.is (reported_these _ (line_by shed_cells) (data_by shed_cells) c.args.self.now.form (λ rows. rows) (λ s. shed_rows s.cargo) _ _ _ _ (λ row. grind (arith, common_steps)) c.all-in-Shed.ensures)

pub returns-in-ShedDays : goal.returns-in-ShedDays
returns-in-ShedDays g c = reported_as _ (λ s. IsWhole c.args.self.now.form s) _ _ _ _ c.in-ShedDays.is (reported_rows _ _ _ _ _ _ _ _ (λ row. grind (arith, common_steps)) (λ s. one_dated Stored (λ row. row.awb) s.cargo _) c.all-in-ShedDays.ensures)

pub returns-in-Flights : goal.returns-in-Flights
returns-in-Flights g c = reported_as _ (λ s. IsWhole c.args.self.now.form s) _ _ _ _ c.in-Flights.is (reported_rows _ _ _ _ _ _ _ _ (λ row. grind (arith, common_steps)) (λ s. one_flights s.cargo) c.all-in-Flights.ensures)

pub returns-in-Expected : goal.returns-in-Expected
returns-in-Expected g c = reported_as _ (λ s. IsWhole c.args.self.now.form s) _ _ _ _ c.in-Expected.is (reported_rows _ _ _ _ _ _ _ _ (λ row. grind (arith, common_steps)) (λ s. one_expected expected.All s.cargo) c.all-in-Expected.ensures)

pub returns-in-Irregularities : goal.returns-in-Irregularities
returns-in-Irregularities g c = reported_as _ (λ s. IsWhole c.args.self.now.form s) _ _ _ _ c.in-Irregularities.is (reported_these _ (line_by irregular_cells) (data_by irregular_cells) c.args.self.now.form (λ rows. rows) (λ s. irregular_rows s.cargo) _ _ _ _ (λ row. grind (arith, common_steps)) c.all-in-Irregularities.ensures)

pub returns-in-IrregularityDays : goal.returns-in-IrregularityDays
returns-in-IrregularityDays g c = reported_as _ (λ s. IsWhole c.args.self.now.form s) _ _ _ _ c.in-IrregularityDays.is (reported_rows _ _ _ _ _ _ _ _ (λ row. grind (arith, common_steps)) (λ s. one_dated Irregular (λ row. row.awb) s.cargo _) c.all-in-IrregularityDays.ensures)

pub returns-in-Movements : goal.returns-in-Movements
returns-in-Movements g c = reported_as _ (λ s. IsWhole c.args.self.now.form s) _ _ _ _ c.in-Movements.is (reported_these _ (line_by book_cells) (data_by book_cells) c.args.self.now.form (λ rows. rows) (λ s. book_by book.All s.cargo) _ _ _ _ (λ row. grind (arith, common_steps)) c.all-in-Movements.ensures)

pub returns-in-Trail : goal.returns-in-Trail
returns-in-Trail g c = reported_as _ (λ s. IsWhole c.args.self.now.form s) _ _ _ _ c.in-Trail.is (reported_these _ trail_line trail_data c.args.self.now.form (λ rows. rows) (λ s. trail_by trail.All s.cargo) _ _ _ _ (λ row. search rules) c.all-in-Trail.ensures)

pub returns-in-Pending : goal.returns-in-Pending
returns-in-Pending g c = reported_as _ (λ s. IsWhole c.args.self.now.form s) _ _ _ _ c.in-Pending.is (reported_these _ message_lines message_data c.args.self.now.form (λ rows. rows) (λ s. messages_by messages.Pending s.cargo) _ _ _ _ (λ row. search rules) c.all-in-Pending.ensures)

pub returns-in-Sent : goal.returns-in-Sent
returns-in-Sent g c = reported_as _ (λ s. IsWhole c.args.self.now.form s) _ _ _ _ c.in-Sent.is (reported_these _ message_lines message_data c.args.self.now.form (λ rows. rows) (λ s. messages_by (messages.After 0) s.cargo) _ _ _ _ (λ row. search rules) c.all-in-Sent.ensures)

pub returns-in-Station : goal.returns-in-Station
returns-in-Station g c = reported_as _ (λ s. IsWhole c.args.self.now.form s) _ _ _ _ c.in-Station.is (reported_these _ (line_by summary_cells) (data_by summary_cells) c.args.self.now.form (λ rows. rows) (λ s. summary_of s.cargo ∷ []) _ _ _ _ (λ row. grind (arith, common_steps)) c.all-in-Station.ensures)
