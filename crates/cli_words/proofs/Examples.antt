-- Words of `report`, by the definitions.
use Rattle.std.proofs.Common.{◌≡◌, refl, true, false, Some, None, codes}
use Rattle.reports.specs.Reports.{report_called}
use Rattle.reports.specs.declared.report.Listing.{Listing}
use Rattle.reports.specs.declared.report.Listing.TheVariants as listing
use Rattle.reports.specs.declared.report.Report.TheVariants as report
use Rattle.cli_words.specs.Line.{IsOfFlight, IsPart}
use Rattle.shipment_machine.specs.declared.flight.FlightDate.{FlightDate}

-- `report shed`
whole : IsPart report.Shed None false None None None None (listing.All report.Shed)
whole = refl

-- `report flights --open`
open_flights : IsPart report.Flights None true None None None None listing.OpenFlights
open_flights = refl

-- no report has the name of a manifest
manifest_is_no_report : report_called (codes "manifest") ≡ None
manifest_is_no_report = refl

arrivals_are_no_report : report_called (codes "arrivals") ≡ None
arrivals_are_no_report = refl

-- `report flights LH400/2026-01-12`
flight_of_a_report : (l : Listing) → ¬ (IsPart report.Flights (Some (codes "LH400/2026-01-12")) false None None None None l)
flight_of_a_report l h = h

-- `report trail --after 40 --last 20`
two_parts : (l : Listing) → ¬ (IsPart report.Trail None false None None (Some (codes "40")) (Some (codes "20")) l)
two_parts l h = h

-- `report stock --last 20`
last_of_the_stock : (l : Listing) → ¬ (IsPart report.Stock None false None None None (Some (codes "20")) l)
last_of_the_stock l h = h

-- `report manifest`
manifest_of_no_flight : (f : FlightDate) → ¬ (IsOfFlight None false None None None None f)
manifest_of_no_flight f h = h

-- `report arrivals LH400/2026-01-12 --last 20`
arrivals_with_a_part : (f : FlightDate) → ¬ (IsOfFlight (Some (codes "LH400/2026-01-12")) false None None None (Some (codes "20")) f)
arrivals_with_a_part f h = h
