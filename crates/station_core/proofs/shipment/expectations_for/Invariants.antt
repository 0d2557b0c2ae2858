use Rattle.std.proofs.Common.{◌≡◌, take, filter}
use Rattle.station_core.proofs.Common.{asks_for}
use Rattle.station_core.proofs.shipment.expectations_for.Given as goal

-- what is asked for of the rows so far
abbrev pub invariant-loop-expectation : goal.invariant-loop-expectation
invariant-loop-expectation l = l.asked.items ≡ filter (asks_for l.query) (take l.expectation-index l.all)
