use Rattle.std.proofs.Common.{◌≡◌, subst, option_map, IfOk, to_z-of_z}
use Rattle.row_codec.proofs.Common.{BuildKey, get, running_on}
use Rattle.row_codec.proofs.building.carried.Goals as goal

pub returns-clause-read : goal.returns-clause-read
returns-clause-read g c x shows known sound =
    subst (λ (k : BuildKey). IfOk c.at_flight.result (λ found. found ≡ option_map running_on (get x.now.builds k))) (λ i. (c.args.flight.now, (to_z-of_z c.ranges.day i, to_z-of_z c.ranges.awb i)))
    (c.at_flight.ensures.read x shows sound)
