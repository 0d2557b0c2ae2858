use Rattle.std.proofs.Common.{◌∙◌, ap, map, option_map, w64, of_z, to_z, to_z-of_z}
use Rattle.row_codec.proofs.Common.{CountKey, count_meant, get, running_in}
use Rattle.row_codec.proofs.counting.counted.Goals as goal

pub returns-clause-read : goal.returns-clause-read
returns-clause-read g c x shows known sound =
    c.at_place.ensures x.now.counts (to_z w64 (of_z w64 c.args.awb)) (ap (map count_meant) c.deref.ensures.value ∙ c.in_ok-rows.ensures.read x shows sound)
    ∙ ap (λ (k : CountKey). option_map running_in (get x.now.counts k)) (λ i. (to_z-of_z c.ranges.awb i, to_z-of_z c.ranges.place i))
