use Rattle.std.proofs.Common.{◌∙◌, sym, ap, Some, option_map, w64, of_z, to_z, to_z-of_z}
use Rattle.row_codec.proofs.Common.{Build, BuildKey, Tally, build_meant, get, running_on}
use Rattle.row_codec.proofs.Stores.{made_of, tally_read}
use Rattle.row_codec.proofs.building.at_flight.Goals as goal

pub returns-in-Some : goal.returns-in-Some
returns-in-Some g c = made_of (g.S.TableStore.view c.args.store.now) _ _ _ c.in_ok-row.ensures (λ seen shows sound.
    let key : BuildKey = (c.args.flight.now, (to_z w64 (of_z w64 c.args.day), to_z w64 (of_z w64 c.args.awb))) in
    tally_read key (get seen.now.builds key) (option_map build_meant c.in_ok-row.field-0) (Some c.build_tally.result) (c.in_ok-row.ensures.read seen shows sound)
    (ap (λ (r : Tally). Some r) c.build_tally.ensures ∙ sym (ap (λ o. option_map (λ (e : BuildKey × Build). running_on e.1) (option_map build_meant o)) c.in-Some.is))
    ∙ ap (λ (k : BuildKey). option_map running_on (get seen.now.builds k)) (λ i. (c.args.flight.now, (to_z-of_z c.ranges.day i, to_z-of_z c.ranges.awb i))))
