use Rattle.std.proofs.Common.{◌∙◌, sym, ap, Option, Some, None, option_map, option_copied, int_eq, to_z-of_z}
use Rattle.row_codec.proofs.Common.{CountRow, Tally, count_meant, find, running_in}
use Rattle.row_codec.proofs.Found.{tally_found}
use Rattle.row_codec.proofs.counting.at_place.Goals as goal

pub returns-in-Some : goal.returns-in-Some
returns-in-Some c counts awb are =
    tally_found counts awb c.args.place c.args.rows.now (option_copied c.first_at.result) (Some c.count_tally.result) are
    (c.first_at.ensures ∙ ap (λ p. find (λ (row : CountRow). int_eq row.place p) c.args.rows.now) (to_z-of_z c.ranges.place))
    (ap (λ (r : Tally). Some r) c.count_tally.ensures ∙ sym (ap (λ o. option_map (λ (row : CountRow). running_in (count_meant row).1) (option_copied o)) c.in-Some.is))

pub returns-in-None : goal.returns-in-None
returns-in-None c counts awb are =
    let nothing : Option Tally = None in
    tally_found counts awb c.args.place c.args.rows.now (option_copied c.first_at.result) nothing are
    (c.first_at.ensures ∙ ap (λ p. find (λ (row : CountRow). int_eq row.place p) c.args.rows.now) (to_z-of_z c.ranges.place))
    (sym (ap (λ o. option_map (λ (row : CountRow). running_in (count_meant row).1) (option_copied o)) c.in-None.is))
