use Rattle.row_codec.proofs.Common.{SFits, rules, to_z-of_z, w64, ◌∙◌}
use Rattle.row_codec.proofs.Asking.{asks_of, asks_on}
use Rattle.row_codec.proofs.listing.move_query.Goals as goal

pub returns-in-Of : goal.returns-in-Of
returns-in-Of c =
    let fits : SFits w64 c.awb_key.result = search rules in
    asks_of c.args.query c.in-Of.awb c.args.count _ c.in-Of.is (to_z-of_z w64 c.awb_key.result fits ∙ c.awb_key.ensures.value)

pub returns-in_ok-text-in-On : goal.returns-in_ok-text-in-On
returns-in_ok-text-in-On c =
    let fits : SFits w64 c.day_number.result = search rules in
    asks_on c.args.query c.in-On.flight c.args.count c.in_ok-text-in-On.text _ c.in-On.is c.in_ok-text-in-On.ensures.designator c.in_ok-text-in-On.ensures.text
    (to_z-of_z w64 c.day_number.result fits ∙ c.day_number.ensures.value)
