use Rattle.row_codec.proofs.Common.{SFits, rules, to_z-of_z, w64, ◌∙◌}
use Rattle.row_codec.proofs.Asking.{asks_lines_of}
use Rattle.row_codec.proofs.listing.line_query.Goals as goal

pub returns-in-Of : goal.returns-in-Of
returns-in-Of c =
    let fits : SFits w64 c.awb_key.result = search rules in
    asks_lines_of c.args.query c.in-Of.awb c.args.count _ c.in-Of.is (to_z-of_z w64 c.awb_key.result fits ∙ c.awb_key.ensures.value)
