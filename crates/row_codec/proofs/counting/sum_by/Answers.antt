use Rattle.std.proofs.Common.{◌∙◌, sym, pos, FitsSigned, rules, w64, to_z, of_z, to_z-of_z}
use Rattle.row_codec.proofs.Amounts.{sum_told, sum_none}
use Rattle.row_codec.proofs.counting.sum_by.Goals as goal

pub returns-in-Some : goal.returns-in-Some
returns-in-Some c counts book w rows are plain =
    sum_told counts book are w c.args.place.now plain (to_z w64 (of_z w64 c.place_code-code.result)) (let fits : FitsSigned w64 c.place_code-code.result = search rules in to_z-of_z fits ∙ c.place_code-code.ensures)
    c.in-Some.sum (sym (c.in-Some.is) ∙ c.at_place.ensures counts (pos w) rows)

pub returns-in-None : goal.returns-in-None
returns-in-None c counts book w rows are plain =
    sum_none counts book are w c.args.place.now plain (to_z w64 (of_z w64 c.place_code-code.result)) (let fits : FitsSigned w64 c.place_code-code.result = search rules in to_z-of_z fits ∙ c.place_code-code.ensures)
    (sym (c.in-None.is) ∙ c.at_place.ensures counts (pos w) rows)
