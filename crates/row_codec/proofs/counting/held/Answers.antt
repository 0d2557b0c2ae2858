use Rattle.std.proofs.Common.{◌∙◌, sym, pos, FitsSigned, rules, w64, to_z, of_z, to_z-of_z}
use Rattle.row_codec.proofs.Amounts.{held_is, held_nothing, sum_told}
use Rattle.row_codec.proofs.counting.held.Goals as goal

pub returns-in_ok-amount-in-Some : goal.returns-in_ok-amount-in-Some
returns-in_ok-amount-in-Some c counts book w rows are plain =
    let fits : FitsSigned w64 c.place_code-code.result = search rules in
    held_is book w c.args.place.now c.in-Some.tally c.in_ok-amount-in-Some.field-0
    (sum_told counts book are w c.args.place.now plain (to_z w64 (of_z w64 c.place_code-code.result)) (to_z-of_z fits ∙ c.place_code-code.ensures) c.in-Some.tally
    (sym (c.in-Some.is) ∙ c.at_place.ensures counts (pos w) rows))
    c.in_ok-amount-in-Some.ensures.pieces c.in_ok-amount-in-Some.ensures.tenths

pub returns-in-None : goal.returns-in-None
returns-in-None c counts book w rows are plain =
    held_nothing counts book are w c.args.place.now plain (to_z w64 (of_z w64 c.place_code-code.result)) (let fits : FitsSigned w64 c.place_code-code.result = search rules in to_z-of_z fits ∙ c.place_code-code.ensures)
    (sym (c.in-None.is) ∙ c.at_place.ensures counts (pos w) rows)
