use Rattle.std.proofs.Common.{◌∙◌, sym, pos, FitsSigned, rules, w64, to_z, of_z, to_z-of_z}
use Rattle.row_codec.proofs.Amounts.{drawn_is, drawn_nothing, sum_told}
use Rattle.row_codec.proofs.counting.drawn.Goals as goal

pub returns-in_ok-shortfall-in-Some : goal.returns-in_ok-shortfall-in-Some
returns-in_ok-shortfall-in-Some c counts book w rows are plain =
    let fits : FitsSigned w64 c.place_code-code.result = search rules in
    drawn_is book w c.args.place.now c.in-Some.tally c.in_ok-shortfall-in-Some.field-0
    (sum_told counts book are w c.args.place.now plain (to_z w64 (of_z w64 c.place_code-code.result)) (to_z-of_z fits ∙ c.place_code-code.ensures) c.in-Some.tally
    (sym (c.in-Some.is) ∙ c.at_place.ensures counts (pos w) rows))
    c.in_ok-shortfall-in-Some.ensures.pieces c.in_ok-shortfall-in-Some.ensures.tenths

pub returns-in-None : goal.returns-in-None
returns-in-None c counts book w rows are plain =
    drawn_nothing counts book are w c.args.place.now plain (to_z w64 (of_z w64 c.place_code-code.result)) (let fits : FitsSigned w64 c.place_code-code.result = search rules in to_z-of_z fits ∙ c.place_code-code.ensures)
    (sym (c.in-None.is) ∙ c.at_place.ensures counts (pos w) rows)
