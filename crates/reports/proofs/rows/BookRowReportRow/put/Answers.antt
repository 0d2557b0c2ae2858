use Rattle.reports.proofs.Common.{Cell, List, OnOk, [], data_of, in_form, line_of, subst, ◌++◌, ◌∙◌, ◌∷◌, ◌≡◌}
use Rattle.reports.specs.declared.cells.Cell.TheVariants as cell
use Rattle.reports.proofs.rows.BookRowReportRow.put.Goals as goal

pub returns : goal.returns
returns c =
    let row = c.args.self.now in
    let m = row.movement in
    let pieces = c.from-pieces.ensures ∙ c.number.ensures.value in
    let tenths = c.from.ensures ∙ c.number-2.ensures.value in
    let shows : List Cell → Type 0 = λ cells. OnOk c.put_cells.result (c.put_cells.new.out.items ≡ c.args.out.now.items ++ in_form c.args.form (line_of cells) (data_of cells)) in
    subst shows
    (λ i. cell.Number row.number ∷ cell.Moment m.at ∷ cell.Awb m.awb ∷ cell.Places m.from m.to ∷ cell.Amount (pieces i) (tenths i) ∷ cell.OnFlight m.flight ∷ [])
    c.put_cells.ensures
