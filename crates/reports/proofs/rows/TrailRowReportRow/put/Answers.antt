use Rattle.reports.proofs.Common.{OnOk, in_form, subst, sym, trail_data, trail_line, ◌++◌, ◌≡◌}
use Rattle.reports.proofs.rows.TrailRowReportRow.put.Goals as goal

pub returns-in-Json : goal.returns-in-Json
returns-in-Json c =
    let row = c.args.self.now in
    subst (λ f. OnOk c.put_trail_object.result (c.put_trail_object.new.out.items ≡ c.args.out.now.items ++ in_form f (trail_line row) (trail_data row))) (sym c.in-Json.is) c.put_trail_object.ensures
