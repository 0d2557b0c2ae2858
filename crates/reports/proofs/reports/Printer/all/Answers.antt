use Rattle.reports.proofs.Handing.{from_every, reported_all, to_every}
use Rattle.reports.proofs.reports.Printer.all.Goals as goal

pub returns : goal.returns
returns g c =
    let line = g.Row.ReportRow.line in
    let json = g.Row.ReportRow.json in
    reported_all _ _ _ _ _ _ _ _ _ (λ s. to_every line json c.args.self.now.form (g.R.Reading.rows c.args.reading.now s)) (λ s. from_every line json c.args.self.now.form (g.R.Reading.rows c.args.reading.now s)) c.picked.ensures
