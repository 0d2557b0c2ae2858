use Rattle.reports.proofs.Common.{HasEndedBy, HasEndedEach, IsTextOf, ap, false, filter, rules, subst, ◌++◌, ◌∙◌, ◌≡◌}
use Rattle.reports.proofs.Handing.{new_ended, new_ended_each}
use Rattle.reports.proofs.reports.Printer.picked.Goals as goal

pub returns : goal.returns
returns g c =
    let name = c.rows_into.ensures.writer ∙ c.new-sink.ensures.writer in
    let waiting = c.new-sink.ensures.waiting ∙ ap (λ t. t ++ c.args.self.now.front.now) c.new-gathered.ensures.items in
    record {
      reads = c.rows_into.ensures.reads;
      reopen = search rules;
      writes = search rules;
      ended = λ s keeps sound.
          subst (λ new. HasEndedBy (g.K.Keeper.keeping.is_broken c.args.keeper.now ≡ false) g.K.Keeper.keeping.may_fail (IsTextOf c.args.self.now.form g.Row.ReportRow.line g.Row.ReportRow.json (g.R.Reading.rows c.args.reading.now s) (filter (g.P.Pick.wanted c.args.pick)))
          c.args.self.now.front.now (g.W.ByteOut.taken c.args.writer.now) new c.rows_into.result) (search rules)
          (new_ended g.Row.ReportRow.line g.Row.ReportRow.json (g.R.Reading.rows c.args.reading.now s) g.P.Pick.wanted _ _ c.new-sink.ensures.form c.new-sink.ensures.pick waiting c.new-sink.ensures.given _ c.rows_into.result
          (c.rows_into.ensures.ended s keeps sound));
      each = λ s keeps sound one.
          subst (λ new. HasEndedEach (g.K.Keeper.keeping.is_broken c.args.keeper.now ≡ false) g.K.Keeper.keeping.may_fail (IsTextOf c.args.self.now.form g.Row.ReportRow.line g.Row.ReportRow.json (g.R.Reading.rows c.args.reading.now s) (filter (g.P.Pick.wanted c.args.pick)))
          c.args.self.now.front.now (g.W.ByteOut.taken c.args.writer.now) new c.rows_into.result) (search rules)
          (new_ended_each g.Row.ReportRow.line g.Row.ReportRow.json (g.R.Reading.rows c.args.reading.now s) g.P.Pick.wanted _ _ c.new-sink.ensures.form c.new-sink.ensures.pick waiting c.new-sink.ensures.given _ c.rows_into.result
          (c.rows_into.ensures.each s keeps sound one));
    }
