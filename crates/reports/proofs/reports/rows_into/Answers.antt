use Rattle.reports.proofs.Common.{progress_of, ◌∙◌}
use Rattle.reports.proofs.Choosing.{same_name}
use Rattle.reports.proofs.Forms.{piece}
use Rattle.reports.proofs.Handing.{ended_by, ended_each, stops_writing}
use Rattle.reports.proofs.reports.rows_into.Goals as goal

pub returns-clause-writer : goal.returns-clause-writer
returns-clause-writer g c =
    c.finish.ensures.writer ∙ same_name (progress_of g.W.ByteOut.taken) (λ sink. sink.writer.ghost_name) (λ sink. sink.form) (λ sink. sink.pick.now) (piece g.Row.ReportRow.line g.Row.ReportRow.json) g.P.Pick.wanted
    c.hand_out-read.ensures.took.0 c.args.sink.now c.hand_out-read.new.sink c.hand_out-read.ensures.took.1

pub returns-clause-writes : goal.returns-clause-writes
returns-clause-writes g c = λ some.
    stops_writing (progress_of g.W.ByteOut.taken) (λ sink. sink.writer.ghost_name) (λ sink. sink.form) (λ sink. sink.pick.now) g.Row.ReportRow.line g.Row.ReportRow.json g.P.Pick.wanted
    (λ rows. Unit {0}) c.args.sink.now c.hand_out-read.new.sink c.hand_out-read.result c.finish.result c.finish.new.self
    some c.requires.1 c.requires.2 c.hand_out-read.ensures.took c.finish.ensures.stuck c.finish.ensures.unread c.finish.ensures.ended

pub returns-clause-ended : goal.returns-clause-ended
returns-clause-ended g c = λ s keeps sound.
    ended_by (progress_of g.W.ByteOut.taken) (λ sink. sink.writer.ghost_name) (λ sink. sink.form) (λ sink. sink.pick.now) g.Row.ReportRow.line g.Row.ReportRow.json g.P.Pick.wanted
    (g.R.Reading.rows c.args.reading.now s) c.args.sink.now c.hand_out-read.new.sink c.hand_out-read.result c.finish.result c.finish.new.self
    _ _ c.requires.0 c.requires.1 c.requires.2 c.hand_out-read.ensures.took (c.hand_out-read.ensures.rows s keeps sound) (c.hand_out-read.ensures.beginning s keeps sound)
    c.hand_out-read.ensures.fault c.finish.ensures.stuck c.finish.ensures.unread c.finish.ensures.ended

pub returns-clause-each : goal.returns-clause-each
returns-clause-each g c = λ s keeps sound one.
    ended_each (progress_of g.W.ByteOut.taken) (λ sink. sink.writer.ghost_name) (λ sink. sink.form) (λ sink. sink.pick.now) g.Row.ReportRow.line g.Row.ReportRow.json g.P.Pick.wanted
    (g.R.Reading.rows c.args.reading.now s) c.args.sink.now c.hand_out-read.new.sink c.hand_out-read.result c.finish.result c.finish.new.self
    _ _ one c.requires.0 c.requires.1 c.requires.2 c.hand_out-read.ensures.took (c.hand_out-read.ensures.rows s keeps sound) (c.hand_out-read.ensures.beginning s keeps sound)
    c.hand_out-read.ensures.fault c.finish.ensures.stuck c.finish.ensures.unread c.finish.ensures.ended
