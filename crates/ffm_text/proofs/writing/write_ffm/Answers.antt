use Rattle.ffm_text.proofs.WrittenLaws.{read_again}
use Rattle.ffm_text.proofs.SentAgain.{sent_again}
use Rattle.ffm_text.proofs.writing.write_ffm.Goals as goal

pub returns-then-is_err-clause-normal : goal.returns-then-is_err-clause-normal
returns-then-is_err-clause-normal c =
    let h = c.written_known.ensures in
    sent_again c.args.flight c.args.date c.args.here c.args.unload c.args.loads.now h.designator h.calendar_day h.from h.to h.each h.few

pub returns-then-is_err-clause-read_again : goal.returns-then-is_err-clause-read_again
returns-then-is_err-clause-read_again c =
    let h = c.written_known.ensures in
    read_again c.args.flight c.args.date c.args.here c.args.unload c.args.loads.now h.designator h.calendar_day h.from h.to h.each

pub returns-else-is_err-clause-normal : goal.returns-else-is_err-clause-normal
returns-else-is_err-clause-normal c =
    let h = c.written_known.ensures in
    sent_again c.args.flight c.args.date c.args.here c.args.unload c.args.loads.now h.designator h.calendar_day h.from h.to h.each h.few

pub returns-else-is_err-clause-read_again : goal.returns-else-is_err-clause-read_again
returns-else-is_err-clause-read_again c =
    let h = c.written_known.ensures in
    read_again c.args.flight c.args.date c.args.here c.args.unload c.args.loads.now h.designator h.calendar_day h.from h.to h.each
