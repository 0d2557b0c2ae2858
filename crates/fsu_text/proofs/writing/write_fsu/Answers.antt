use Rattle.fsu_text.proofs.SentLaws.{status_again}
use Rattle.fsu_text.proofs.SentLines.{lines_normal, lines_read}
use Rattle.fsu_text.proofs.writing.write_fsu.Goals as goal

pub returns-clause-normal : goal.returns-clause-normal
returns-clause-normal c = lines_normal c.args.update.now c.update_known.ensures

pub returns-clause-read_again : goal.returns-clause-read_again
returns-clause-read_again c = lines_read c.args.update.now c.update_known.ensures

pub returns-clause-status : goal.returns-clause-status
returns-clause-status c = let h = c.update_known.ensures in status_again c.args.update.now c.args.update.now.status h h.status
