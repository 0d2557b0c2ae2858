use Rattle.std.proofs.Common.{inr, string_bytes}
use Rattle.http_desk.proofs.Joining.{ok_more}
use Rattle.http_desk.proofs.writing.telegram_line.Goals as goal

pub returns : goal.returns
returns c = ok_more c.format.result _ _ (λ line is. inr (string_bytes c.in_ok-reason.reason, c.in_ok-reason.ensures, is)) c.format.ensures.ok
