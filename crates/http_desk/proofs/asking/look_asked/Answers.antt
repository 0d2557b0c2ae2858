use Rattle.std.proofs.Common.{inl}
use Rattle.http_desk.proofs.Joining.{ok_more}
use Rattle.http_desk.proofs.asking.look_asked.Goals as goal

pub returns-in-Ok : goal.returns-in-Ok
returns-in-Ok c = ok_more c.look_seen.result _ _ (λ body is. inl (c.in-Ok.look, c.in-Ok.ensures.seen, is)) c.look_seen.ensures
