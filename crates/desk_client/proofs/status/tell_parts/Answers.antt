use Rattle.std.proofs.Common.{refl, ◌++◌, ◌∷◌, []}
use Rattle.desk_client.proofs.Telling.{gone_on, stopped}
use Rattle.desk_client.proofs.status.tell_parts.Goals as goal

pub returns-in-Ok : goal.returns-in-Ok
returns-in-Ok g c =
    gone_on (c.args.text.now ++ (c.args.head.now ++ c.args.word.now ++ 10 ∷ [])) c.as_bytes.result.now (c.args.head.now ++ c.args.word.now ++ 10 ∷ [])
    (g.E.ByteOut.taken c.args.errors.now) (g.E.ByteOut.taken c.send_part.new.writer) (g.E.ByteOut.taken c.tell_word.new.errors)
    (rw c.as_bytes.ensures.value refl) c.in-Ok.ensures.all c.in-Ok.ensures.untroubled c.tell_word.ensures

pub returns-in-Err : goal.returns-in-Err
returns-in-Err g c =
    stopped (c.args.text.now ++ (c.args.head.now ++ c.args.word.now ++ 10 ∷ [])) c.as_bytes.result.now (c.args.head.now ++ c.args.word.now ++ 10 ∷ [])
    (g.E.ByteOut.taken c.args.errors.now) (g.E.ByteOut.taken c.send_part.new.writer) (rw c.as_bytes.ensures.value refl) c.in-Err.ensures.sent c.in-Err.ensures.cause
