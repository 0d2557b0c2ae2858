use Rattle.std.proofs.Common.{◌∙◌, ap, ◌∷◌, [], ◌++◌, append_assoc}
use Rattle.cli_run.proofs.Parts.{first_part, next_part}
use Rattle.cli_run.proofs.answering.send_word.Goals as goal

pub returns-in_err-send_part-2-clause-sent : goal.returns-in_err-send_part-2-clause-sent
returns-in_err-send_part-2-clause-sent g c =
    first_part (c.args.head.now ++ c.args.word.now) (10 ∷ []) (g.W.ByteOut.taken c.args.writer.now) (g.W.ByteOut.taken c.send_part-2.new.writer)
    (next_part c.args.head.now c.args.word.now (g.W.ByteOut.taken c.args.writer.now) (g.W.ByteOut.taken c.send_part.new.writer)
    (g.W.ByteOut.taken c.send_part-2.new.writer) (rw c.as_bytes.ensures.value at c.in_ok-send_part.ensures.all) c.send_part-2.ensures.sent)

pub returns-clause-sent : goal.returns-clause-sent
returns-clause-sent g c =
    let head = rw c.as_bytes.ensures.value at c.in_ok-send_part.ensures.all in
    let both = c.in_ok-send_part-2.ensures.all ∙ ap (λ front. front ++ c.args.word.now) head ∙ append_assoc (g.W.ByteOut.taken c.args.writer.now).bytes c.args.head.now c.args.word.now in
    next_part (c.args.head.now ++ c.args.word.now) (10 ∷ []) (g.W.ByteOut.taken c.args.writer.now) (g.W.ByteOut.taken c.send_part-2.new.writer)
    (g.W.ByteOut.taken c.send_part-3.new.writer) both c.send_part-3.ensures.sent
