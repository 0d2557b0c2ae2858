use Rattle.std.proofs.Common.{◌∙◌, ◌++◌, ap, codes, inl, string_bytes}
use Rattle.http_desk.proofs.Joining.{ok_more}
use Rattle.http_desk.proofs.writing.command_line.Goals as goal

pub returns : goal.returns
returns c =
    let reason = string_bytes c.in_ok-reason.reason in
    ok_more c.format.result _ _
    (λ line is. inl (c.args.verb, reason, c.in_ok-reason.ensures, is ∙ ap (λ word. codes "POST /v1/act/" ++ (word ++ (codes ": " ++ reason))) c.word-word.ensures))
    c.format.ensures.ok
