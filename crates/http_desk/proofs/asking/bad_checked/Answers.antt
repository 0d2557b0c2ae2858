use Rattle.http_desk.proofs.Common.{ap, bad_data, compact_text, string_bytes, ◌∙◌}
use Rattle.http_desk.proofs.Joining.{ok_more}
use Rattle.http_desk.proofs.asking.bad_checked.Goals as goal

pub returns : goal.returns
returns c =
    ok_more c.bad_text.result _ _ (λ text is. (string_bytes c.in_ok-reason.reason, c.in_ok-reason.ensures, is ∙ ap (λ r. compact_text (bad_data r)) c.as_str.ensures.value)) c.bad_text.ensures
