use Rattle.cli_run.proofs.Common.{ap, has_reason, inl}
use Rattle.cli_run.proofs.Looks.{ok_more}
use Rattle.cli_run.proofs.seen.seen_of.Goals as goal

pub returns-in-Ok : goal.returns-in-Ok
returns-in-Ok c =
    ok_more c.seen_look.result _ _ (λ seen is. inl (record {
      look = c.in-Ok.look;
      is_look = c.in-Ok.ensures.seen;
      text_is = is.0;
      good_is = is.1;
      unread_is = ap has_reason is.2;
    })) c.seen_look.ensures
