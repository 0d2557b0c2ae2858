use Rattle.cli_run.proofs.Common.{Err, call, kept_by, refl, rules}
use Rattle.cli_run.specs.declared.telling.RunFault.TheVariants as fault
use Rattle.cli_run.specs.declared.request.Request.TheVariants as asked
use Rattle.cli_run.proofs.Reasons.{explained_stop}
use Rattle.cli_run.proofs.Unanswered.{not_acted, shut_after}
use Rattle.cli_run.proofs.answer.answer_input.Goals as goal

pub returns-in-Err : goal.returns-in-Err
returns-in-Err g c =
    let k = g.K.Keeper.keeping in
    let sent = g.O.ByteOut.taken c.args.writer.now in
    record {
      service = search rules;
      breaks = λ works. shut_after c.in-Err.fault c.keeper_fault.result _ c.keeper_fault.ensures (c.in-Err.ensures.fault works) (c.in-Err.ensures.breaks works);
      answered = search rules;
      stopped = λ s keeps works sound.
          not_acted _ s c.args.input.now c.args.at c.in-Err.fault c.keeper_fault.result sent.bytes (kept_by k c.answer_one.new.keeper)
          c.keeper_fault.ensures (c.in-Err.ensures.answers s keeps works sound) (c.in-Err.ensures.leaves s keeps works sound);
      unread = search rules;
      writing = search rules;
      unwritten = search rules;
      same = search rules;
      reopen = search rules;
      explained = explained_stop c.args.number k (asked.Input c.args.input.now) c.args.at g.E.ByteOut.taken
          (call c.args.keeper.now sent c.args.errors.now) (call c.answer_one.new.keeper sent c.args.errors.now) _ c.keeper_fault.result refl refl;
    }

-- memory ran out for the line
pub returns-in_default : goal.returns-in_default
returns-in_default g c =
    let k = g.K.Keeper.keeping in
    let sent = g.O.ByteOut.taken c.args.writer.now in
    record {
      service = search rules;
      breaks = search rules;
      answered = search rules;
      stopped = search rules;
      unread = search rules;
      writing = search rules;
      unwritten = search rules;
      same = search rules;
      reopen = search rules;
      explained = explained_stop c.args.number k (asked.Input c.args.input.now) c.args.at g.E.ByteOut.taken
          (call c.args.keeper.now sent c.args.errors.now) (call c.answer_one.new.keeper sent c.args.errors.now) (Err fault.Memory) fault.Memory refl refl;
    }
