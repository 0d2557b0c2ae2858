use Rattle.table_audits.proofs.Common.{AreMessages, IfSome, IsSome, length, refl, subst, sym, true, ◌↔◌, ◌∙◌, ◌≡◌}
use Rattle.table_audits.proofs.Taken.{messages_count, messages_so}
use Rattle.table_audits.proofs.Tables.{are, bad, missing, tested, outbox_table}
use Rattle.table_audits.proofs.outbox.is_good.Goals as goal

pub returns-in_default-clause-read : goal.returns-in_default-clause-read
returns-in_default-clause-read g c = λ clean up so_far knows. missing (outbox_table _) so_far (rw c.in_default.is at c.in_ok-messages.ensures.read clean up)

pub returns-in_default-if_confirmed-clause-read : goal.returns-in_default-if_confirmed-clause-read
returns-in_default-if_confirmed-clause-read g c = λ clean up so_far knows.
    let read = c.in_ok-messages.ensures.read clean up in
    let messages = rw c.in-Some.is at read.0 in
    let none = sym c.if_confirmed.ensures ∙ c.in_default-if_confirmed.is in
    (bad (outbox_table _) so_far _ messages.1 (λ t so is. subst (λ o. IsSome o ↔ AreMessages t) none (messages_so t messages.0 _ (knows.0 t so.1.1.1.1.1.1.1.1).1 is c.in-Some.messages.count messages.2)), read.1)

pub returns-clause-read : goal.returns-clause-read
returns-clause-read g c = λ clean up so_far knows.
    let read = c.in_ok-messages.ensures.read clean up in
    let messages = rw c.in-Some.is at read.0 in
    let some = sym c.if_confirmed.ensures ∙ c.in-Some-if_confirmed.is in (
      tested (outbox_table _) so_far _ messages.1 true (λ t so is. subst (λ o. IsSome o ↔ AreMessages t) some (messages_so t messages.0 _ (knows.0 t so.1.1.1.1.1.1.1.1).1 is c.in-Some.messages.count messages.2))
          (refl, (knows.0, knows.1, knows.2, knows.3, knows.4, λ t so. subst (λ o. IfSome o (λ count. count ≡ length t.outbox)) some (messages_count t messages.0 _ (are (outbox_table _) so_far _ messages.1 t so.0.held) c.in-Some.messages.count messages.2))),
      read.1,
    )
