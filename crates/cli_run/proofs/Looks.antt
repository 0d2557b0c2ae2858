-- What is written of a telegram.
use Rattle.cli_run.proofs.Common.{Bool, Err, Given, HasCome, HasSeen, HasStoppedLook, HasToldPart, HasToldWhy, IfErr, IfOk, IsSeen, List, None, Ok, OnOk, Result, RunFault, inr, most_bytes, subst, sym, telegram_head, ℕ, ◌++◌, ◌≡◌}
use Rattle.cli_run.specs.declared.telling.RunFault.TheVariants as fault

pub ok_more : {A E : Type 0} (r : Result A E) (P Q : A → Type 0) → ((x : A) → P x → Q x) → IfOk r P → IfOk r Q
ok_more (Ok x) P Q more p = more x p
ok_more (Err e) P Q more p = tt

pub all_seen : {E : Type 0} (read_old read_new sent_old sent_new : Given) (taken : E → Given) (e0 e1 : E) (bytes text : List ℕ) (good unread : Bool) (r : Result Bool RunFault)
    → HasCome most_bytes read_old read_new bytes → IsSeen bytes text good unread → IfOk r (λ g. g ≡ good) → OnOk r (sent_new.bytes ≡ sent_old.bytes ++ text)
    → OnOk r (HasToldWhy taken unread (telegram_head None) e0 e1) → IfOk r (HasSeen read_old read_new sent_old sent_new taken e0 e1)
all_seen read_old read_new sent_old sent_new taken e0 e1 bytes text good unread (Ok g) come seen is written reason = record {
  bytes = bytes;
  come = come;
  text = text;
  unread = unread;
  seen = subst (λ (b : Bool). IsSeen bytes text b unread) (sym is) seen;
  written = written;
  reason = reason;
}
all_seen read_old read_new sent_old sent_new taken e0 e1 bytes text good unread (Err e) come seen is written reason = tt

-- a look that the writer stopped
pub part_seen : (read_old read_new sent_old sent_new : Given) (bytes text : List ℕ) (good unread : Bool) (r : Result Bool RunFault)
    → HasCome most_bytes read_old read_new bytes → IsSeen bytes text good unread → IfErr r (λ e. e ≡ fault.Write) → IfErr r (HasToldPart text sent_old sent_new)
    → IfErr r (HasStoppedLook read_old read_new sent_old sent_new)
part_seen read_old read_new sent_old sent_new bytes text good unread (Ok g) come seen why part = tt
part_seen read_old read_new sent_old sent_new bytes text good unread (Err e) come seen why part =
    inr (record { bytes = bytes; come = come; text = text; good = good; unread = unread; seen = seen; why = why; part = part })
