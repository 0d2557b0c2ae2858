-- A line that goes out in parts.
use Rattle.std.proofs.Common.{arith, ◌≡◌, ◌∙◌, ap, sym, ℕ, ◌+◌, List, ◌++◌, length, take, append_assoc, length-append, inl, inr, ⊎_elim}
use Rattle.cli_run.proofs.Common.{Given, HasCause, HasSent, NoneFailed, take-append-add, take-append-le}

-- a beginning of its first part
pub first_part : (a b : List ℕ) (old new : Given) → HasSent a old new → HasSent (a ++ b) old new
first_part a b old new sent =
    (sent.0, (omega (arith, sent.1.0, length-append a b), sent.1.1 ∙ ap (λ part. old.bytes ++ part) (sym (take-append-le sent.0 a b sent.1.0))))

-- its first part, and a beginning of what comes behind
pub next_part : (a b : List ℕ) (old mid new : Given) → mid.bytes ≡ old.bytes ++ a → HasSent b mid new → HasSent (a ++ b) old new
next_part a b old mid new first sent = (
  length a + sent.0,
  (
    omega (arith, sent.1.0, length-append a b),
    sent.1.1 ∙ ap (λ front. front ++ take sent.0 b) first ∙ append_assoc old.bytes a (take sent.0 b)
        ∙ ap (λ part. old.bytes ++ part) (sym (take-append-add a b sent.0)),
  ),
)

pub untroubled_more : (old mid new : Given) → NoneFailed old mid → NoneFailed mid new → NoneFailed old new
untroubled_more old mid new first more = (more.0 ∙ first.0, more.1 ∙ first.1)

-- the cause lies behind what went out untroubled
pub cause_behind : (old mid new : Given) → NoneFailed old mid → HasCause mid new → HasCause old new
cause_behind old mid new first cause =
    ⊎_elim (λ failed. inl (omega (arith, failed, first.0))) (λ idle. inr (omega (arith, idle, first.1))) cause

pub cause_behind_two : (old mid next new : Given) → NoneFailed old mid → NoneFailed mid next → HasCause next new → HasCause old new
cause_behind_two old mid next new first second cause = cause_behind old mid new first (cause_behind mid next new second cause)
