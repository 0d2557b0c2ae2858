-- What follows of what a call returned.
use Rattle.state_store.proofs.Common.{Err, IfOk, Ok, OnOk, Result}

pub still_ok : {A E : Type 0} (P Q : A → Type 0) (r : Result A E) → ((a : A) → P a → Q a) → IfOk r P → IfOk r Q
still_ok P Q (Ok a) so h = so a h
still_ok P Q (Err e) so h = h

pub told_both : {A E : Type 0} (P Q R : Type 0) (r : Result A E) → (P → Q → R) → OnOk r P → OnOk r Q → OnOk r R
told_both P Q R (Ok a) so p q = so p q
told_both P Q R (Err e) so p q = p
