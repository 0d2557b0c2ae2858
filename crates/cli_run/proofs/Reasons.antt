-- What goes to standard error, by what was asked.
use Rattle.cli_run.proofs.Common.{Bool, Call, Err, Given, HasExplained, HasGivenReason, HasReason, HasToldWhy, Input, IsErrAnd, Keeping, List, LocalMinute, Ok, Option, Request, Result, RunFault, State, asked_unread, false, is_command, reason_head, refl, true, ℕ, ◌≡◌}
use Rattle.station_core.specs.declared.answer.Answer.{Answer}
use Rattle.station_core.specs.declared.answer.Input.TheVariants.{Keyed, Wire}
use Rattle.cli_run.specs.Seen.{answered_unread}
use Rattle.cli_run.specs.declared.request.Request.TheVariants as asked
use Rattle.cli_run.proofs.Ran.{always}

pub told_if : {E : Type 0} (taken : E → Given) (unread : Bool) (head : List ℕ) (old new : E) → unread ≡ true
    → HasReason head (taken old).bytes (taken new).bytes → HasToldWhy taken unread head old new
told_if taken true head old new is told = told
told_if taken false head old new is told = cc

-- a command that was read has no reason
pub command_read : (i : Input) (a : Answer) → is_command (asked.Input i) ≡ true → answered_unread i a ≡ false
command_read (Keyed key command) a is = refl
command_read (Wire telegram) a is = cc

-- what was accepted has no reason
quiet_given : {E : Type 0} (taken : E → Given) (unread : Bool) (head : List ℕ) (old new : E) (r : Result Bool RunFault) → HasGivenReason taken unread head old new r → r ≡ Ok true → new ≡ old
quiet_given taken true head old new (Ok true) given is = let never : true ≡ false = given.1 refl in cc
quiet_given taken false head old new (Ok true) given is = given.0
quiet_given taken unread head old new (Ok false) given is = cc
quiet_given taken unread head old new (Err e) given is = cc

-- a command that stopped
pub explained_stop : {K E : Type 0} (number : Option ℕ) (k : Keeping K) (asks : Request) (at : LocalMinute) (taken : E → Given) (old new : Call K E) (r : Result Bool RunFault) (f : RunFault)
    → new.errors ≡ old.errors → IsErrAnd r (λ x. x ≡ f) → HasExplained number k asks at taken old new r
explained_stop number k asks at taken old new (Ok x) f silent same = absurd same
explained_stop number k asks at taken old new (Err x) f silent same =
    record { quiet = λ is. silent; unread = false; given = silent; read = λ is. refl; why = λ s kept works sound. tt }

-- what asks nothing of the station
pub explained_unasked : {K E : Type 0} (number : Option ℕ) (k : Keeping K) (asks : Request) (at : LocalMinute) (taken : E → Given) (old new : Call K E) (r : Result Bool RunFault) (unread : Bool)
    → HasGivenReason taken unread (reason_head number asks) old.errors new.errors r → is_command asks ≡ false
    → ((s : State) → unread ≡ asked_unread s asks at) → HasExplained number k asks at taken old new r
explained_unasked number k asks at taken old new r unread given other why =
    record { quiet = quiet_given taken unread (reason_head number asks) old.errors new.errors r given; unread = unread; given = given; read = λ is. cc; why = λ s kept works sound. always r (why s) }
