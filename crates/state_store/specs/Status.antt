-- What a message does to the sink that the status messages of a waybill are handed on to.
use Rattle.std.specs.Prelude.{◌≡◌, ℕ, Bool, true, false, nat_lt, Option, Some, None, List, All, ◌<◌}
use Rattle.std.specs.Bool.{MatchBool}
use Rattle.state_store.specs.Common.{Message, is_about, message, numbered}
use Rattle.state_store.specs.declared.status.StatusOf.{StatusOf}

-- whether a number is greater than the last one, if that is known
abbrev pub is_beyond : Option ℕ → ℕ → Bool
is_beyond None n = false
is_beyond (Some last) n = nat_lt last n

-- Beyond the last one nothing more is handed on. Before it the sink takes a status message of the
-- waybill, and no other message.
abbrev pub Passes : {K : Type 0} → (K → Message → Bool → K → Type 0) → StatusOf K → Message → Bool → StatusOf K → Type 0
Passes takes old m go new =
    (new.sink.ghost_name ≡ old.sink.ghost_name) × (new.awb ≡ old.awb) × (new.last ≡ old.last)
    × MatchBool (is_beyond old.last m.number) ((go ≡ false) × (new.sink.now ≡ old.sink.now))
    (MatchBool (is_about old.awb m) (takes old.sink.now m go new.sink.now) ((go ≡ true) × (new.sink.now ≡ old.sink.now)))

-- the status messages of a waybill lie behind a number, and not beyond the last one
abbrev pub IsWithin : ℕ → ℕ → Option ℕ → Message → Type 0
IsWithin w after last m = is_about w m ≡ true → (after < m.number) × (is_beyond last m.number ≡ false)

abbrev pub AreWithin : ℕ → ℕ → Option ℕ → List (List ℕ) → Type 0
AreWithin w after last outbox = All (IsWithin w after last) (numbered message 1 outbox)
