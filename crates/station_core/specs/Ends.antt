-- Reads and writes, and what is counted of them.
use Rattle.std.specs.Prelude.{◌≡◌, ◌⊎◌, ℕ, ◌+◌, ◌<◌, ◌≤◌, ◌==◌, ◌&&◌, List, ◌++◌, length, take, nat_lt, if◌then◌else◌, Result, Ok, Err, Bool, true, false, [], drop}
use Rattle.station_core.specs.Given.{Given}
use Rattle.station_core.specs.declared.ends.Counted.{Counted}
use Rattle.station_core.specs.declared.ends.ReadFault.{ReadFault}
use Rattle.station_core.specs.declared.ends.ReadFault.TheVariants as fault
use Rattle.station_core.specs.declared.ends.WriteFault.{WriteFault}
use Rattle.station_core.specs.declared.gathered.Gathered.{Gathered}
use Rattle.station_core.specs.declared.tally.Call.{Call}
use Rattle.station_core.specs.declared.tally.Call.TheVariants as call

-- Readers and writers of std that are counted.

abbrev pub inner_of : {T : Type 0} → Counted T → T
inner_of counted = counted.inner

-- its history so far
abbrev pub given_of : {T : Type 0} → Counted T → Given
given_of counted = counted.tally.given

-- The effect of one read and one write on the history.

-- 1 if a call moved 0 bytes of a buffer that wasn't empty, otherwise 0
abbrev pub idle_count : ℕ → ℕ → ℕ
idle_count moved room = if (moved == 0) && nat_lt 0 room then 1 else 0

-- one call moved these bytes, with room for `room`
pub record Moves (old new : Given) (moved : List ℕ) (room : ℕ) : Type 0 where
  pub bytes : new.bytes ≡ old.bytes ++ moved
  pub calls : new.calls ≡ old.calls + 1
  pub failures : new.failures ≡ old.failures
  pub idle : new.idle ≡ old.idle + idle_count (length moved) room

-- one call moved nothing
pub record MovesNone (old new : Given) (failed : ℕ) : Type 0 where
  pub bytes : new.bytes ≡ old.bytes
  pub calls : new.calls ≡ old.calls + 1
  pub failures : new.failures ≡ old.failures + failed
  pub idle : new.idle ≡ old.idle

abbrev pub WriteStep : Given → Given → Result ℕ WriteFault → List ℕ → Type 0
WriteStep old new (Ok n) buf = (n ≤ length buf) × Moves old new (take n buf) (length buf)
WriteStep old new (Err e) buf = MovesNone old new 1

abbrev pub ReadStep : Given → Given → Result ℕ ReadFault → List ℕ → Type 0
ReadStep old new (Ok n) buf = (n ≤ length buf) × Moves old new (take n buf) (length buf)
ReadStep old new (Err fault.Interrupted) buf = MovesNone old new 0
ReadStep old new (Err fault.Failed) buf = MovesNone old new 1

-- the first `n` of the bytes were written
abbrev pub Sent : Given → Given → List ℕ → ℕ → Type 0
Sent old new bytes n = (n ≤ length bytes) × (new.bytes ≡ old.bytes ++ take n bytes)

-- the writer failed, or wrote 0 bytes
abbrev pub HasCause : Given → Given → Type 0
HasCause old new = (old.failures < new.failures) ⊎ (old.idle < new.idle)

-- no call failed or wrote 0 bytes
abbrev pub NoneFailed : Given → Given → Type 0
NoneFailed old new = (new.failures ≡ old.failures) × (new.idle ≡ old.idle)

-- exactly one call failed or wrote 0 bytes
abbrev pub OneFailed : Given → Given → Type 0
OneFailed old new = ((new.failures ≡ old.failures + 1) × (new.idle ≡ old.idle))
    ⊎ ((new.failures ≡ old.failures) × (new.idle ≡ old.idle + 1))

-- a prefix of a line was written, perhaps all of it
abbrev pub HasSent : List ℕ → Given → Given → Type 0
HasSent line old new = (n : ℕ) × Sent old new line n

-- a whole line was written; or a prefix, and the writer failed or wrote 0 bytes
abbrev pub SendsLine : List ℕ → Given → Given → Type 0
SendsLine line old new =
    (new.bytes ≡ old.bytes ++ line) ⊎ (HasSent line old new × HasCause old new)

-- A writer that buffers while more input is at hand.

-- the buffered bytes
abbrev pub waiting : {W : Type 0} → Gathered W → List ℕ
waiting g = drop g.gone g.pending.items

-- The history of a buffered writer: its writer's, with the buffered bytes appended. Its failures
-- and 0-byte writes are those of its writer.
abbrev pub taken_of : {W : Type 0} → (W → Given) → Gathered W → Given
taken_of taken g = record {
  bytes = (taken g.inner).bytes ++ waiting g;
  calls = g.tally.given.calls;
  failures = (taken g.inner).failures;
  idle = (taken g.inner).idle;
}

-- the history before its first call: that of its writer
abbrev pub begun : Given → Given
begun taken = record taken { calls = 0 }

abbrev pub BeginsWith : List ℕ → List ℕ → Type 0
BeginsWith whole first = (rest : List ℕ) × (whole ≡ first ++ rest)

-- a prefix of the taken bytes was written, and no call failed
abbrev pub IsCutShort : Given → Given → Type 0
IsCutShort taken out = BeginsWith taken.bytes out.bytes × NoneFailed taken out

-- All taken bytes were written; or a prefix, since one call failed or wrote 0 bytes.
abbrev pub GoesOut : Given → Given → Result (Unit {0}) WriteFault → Type 0
GoesOut taken out (Ok _) = (out.bytes ≡ taken.bytes) × NoneFailed taken out
GoesOut taken out (Err e) = BeginsWith taken.bytes out.bytes × OneFailed taken out

-- The buffer was flushed: completely at `Ok true`. At `Ok false` one call wrote 0 bytes, at Err one
-- failed, and the rest stays in the buffer.
abbrev pub HasGone : {W : Type 0} → (W → Given) → Gathered W → Gathered W → Result Bool WriteFault → Type 0
HasGone taken old new (Ok true) =
    (waiting new ≡ []) × ((taken new.inner).bytes ≡ (taken old.inner).bytes ++ waiting old)
    × ((taken new.inner).failures ≡ (taken old.inner).failures) × ((taken new.inner).idle ≡ (taken old.inner).idle)
HasGone taken old new (Ok false) =
    ((taken new.inner).bytes ++ waiting new ≡ (taken old.inner).bytes ++ waiting old)
    × ((taken new.inner).failures ≡ (taken old.inner).failures) × ((taken new.inner).idle ≡ (taken old.inner).idle + 1)
HasGone taken old new (Err e) =
    ((taken new.inner).bytes ++ waiting new ≡ (taken old.inner).bytes ++ waiting old)
    × ((taken new.inner).failures ≡ (taken old.inner).failures + 1) × ((taken new.inner).idle ≡ (taken old.inner).idle)

-- The effect of one call on the history.

abbrev pub noted : Given → Call → Given
noted g (call.Moved bytes room) = record { bytes = g.bytes ++ bytes.now; calls = g.calls + 1; failures = g.failures; idle = g.idle + idle_count (length bytes.now) room }
noted g call.Again = record g { calls = g.calls + 1 }
noted g call.Failed = record g { calls = g.calls + 1; failures = g.failures + 1 }
