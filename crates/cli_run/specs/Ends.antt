-- The parts of a call that contracts see.
use Rattle.std.specs.Prelude.{Option, List, ℕ, Bool, true, false, Some, None, codes, ◌≡◌, ◌⊎◌, ◌+◌, ◌<◌, ◌≤◌, ◌++◌, length}
use Rattle.cli_run.specs.Common.{Given, LineCommand, most_bytes}
use Rattle.cli_words.specs.declared.line.LineCommand.TheVariants as command

-- The parts of a call that contracts see: its keeper's state, and what it reads and writes.

-- the state of a call: its station, its output, and its errors
pub record Call (K E : Type 0) : Type 0 where
  pub keeper : K
  pub sent : Given
  pub errors : E

abbrev pub call : {K E : Type 0} → K → Given → E → Call K E
call keeper sent errors = record { keeper = keeper; sent = sent; errors = errors }

-- a keeper, and what was written
abbrev pub Printed : Type 0 → Type 0
Printed K = K × Given

-- The ghost members of the reader and the writers: the rest of the input if known, the bytes it
-- gave, its relation to the next input, and the bytes that the output and the errors took.
pub record Ends (I W E : Type 0) : Type 1 where
  pub remaining : I → Option (List ℕ)
  pub given : I → Given
  pub turned : I → I → Type 0
  pub printed : W → Given
  pub told : E → Given

abbrev pub ends : {I W E : Type 0} → (I → Option (List ℕ)) → (I → Given) → (I → I → Type 0) → (W → Given)
    → (E → Given) → Ends I W E
ends remaining given turned printed told =
    record { remaining = remaining; given = given; turned = turned; printed = printed; told = told }

-- the reader and the writers at some moment
pub record Reached (I W E : Type 0) : Type 0 where
  pub reader : I
  pub output : W
  pub errors : E

abbrev pub reached : {I W E : Type 0} → I → W → E → Reached I W E
reached reader output errors = record { reader = reader; output = output; errors = errors }

-- the state of a call, from its keeper, its reader and its writers
abbrev pub call_to : {K I W E : Type 0} → Ends I W E → K × Reached I W E → Call K E
call_to e at = call at.0 (e.printed at.1.output) at.1.errors

-- the same for a command that reads nothing, and gives no reasons
abbrev pub printed_to : {K I W E : Type 0} → Ends I W E → K × Reached I W E → Printed K
printed_to e at = (at.0, e.printed at.1.output)

-- The station of a command line.

-- its airport: XXX if the line names none
abbrev pub here_of : Option (List ℕ) → List ℕ
here_of None = codes "XXX"
here_of (Some here) = here

-- true if it is new: `init` creates one, and so does each line without a file
abbrev pub is_new : {A : Type 0} → Option A → LineCommand → Bool
is_new None c = true
is_new (Some path) command.Init = true
is_new (Some path) _ = false

-- true if its file is upgraded from version 1 to version 2
abbrev pub is_migration : LineCommand → Bool
is_migration command.Migrate = true
is_migration _ = false

-- The bytes received of a command's input.

abbrev pub most_read : ℕ
most_read = 4_096

-- the largest size of an input: one read more than a telegram or a body
abbrev pub most_come : ℕ
most_come = most_bytes + most_read

-- at most `most` more bytes were received
abbrev pub IsWithin : ℕ → Given → Given → Type 0
IsWithin most old new = length new.bytes ≤ length old.bytes + most

-- further reads appended their bytes, and no read failed
pub record HasGrown (old new : Given) (before after : List ℕ) : Type 0 where
  pub part : List ℕ
  pub bytes : after ≡ before ++ part
  pub given : new.bytes ≡ old.bytes ++ part
  pub failures : new.failures ≡ old.failures
  pub idle : old.idle ≤ new.idle

-- These bytes were received, and no read failed. The input ended, as a read with room returned
-- nothing; or it has more than `most` bytes.
pub record HasCome (most : ℕ) (old new : Given) (bytes : List ℕ) : Type 0 where
  pub given : new.bytes ≡ old.bytes ++ bytes
  pub failures : new.failures ≡ old.failures
  pub ended : (old.idle < new.idle) ⊎ (most < length bytes)

abbrev pub most_reads : ℕ
most_reads = 18_446_744_073_709_551_615

-- a read failed, or the limit of reads was reached before the end
abbrev pub HasFailed : Given → Given → Type 0
HasFailed old new = (old.failures < new.failures) ⊎ (old.calls + most_reads ≤ new.calls)
