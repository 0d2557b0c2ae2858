-- The view of a store of tables, and the effect of calls on it.
use Rattle.std.specs.Prelude.{◌≡◌, ◌⊎◌, Bool, true, false}
use Rattle.station_schema.specs.Tables.{Tables}

pub record View : Type 1 where
  -- as the transaction sees them, and as the last commit left them; undefined once the store is
  -- shut
  pub now : Tables
  pub committed : Tables
  pub in_transaction : Bool
  pub is_open : Bool
  -- the disk is clean: it has returned what was written so far
  pub IsClean : Type 0
  -- the premise for values: it is clean, and its tables are declared as a new station declares them
  pub IsSound : Type 0
  -- the tables that an opening after a crash at this moment may find
  pub may_leave : Tables → Type 0

-- the tables in the transaction, those of the last commit, and whether a transaction is open
pub record Seen : Type 0 where
  pub now : Tables
  pub committed : Tables
  pub in_transaction : Bool

-- between two transactions
abbrev pub at_rest : Tables → Seen
at_rest t = record { now = t; committed = t; in_transaction = false }

abbrev pub inside : Tables → Tables → Seen
inside before t = record { now = t; committed = before; in_transaction = true }

pub record Displays (v : View) (seen : Seen) : Type 0 where
  pub is_open : v.is_open ≡ true
  pub now_is : v.now ≡ seen.now
  pub committed_is : v.committed ≡ seen.committed
  pub mode : v.in_transaction ≡ seen.in_transaction

-- it displays this as long as the disk is clean
abbrev pub IsShowing : View → Seen → Type 0
IsShowing v seen = v.IsSound → Displays v seen

-- before a transaction, or after it
pub record IsAtRest (v : View) : Type 0 where
  pub mode : v.in_transaction ≡ false
  pub same : v.now ≡ v.committed

module _ (old new : View) where
  -- whatever a call returns: faults stay recorded, what was sound and is clean is sound, and the
  -- crash states are those from before
  pub record Survives : Type 0 where
    pub clean : new.IsClean → old.IsClean
    pub still : old.IsSound → new.IsClean → new.IsSound
    pub sound : new.IsSound → old.IsSound
    pub crash : new.IsSound → (t : Tables) → new.may_leave t → old.may_leave t

  -- a commit may leave the tables of the transaction
  pub record MayCommit : Type 0 where
    pub clean : new.IsClean → old.IsClean
    pub still : old.IsSound → new.IsClean → new.IsSound
    pub sound : new.IsSound → old.IsSound
    pub crash : new.IsSound → (t : Tables) → new.may_leave t → old.may_leave t ⊎ (t ≡ old.now)

  -- the store was open and still is, with these tables
  pub record Shows (now committed : Tables) (in_transaction : Bool) : Type 0 where
    pub was_open : old.is_open ≡ true
    pub is_open : new.is_open ≡ true
    pub now_is : new.now ≡ now
    pub committed_is : new.committed ≡ committed
    pub mode : new.in_transaction ≡ in_transaction

  -- a call that reads
  abbrev pub IsUnchanged : Type 0
  IsUnchanged = Shows old.now old.committed old.in_transaction

  -- a read outside a transaction, whatever it returns, unless it shut the store
  pub record Rests : Type 0 where
    pub was_open : new.is_open ≡ true → old.is_open ≡ true
    pub same : IsAtRest old → new.is_open ≡ true → IsUnchanged

  -- a write inside a transaction
  abbrev pub Writes : Tables → Type 0
  Writes after = Shows after old.committed true
