use Rattle.std.proofs.Common.{◌∙◌, ◌≡◌, ap, inl, inr, sym}
use Rattle.sqlite.specs.State.{store_error}
use Rattle.sqlite.specs.declared.error.Error.TheVariants.{SqliteFailure}
use Rattle.sqlite.specs.declared.error.ErrorCode.TheVariants.{NotADatabase}
use Rattle.sqlite_trees.specs.declared.error.StoreError.{StoreError}
use Rattle.sqlite_trees.specs.declared.error.StoreError.TheVariants as kind
use Rattle.station_files.proofs.opening.connect.Goals as goal

pub returns-in-Ok-clause-over : goal.returns-in-Ok-clause-over
returns-in-Ok-clause-over g c =
    let e = c.in-Ok.ensures in
    record {
      opens = e.opens;
      clean = e.clean;
      shield = e.shield;
      trees = λ now. let opens = e.opens now in sym (ap (λ d. d.trees) opens.0.clean) ∙ e.trees now;
      sums = e.sums;
      fresh = e.fresh;
    }

no_store_error : (cause : StoreError) → SqliteFailure NotADatabase ≡ store_error cause → ⊥
no_store_error kind.OutOfMemory is = cc
no_store_error kind.Io is = cc
no_store_error kind.Corrupt is = cc
no_store_error kind.Full is = cc
no_store_error kind.Broken is = cc
no_store_error kind.Unstorable is = cc

pub returns-in-Err-clause-refused : goal.returns-in-Err-clause-refused
returns-in-Err-clause-refused g c clean is schema sound = elim (c.in-Err.ensures.err clean) [
  | inl a ↦ a.1 schema sound
  | inr b ↦ absurd (no_store_error b.0 (sym is ∙ b.1))
]
