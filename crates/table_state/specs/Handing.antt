-- What a row of a table does to the sink that it is handed on to.
use Rattle.std.specs.Prelude.{◌≡◌, ◌⊎◌, Bool, true, false}
use Rattle.table_state.specs.declared.handing.Telling.{Telling}

-- the sink takes the row in its other form; or the row can't be told, and nothing more is handed on
abbrev pub Tells : {K V : Type 0} → (K → V → Bool → K → Type 0) → V → Telling K → Bool → Telling K
    → Type 0
Tells takes value old go new =
    (new.sink.ghost_name ≡ old.sink.ghost_name)
    × ((takes old.sink.now value go new.sink.now × (new.stuck ≡ old.stuck)) ⊎ ((go ≡ false) × (new.sink.now ≡ old.sink.now) × (new.stuck ≡ true)))
