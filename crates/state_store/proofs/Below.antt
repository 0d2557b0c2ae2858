-- The stock below a number.
use Rattle.std.specs.Prelude.{ℕ, nat_lt, if◌then◌else◌, None}
use Rattle.state_store.specs.Common.{Holders}

abbrev pub below : ℕ → Holders → Holders
below end held q = if nat_lt q end then held q else None
