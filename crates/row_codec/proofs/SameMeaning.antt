-- Tables mean one state at most.
use Rattle.std.specs.Prelude.{◌≡◌, Option, Some, None}
use Rattle.std.proofs.Common.{sym, ap, ◌∙◌}
use Rattle.row_codec.specs.Common.{Tables, State}
use Rattle.row_codec.specs.Stored.{Means}

-- two meanings of the same tables
pub same_meaning : (t : Tables) (s : State) (found : Option State) → Means t (Some s)
    → Means t found → found ≡ Some s
same_meaning t s None is other = absurd (other is.0)
same_meaning t s (Some r) is other = ap Some (sym other.1 ∙ is.1)
