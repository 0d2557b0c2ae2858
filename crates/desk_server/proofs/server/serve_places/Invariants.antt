use Rattle.std.proofs.Common.{◌≤◌}
use Rattle.std.specs.Prelude.{⊤}
use Rattle.desk_server.specs.Served.{AtMost}
use Rattle.desk_server.proofs.server.serve_places.Given as goal

abbrev pub invariant-loop-place : goal.invariant-loop-place
invariant-loop-place g l =
    (l.answered ≤ l.most)
    × AtMost g.K.Keeper.keeping l.answered ⊤ l.fn.keeper l.keeper
