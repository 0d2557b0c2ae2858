use Rattle.std.proofs.Common.{◌≤◌, ◌-◌}
use Rattle.std.specs.Prelude.{⊤}
use Rattle.desk_server.specs.Served.{AtMost}
use Rattle.desk_server.proofs.server.serve.Given as goal

abbrev pub invariant-loop : goal.invariant-loop
invariant-loop g l =
    (l.left ≤ l.most)
    × AtMost g.K.Keeper.keeping (l.most - l.left) ⊤ l.fn.keeper l.keeper
