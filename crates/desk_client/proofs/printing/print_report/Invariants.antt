use Rattle.desk_client.proofs.Common.{◌+◌, ◌≡◌}
use Rattle.desk_client.proofs.AsItComes.{HasPrintedSome}
use Rattle.desk_client.proofs.printing.print_report.Given as goal

abbrev pub invariant-loop-turn : goal.invariant-loop-turn
invariant-loop-turn g l =
    let before = g.I.ByteIn.given l.fn.reader in
    let now = g.I.ByteIn.given l.reader in
    record {
      printed : HasPrintedSome l.fn.form l.fn.body l.held.items before now (g.O.ByteOut.taken l.fn.output) (g.O.ByteOut.taken l.output);
      calls : now.calls ≡ before.calls + l._turn;
    }
