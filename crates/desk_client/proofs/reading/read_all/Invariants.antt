use Rattle.desk_client.proofs.Common.{HasGrown, [], ◌+◌, ◌≡◌}
use Rattle.desk_client.proofs.reading.read_all.Given as goal

abbrev pub invariant-loop-turn : goal.invariant-loop-turn
invariant-loop-turn g l =
    let before = g.I.ByteIn.given l.fn.reader in
    let now = g.I.ByteIn.given l.reader in
    record {
      grown : HasGrown before now [] l.bytes.items;
      calls : now.calls ≡ before.calls + l._turn;
    }
