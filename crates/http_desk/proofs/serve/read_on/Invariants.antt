use Rattle.http_desk.proofs.Common.{HasGrown, ◌+◌, ◌-◌, ◌≡◌}
use Rattle.http_desk.proofs.serve.read_on.Given as goal

abbrev pub invariant-loop-turn : goal.invariant-loop-turn
invariant-loop-turn g l =
    let before = g.I.ByteIn.given l.fn.reader in
    let now = g.I.ByteIn.given l.reader in
    record {
      grown : HasGrown before now l.fn.bytes.items l.bytes.items;
      calls : now.calls ≡ before.calls + (l._turn - l.fn.turns);
    }
