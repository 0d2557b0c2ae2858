use Rattle.cli_run.proofs.Common.{HasGrown, [], length, most_bytes, ◌+◌, ◌≡◌, ◌≤◌}
use Rattle.cli_run.proofs.answering.read_input.Given as goal

abbrev pub invariant-loop-turn : goal.invariant-loop-turn
invariant-loop-turn g l =
    let before = g.I.ByteIn.given l.fn.reader in
    let now = g.I.ByteIn.given l.reader in
    record {
      grown : HasGrown before now [] l.bytes.items;
      calls : now.calls ≡ before.calls + l._turn;
      few : length l.bytes.items ≤ most_bytes;
    }
