use Rattle.http_desk.proofs.Common.{HasHead, RequestHead, length, ◌++◌, ◌+◌, ◌<◌, ◌≡◌}
use Rattle.http_desk.proofs.serve.read_head.Given as goal

abbrev pub invariant-loop-turn : goal.invariant-loop-turn
invariant-loop-turn g l =
    let before = g.I.ByteIn.given l.fn.reader in
    let now = g.I.ByteIn.given l.reader in
    record {
      come : now.bytes ≡ before.bytes ++ l.bytes.items;
      room : length l.bytes.items < 16_384;
      calls : now.calls ≡ before.calls + l.turn;
      failures : now.failures ≡ before.failures;
      idle : now.idle ≡ before.idle;
      headers : length l.headers ≡ 64;
      none : (h : RequestHead) → ¬ (HasHead l.bytes.items h);
    }
