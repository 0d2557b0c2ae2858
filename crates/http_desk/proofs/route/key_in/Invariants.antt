use Rattle.http_desk.proofs.Common.{decoded, length, take, ◌≡◌, ◌≤◌}
use Rattle.http_desk.proofs.KeySegments.{after}
use Rattle.http_desk.proofs.route.key_in.Given as goal

abbrev pub invariant-loop-first : goal.invariant-loop-first
invariant-loop-first l = record {
  so_far : decoded l.segment ≡ after (take l.len l.bytes) (decoded l.rest);
  few : l.len ≤ 40;
  size : length l.bytes ≡ 40;
}

abbrev pub decreases-loop-first : goal.decreases-loop-first
decreases-loop-first l = length l.rest
