use Rattle.http_desk.proofs.Common.{Some, and_then, arith, decoded, rules, sym, ◌≡◌}
use Rattle.http_desk.proofs.KeySegments.{one_more, too_long}
use Rattle.http_desk.proofs.route.key_in.Goals as goal

pub returns-then-len-eq40 : goal.returns-then-len-eq40
returns-then-len-eq40 c =
    let next : decoded c.loop-first.rest.now ≡ and_then (Some c.in_ok-byte.byte) (decoded c.in_ok-byte.later.now) = search rules in
    sym (too_long c.loop-first.bytes c.loop-first.rest.now c.in_ok-byte.later.now c.loop-first.len c.in_ok-byte.byte c.args.segment.now c.loop-first.invariant.size c.if-len-eq40.true c.loop-first.invariant.so_far next)

pub loop-first-preserved : goal.loop-first-preserved
loop-first-preserved c =
    let next : decoded c.loop-first.rest.now ≡ and_then (Some c.in_ok-byte.byte) (decoded c.in_ok-byte.later.now) = search rules in
    record {
      so_far = one_more c.loop-first.bytes c.loop-first.rest.now c.in_ok-byte.later.now c.loop-first.len c.in_ok-byte.byte (decoded c.args.segment.now) c.loop-first.invariant.so_far next (omega (arith, c.loop-first.invariant.few, c.loop-first.invariant.size, c.if-len-eq40.false));
      few = omega (arith, c.loop-first.invariant.few, c.if-len-eq40.false);
      size = search rules;
    }
