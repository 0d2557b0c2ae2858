use Rattle.state_store.proofs.Common.{IfSome, arith, false, is_gt, nat_cmp, rules, slice_get, subst, ◌+◌, ◌<◌, ◌≡◌, ◌≤◌}
use Rattle.state_store.proofs.Named.{Entries, begins, le_by, le_is, less_by, none_unless}
use Rattle.state_store.proofs.maps.stock.MapStock.next_from.Goals as goal

pub returns-in-Some-clause-none : goal.returns-in-Some-clause-none
returns-in-Some-clause-none c = λ q after below.
    let es = c.args.self.now.begins.entries in
    let part = c.range.ensures.in_range tt in
    let next = c.in-Some.next.now in
    let before : next < c.args.end = search rules in
    none_unless (begins es q) (λ there.
    let least = part.2 q (le_by (c.args.key + 1) q (omega (arith, after)), less_by q c.args.end (omega (arith, below, before))) there in
    let first = subst (λ (r : Entries). IfSome (slice_get r 0) (λ e. is_gt (nat_cmp e.0 q) ≡ false)) c.in-Some.ensures.steps least in
    let le : next ≤ q = le_is next q first in
    omega (arith, le, below))
