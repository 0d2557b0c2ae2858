use Rattle.state_store.proofs.Common.{find, holders_of, lowest_failing, not, passes, range_with_len, ◌-◌, ◌≡◌}
use Rattle.state_store.proofs.maps.stock.MapStock.lowest_failing.Given as goal

-- what is looked for lies ahead
abbrev pub invariant-loop-key : goal.invariant-loop-key
invariant-loop-key l =
    lowest_failing (holders_of l.fn.self) l.run l.test ≡ find (λ q. not (passes l.test (holders_of l.fn.self q))) (range_with_len l.key (l.end - l.key))

abbrev pub decreases-loop-key : goal.decreases-loop-key
decreases-loop-key l = l.end - l.key
