use Rattle.state_store.proofs.Common.{None, btree_map_len, cond, get, nat_cmp, nat_lt, ℕ, ◌&&◌, ◌≡◌}
use Rattle.state_store.proofs.maps.stock.MapStock.join_between.Given as goal

-- what is gone lies between the two keys
abbrev pub invariant-loop-key : goal.invariant-loop-key
invariant-loop-key l = (q : ℕ) → cond (nat_lt l.first q && nat_lt q l.end) None (get nat_cmp l.self.begins q) ≡ cond (nat_lt l.first q && nat_lt q l.end) None (get nat_cmp l.fn.self.begins q)

abbrev pub decreases-loop-key : goal.decreases-loop-key
decreases-loop-key l = btree_map_len l.self.begins
