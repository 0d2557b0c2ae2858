use Rattle.reports.proofs.Common.{flat_map, listed, ◌++◌, ◌≡◌}
use Rattle.reports.proofs.tallies.Tallies.rows.Given as goal

-- the rows so far and those ahead are the rows of all
abbrev pub invariant-loop-tally : goal.invariant-loop-tally
invariant-loop-tally l = l.rows.items ++ flat_map (λ e. listed e.1) l.tally-iterator ≡ flat_map (λ e. listed e.1) l.self.by_number.entries
