use Rattle.table_audits.proofs.Common.{flight_entry, is_lawful_build, list_all, map, ◌≡◌}
use Rattle.table_audits.proofs.balances.are_builds_lawful.Given as goal

-- the sums are lawful where those ahead are
abbrev pub invariant-loop-place : goal.invariant-loop-place
invariant-loop-place l = list_all (is_lawful_build (map flight_entry l.fn.flights)) l.fn.sums.builds.entries ≡ list_all (is_lawful_build (map flight_entry l.fn.flights)) l.place-iterator
