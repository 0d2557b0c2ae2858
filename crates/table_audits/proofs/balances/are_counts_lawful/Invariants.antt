use Rattle.table_audits.proofs.Common.{is_lawful_count, list_all, ◌≡◌}
use Rattle.table_audits.proofs.balances.are_counts_lawful.Given as goal

-- the sums are lawful where those ahead are
abbrev pub invariant-loop-place : goal.invariant-loop-place
invariant-loop-place l = list_all (is_lawful_count l.fn.sums) l.fn.sums.counts.entries ≡ list_all (is_lawful_count l.fn.sums) l.place-iterator
