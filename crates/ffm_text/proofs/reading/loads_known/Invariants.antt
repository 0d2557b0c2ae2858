use Rattle.ffm_text.proofs.Common.{IsLoad, Load, slice_index_or, ℕ, ◌<◌}
use Rattle.ffm_text.proofs.reading.loads_known.Given as goal

-- each load so far is one
abbrev pub invariant-loop-load : goal.invariant-loop-load
invariant-loop-load l = (k : ℕ) (d : Load) → k < l.load-index → IsLoad (slice_index_or l.loads k d)
