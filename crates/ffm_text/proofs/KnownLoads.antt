-- Loads, each of which is as its types allow.
use Rattle.ffm_text.proofs.Common.{All, All-head, All-tail, AreLoads, IsLoad, List, Load, [], ◌∷◌}

pub are_loads : (loads : List Load) → All IsLoad loads → AreLoads loads
are_loads [] h = tt
are_loads (l ∷ loads) h = (All-head IsLoad l loads h, are_loads loads (All-tail IsLoad l loads h))
