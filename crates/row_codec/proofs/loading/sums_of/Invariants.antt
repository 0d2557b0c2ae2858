use Rattle.row_codec.proofs.Common.{All, AreSumsOn, Built, Sums, load_said, ◌≡◌}
use Rattle.row_codec.proofs.loading.sums_of.Given as goal

-- the sums so far are right, if those of all loads are
abbrev pub invariant-loop-load : goal.invariant-loop-load
invariant-loop-load l = (l.kept.flight ≡ l.flight) × ((sums : Sums) → All (λ load. (load_said load).1 ≡ sums load.awb (Built l.flight)) l.loads → AreSumsOn l.kept sums)
