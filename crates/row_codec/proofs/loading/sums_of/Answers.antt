use Rattle.row_codec.proofs.Common.{Built, FlightDate, Load, ap, load_said, subst, sym, ◌∙◌, ◌≡◌}
use Rattle.row_codec.proofs.KnownLaws.{sum_more}
use Rattle.row_codec.proofs.loading.sums_of.Goals as goal

pub loop-load-preserved : goal.loop-load-preserved
loop-load-preserved c =
    let was = c.loop-load.invariant in
    let with = c.in_ok-kept.ensures in
    let load = c.load-item.result in (
      with.0 ∙ was.0,
      λ sums all. sum_more c.loop-load.kept c.in_ok-kept.kept _ _ with.0 with.1 sums (was.1 sums all)
          (c.sum_in.ensures
          ∙ subst (λ (l : Load). (load_said l).1 ≡ sums l.awb (Built c.args.flight.now)) (sym c.load-item.is) (all _ load c.loop-load-test.true)
          ∙ ap (λ (f : FlightDate). sums load.awb (Built f)) (sym was.0)),
    )
