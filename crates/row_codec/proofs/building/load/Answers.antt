use Rattle.row_codec.proofs.Common.{Built, FlightDate, IfSome_then, ap, running, sym, ◌∙◌}
use Rattle.row_codec.proofs.Amounts.{held_is}
use Rattle.row_codec.proofs.KnownLaws.{sum_more}
use Rattle.row_codec.proofs.Stores.{made_of}
use Rattle.row_codec.proofs.building.load.Goals as goal

pub returns-clause-reads : goal.returns-clause-reads
returns-clause-reads g c = made_of (g.S.TableStore.view c.args.store.now) _ _ _ c.in_ok-sum.ensures (λ x shows sound book are.
    let is = c.in_ok-sum.ensures.read x shows sound book are in (
      held_is book c.args.awb.now (Built c.args.flight.now) c.in_ok-sum.sum c.in_ok-load.load is c.in_ok-load.ensures.pieces c.in_ok-load.ensures.tenths,
      λ was. record {
        counts = was.counts;
        builds = IfSome_then c.with.result c.with.ensures (λ more with. sum_more c.new.result more c.args.awb.now c.in_ok-sum.sum with.0 with.1 (running book) (c.new.ensures.known (running book))
            (is ∙ ap (λ (f : FlightDate). running book c.args.awb.now (Built f)) (sym c.new.ensures.flight)));
      },
    ))
