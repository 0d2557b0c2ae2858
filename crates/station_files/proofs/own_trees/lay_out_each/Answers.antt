use Rattle.std.proofs.Common.{arith}
use Rattle.station_files.proofs.Owning.{laid_out}
use Rattle.station_files.proofs.own_trees.lay_out_each.Goals as goal

pub returns-clause-shown : goal.returns-clause-shown
returns-clause-shown g c =
    let v = g.S.Store.view c.args.store.now in
    laid_out c.args.numbers.now c.requires.few c.loop-at.layouts c.loop-at.invariant.all v.shape v.reals
    (λ t d low. c.loop-at.invariant.each t d (omega (arith, low, c.loop-at-test.false)))
