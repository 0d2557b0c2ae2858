use Rattle.std.proofs.Common.{refl, rules}
use Rattle.station_files.proofs.Owning.{commit_kept, creates_inside, shown_laid}
use Rattle.station_files.proofs.Others.{creates, fails, spares}
use Rattle.station_files.proofs.own_trees.OwnTreesAlter.create.Goals as goal

pub returns-in-Ok-clause-ok : goal.returns-in-Ok-clause-ok
returns-in-Ok-clause-ok g c clean =
    let e = c.in-Ok.ensures in
    creates_inside c.args.self.now.inside c.in-Some.ensures.number (g.S.Store.view c.create.new.self) c.args.object.now e.quiet.clean c.lay_out.ensures.shown clean (e.ok clean)

pub invariant_of-self : goal.invariant_of-self
invariant_of-self g c =
    let e = c.in-Ok.ensures in
    record { inside = shown_laid c.args.self.now.inside (g.S.Store.view c.create.new.self) e.quiet.clean c.lay_out.ensures.all (λ _. c.lay_out.ensures.shown) (λ clean. commit_kept (e.ok clean).is) }

pub returns-in-Ok-clause-step : goal.returns-in-Ok-clause-step
returns-in-Ok-clause-step g c =
    let n = c.in-Some.ensures.number in
    (search rules, spares g.S.Store _ _ _ c.in-Ok.ensures.quiet (λ clean. creates _ _ _ c.args.self.now.inside.apart c.args.object.now n.low n.is (c.in-Ok.ensures.ok clean)), refl)

pub returns-in-Err-Unstorable-clause-step : goal.returns-in-Err-Unstorable-clause-step
returns-in-Err-Unstorable-clause-step g c = (search rules, spares g.S.Store _ _ _ c.in-Err-Unstorable.ensures.quiet (λ clean. fails _ _ _ c.in-Err-Unstorable.ensures.err), refl)
