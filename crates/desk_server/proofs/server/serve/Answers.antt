use Rattle.std.proofs.Common.{◌+◌, ◌-◌, arith}
use Rattle.std.specs.Prelude.{⊤}
use Rattle.desk_server.proofs.Serving.{then_more, wider, counted}
use Rattle.desk_server.proofs.server.serve.Goals as goal

pub returns-in-Err : goal.returns-in-Err
returns-in-Err g c =
    let k = g.K.Keeper.keeping in
    let most = c.most_of-most.result in
    counted k most c.args.count _ c.args.keeper.now c.serve_places.new.keeper
    (wider k ((most - c.loop.left) + c.loop.left) most _ _ c.args.keeper.now c.serve_places.new.keeper (omega (arith, c.loop.invariant.0)) (λ good. absurd (let no = good in cc))
    (then_more k (most - c.loop.left) c.loop.left _ c.args.keeper.now c.loop.keeper c.serve_places.new.keeper c.loop.invariant.1 c.in-Err.ensures.most))
    c.most_of-most.ensures

pub loop-preserved : goal.loop-preserved
loop-preserved g c =
    let k = g.K.Keeper.keeping in
    let most = c.most_of-most.result in
    let done = c.in-Ok.ensures.answered in (
      omega (arith, c.loop.invariant.0),
      wider k ((most - c.loop.left) + c.in-Ok.answered) (most - (c.loop.left - c.in-Ok.answered)) ⊤ ⊤ c.args.keeper.now c.serve_places.new.keeper
          (omega (arith, c.loop.invariant.0, done.0)) (λ good. good)
          (then_more k (most - c.loop.left) c.in-Ok.answered ⊤ c.args.keeper.now c.loop.keeper c.serve_places.new.keeper c.loop.invariant.1 done.1),
    )
