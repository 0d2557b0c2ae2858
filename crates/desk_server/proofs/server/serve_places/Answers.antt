use Rattle.std.proofs.Common.{◌+◌, ◌≤◌, sym, subst, arith, rules}
use Rattle.std.specs.Prelude.{⊤}
use Rattle.desk_server.specs.Served.{AtMost}
use Rattle.desk_server.proofs.Serving.{then_more, wider}
use Rattle.desk_server.proofs.server.serve_places.Goals as goal
use Rattle.desk_server.proofs.server.serve_places.Goals.{then-branch, else-branch}

pub returns-in_err-serve_place-clause-most : goal.returns-in_err-serve_place-clause-most
returns-in_err-serve_place-clause-most g c =
    let k = g.K.Keeper.keeping in
    wider k (c.loop-place.answered + 1) c.args.most _ _ c.args.keeper.now c.serve_place.new.keeper
    (omega (arith, c.if-answered-most.false)) (λ good. search rules)
    (then_more k c.loop-place.answered 1 _ c.args.keeper.now c.loop-place.keeper c.serve_place.new.keeper c.loop-place.invariant.1 c.in_err-serve_place.ensures.most)

pub loop-place-preserved : goal.loop-place-preserved
loop-place-preserved g c =
    let k = g.K.Keeper.keeping in
    let all = then_more k c.loop-place.answered 1 _ c.args.keeper.now c.loop-place.keeper c.serve_place.new.keeper c.loop-place.invariant.1 c.in_ok-serve_place.ensures.most in
    elim c.if-branch.branch [
      | then-branch w ↦ subst (λ n. (n ≤ c.args.most) × AtMost k n ⊤ c.args.keeper.now c.serve_place.new.keeper) (sym w.answered-is)
          (omega (arith, c.if-answered-most.false), wider k (c.loop-place.answered + 1) (c.loop-place.answered + 1) _ ⊤ c.args.keeper.now c.serve_place.new.keeper (omega arith) (λ good. search rules) all)
      | else-branch w ↦ subst (λ n. (n ≤ c.args.most) × AtMost k n ⊤ c.args.keeper.now c.serve_place.new.keeper) (sym w.answered-is)
          (c.loop-place.invariant.0, subst (AtMost k c.loop-place.answered ⊤ c.args.keeper.now) (search rules) c.loop-place.invariant.1)
    ]
