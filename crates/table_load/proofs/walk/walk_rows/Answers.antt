use Rattle.table_load.proofs.Common.{refl, state, ◌∙◌}
use Rattle.table_load.proofs.WalkLoops.{at_start, cut_off, ended, failed, one_on, untaken, walks_failed}
use Rattle.table_load.proofs.walk.walk_rows.Goals as goal

pub loop-init : goal.loop-init
loop-init g c = let t = g.T.KeyedRow in (refl, at_start g.S.Store (g.F.RowFold.has c.args.beside.now) t.meant t.to_row t.cmp t.IsLawful c.args.rows.now.conn.now c.args.walk.now)

pub returns-in_err-next_typed-clause-walks : goal.returns-in_err-next_typed-clause-walks
returns-in_err-next_typed-clause-walks g c = λ clean sql params keys begun is_open agrees start.
    let t = g.T.KeyedRow in
    walks_failed sql params (state g.S.Store c.args.rows.now.conn.now) (state g.S.Store c.next_typed.new.rows.conn.now) c.from_residual.result _ c.from_residual.ensures.0
    (failed g.S.Store (g.F.RowFold.has c.args.beside.now) t.meant t.to_row t.cmp t.IsLawful c.args.rows.now.conn.now c.args.walk.now c.loop.rows.conn.now c.next_typed.new.rows.conn.now c.loop.walk c.loop.invariant.1 c.next_typed.ensures.survives clean sql params keys begun is_open agrees start
    (λ given at. c.in_err-next_typed.ensures.moves clean sql params given at))

pub returns-in-None-clause-walks : goal.returns-in-None-clause-walks
returns-in-None-clause-walks g c = λ clean sql params keys begun is_open agrees start.
    let t = g.T.KeyedRow in
    ended g.S.Store (g.F.RowFold.has c.args.beside.now) t.meant t.to_row t.cmp t.IsLawful c.args.rows.now.conn.now c.args.walk.now c.loop.rows.conn.now c.next_typed.new.rows.conn.now c.loop.walk c.loop.invariant.1 c.next_typed.ensures.survives clean sql params keys begun is_open agrees start
    (λ given at. rw c.in-None.is at (c.in_ok-next_typed.ensures.moves clean sql params given at))

pub returns-in_err-step-in-Some-clause-walks : goal.returns-in_err-step-in-Some-clause-walks
returns-in_err-step-in-Some-clause-walks g c = λ clean sql params keys begun is_open agrees start.
    let t = g.T.KeyedRow in
    walks_failed sql params (state g.S.Store c.args.rows.now.conn.now) (state g.S.Store c.next_typed.new.rows.conn.now) c.from_residual-in_err-step-in-Some.result _ c.from_residual-in_err-step-in-Some.ensures.0
    (untaken g.S.Store (g.F.RowFold.has c.args.beside.now) t.meant t.to_row t.cmp t.IsLawful c.args.rows.now.conn.now c.args.walk.now c.loop.rows.conn.now c.next_typed.new.rows.conn.now c.loop.walk c.loop.invariant.1 c.next_typed.ensures.survives clean sql params keys begun is_open agrees start
    c.in-Some.next (λ given at. rw c.in-Some.is at (c.in_ok-next_typed.ensures.moves clean sql params given at)))

pub loop-preserved : goal.loop-preserved
loop-preserved g c =
    let t = g.T.KeyedRow in (
      c.next_typed.ensures.same_reference ∙ c.loop.invariant.0,
      one_on g.S.Store (g.F.RowFold.has c.args.beside.now) t.meant t.to_row t.cmp t.IsLawful c.args.rows.now.conn.now c.args.walk.now c.loop.rows.conn.now c.next_typed.new.rows.conn.now c.loop.walk c.loop.invariant.1 c.next_typed.ensures.survives c.in-Some.next c.step.new.walk
          (λ keys given raw agrees typed was. c.in_ok-step-in-Some.ensures keys given raw agrees typed was)
          (λ clean sql params given at. rw c.in-Some.is at (c.in_ok-next_typed.ensures.moves clean sql params given at)),
    )

pub returns-clause-walks : goal.returns-clause-walks
returns-clause-walks g c = λ clean sql params keys begun is_open agrees start.
    let t = g.T.KeyedRow in
    cut_off g.S.Store (g.F.RowFold.has c.args.beside.now) t.meant t.to_row t.cmp t.IsLawful c.args.rows.now.conn.now c.args.walk.now c.loop.rows.conn.now c.loop.walk c.loop.invariant.1 clean sql params keys begun is_open agrees start
