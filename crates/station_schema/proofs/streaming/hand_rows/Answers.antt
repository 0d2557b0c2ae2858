use Rattle.std.proofs.Common.{refl, ◌∙◌}
use Rattle.station_schema.proofs.Handing.{at_start, came_with, cut_off, ended, failed, one_on, stopped, stopped_took, took_these}
use Rattle.station_schema.proofs.streaming.hand_rows.Goals as goal

pub loop-init : goal.loop-init
loop-init g c = (refl, at_start _ _ _ _ _)

pub returns-in_err-next_value-clause-streams : goal.returns-in_err-next_value-clause-streams
returns-in_err-next_value-clause-streams g c = λ clean sql params begun is_open.
    failed _ _ _ _ _ c.loop.rows.conn.now c.next_value.new.rows.conn.now _ c.loop.invariant.1 c.next_value.ensures.survives clean sql params begun is_open _ c.from_residual.ensures.0 (λ given at. c.in_err-next_value.ensures.moves clean sql params given at)

pub returns-in_err-next_value-clause-took : goal.returns-in_err-next_value-clause-took
returns-in_err-next_value-clause-took g c = took_these _ _ _ _ _ c.loop.rows.conn.now c.next_value.new.rows.conn.now _ c.loop.invariant.1 c.next_value.ensures.survives

pub returns-in-None-clause-streams : goal.returns-in-None-clause-streams
returns-in-None-clause-streams g c = λ clean sql params begun is_open.
    ended _ _ _ _ _ c.loop.rows.conn.now c.next_value.new.rows.conn.now _ c.loop.invariant.1 c.next_value.ensures.survives clean sql params begun is_open (λ given at. rw c.in-None.is at (c.in_ok-next_value.ensures.moves clean sql params given at))

pub returns-in-None-clause-took : goal.returns-in-None-clause-took
returns-in-None-clause-took g c = took_these _ _ _ _ _ c.loop.rows.conn.now c.next_value.new.rows.conn.now _ c.loop.invariant.1 c.next_value.ensures.survives

pub returns-then-not-take-clause-streams : goal.returns-then-not-take-clause-streams
returns-then-not-take-clause-streams g c = λ clean sql params begun is_open.
    stopped _ _ _ _ _ c.loop.rows.conn.now c.next_value.new.rows.conn.now _ c.loop.invariant.1 c.next_value.ensures.survives clean sql params begun is_open c.in-Some.value _ c.if-not-take.ensures (λ given at. rw c.in-Some.is at (c.in_ok-next_value.ensures.moves clean sql params given at))

pub returns-then-not-take-clause-took : goal.returns-then-not-take-clause-took
returns-then-not-take-clause-took g c = stopped_took _ _ _ _ _ c.loop.rows.conn.now c.next_value.new.rows.conn.now _ c.loop.invariant.1 c.next_value.ensures.survives c.in-Some.value _ c.if-not-take.ensures

pub loop-preserved : goal.loop-preserved
loop-preserved g c = (c.next_value.ensures.same_reference ∙ c.loop.invariant.0, one_on _ _ _ _ _ c.loop.rows.conn.now c.next_value.new.rows.conn.now _ c.loop.invariant.1 c.next_value.ensures.survives c.in-Some.value _ c.if-not-take.ensures (λ clean sql params given at. rw c.in-Some.is at (c.in_ok-next_value.ensures.moves clean sql params given at)))

pub returns-clause-streams : goal.returns-clause-streams
returns-clause-streams g c = λ clean sql params begun is_open. cut_off _ _ _ _ _ c.loop.rows.conn.now _ c.loop.invariant.1 clean sql params begun is_open

pub returns-clause-took : goal.returns-clause-took
returns-clause-took g c = came_with _ _ _ _ _ c.loop.rows.conn.now _ c.loop.invariant.1
