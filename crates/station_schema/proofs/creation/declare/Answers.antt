use Rattle.station_schema.proofs.Common.{CommitsBy, Err, Executes, IsMade, KeepsCommit, Ok, Survives, [], arith, get_or, no_schema, rules, state, subst, ◌<◌, ◌≡◌}
use Rattle.station_schema.proofs.Inside.{survives_inside}
use Rattle.station_schema.proofs.Creating.{HasComeTo, come_all, come_next, come_short, fifteen, item, stages, step_at}
use Rattle.station_schema.proofs.creation.declare.Goals as goal

pub returns-in_err-execute-clause-made : goal.returns-in_err-execute-clause-made
returns-in_err-execute-clause-made g c = λ clean was.
    let old = state g.S.Store c.args.conn.now in
    let now = state g.S.Store c.loop-text.conn in
    let new = state g.S.Store c.execute.new.self in
    let i = c.loop-text.text-index in
    let low : i < 15 = omega (arith, c.loop-text-test.true, fifteen c.args.texts.now c.requires) in
    let come = c.loop-text.invariant.made (omega (arith, c.execute.ensures.survives.clean)) was in
    let ran = subst (λ sql. Executes sql [] now new (Err c.in_err-execute.field-0.0)) (item c.args.texts.now c.requires i) (c.in_err-execute.ensures.runs clean) in
    let kept : KeepsCommit old new = come_short old now new i low come c.in_err-execute.field-0.0 ran in
    search rules

pub returns-in_err-execute-clause-survives : goal.returns-in_err-execute-clause-survives
returns-in_err-execute-clause-survives g c =
    let old = state g.S.Store c.args.conn.now in
    let now = state g.S.Store c.loop-text.conn in
    let new = state g.S.Store c.execute.new.self in
    let i = c.loop-text.text-index in
    let low : i < 15 = omega (arith, c.loop-text-test.true, fifteen c.args.texts.now c.requires) in
    survives_inside old now new (IsMade no_schema old) (IsMade (get_or stages i no_schema) now) c.loop-text.invariant.survives (λ clean was. (c.loop-text.invariant.made clean was).made)
    ((step_at i low).survives now new (subst (λ sql. Survives now new (CommitsBy sql [] now)) (item c.args.texts.now c.requires i) c.execute.ensures.survives))

pub loop-text-preserved : goal.loop-text-preserved
loop-text-preserved g c =
    let old = state g.S.Store c.args.conn.now in
    let now = state g.S.Store c.loop-text.conn in
    let new = state g.S.Store c.execute.new.self in
    let i = c.loop-text.text-index in
    let low : i < 15 = omega (arith, c.loop-text-test.true, fifteen c.args.texts.now c.requires) in
    record {
      made = λ clean was.
          let come = c.loop-text.invariant.made (omega (arith, c.execute.ensures.survives.clean)) was in
          let ran = subst (λ sql. Executes sql [] now new (Ok c.in_ok-execute.field-0)) (item c.args.texts.now c.requires i) (c.in_ok-execute.ensures.runs clean) in
          come_next old now new i low come c.in_ok-execute.field-0 ran;
      survives =
          survives_inside old now new (IsMade no_schema old) (IsMade (get_or stages i no_schema) now) c.loop-text.invariant.survives (λ clean was. (c.loop-text.invariant.made clean was).made)
          ((step_at i low).survives now new (subst (λ sql. Survives now new (CommitsBy sql [] now)) (item c.args.texts.now c.requires i) c.execute.ensures.survives));
    }

pub returns-clause-made : goal.returns-clause-made
returns-clause-made g c = λ clean was.
    let old = state g.S.Store c.args.conn.now in
    let now = state g.S.Store c.loop-text.conn in
    let count : c.loop-text.text-index ≡ 15 = omega (arith, c.loop-text-test.false, c.loop-text.auto.text-index-end, fifteen c.args.texts.now c.requires) in
    come_all old now (subst (λ n. HasComeTo old now n) count (c.loop-text.invariant.made clean was))
