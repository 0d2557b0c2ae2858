use Rattle.station_rows.proofs.Common.{IsOwn, IsSettled, ap, rules, state, subst, sym, tables_of, ◌∙◌}
use Rattle.station_schema.specs.Connection.{IsVacant}
use Rattle.station_rows.proofs.Views.{not_so, survives_alone}
use Rattle.station_rows.proofs.rows.Rows.create.Goals as goal

pub invariant_of-result-clause-leaves : goal.invariant_of-result-clause-leaves
invariant_of-result-clause-leaves g c = λ clean declared lies db left.
    let founded = c.in-Ok.ensures.made clean declared (c.is_vacant-declared.ensures.0 declared) in
    subst IsOwn (sym (g.met.S.Store.settled c.make_tables.new.conn.store db founded.is_open left ∙ ap (λ d. d.trees) founded.settled)) (c.shows_own.ensures founded.is_open founded.station.schema)

pub returns-in-Ok-clause-step_at_ok : goal.returns-in-Ok-clause-step_at_ok
returns-in-Ok-clause-step_at_ok g c = λ others.
    c.in-Ok.ensures.step (not_so c.is_vacant-declared.result (IsVacant g.S.Store c.args.conn) c.is_vacant-declared.ensures.0 others)

pub returns-in-Err-clause-step : goal.returns-in-Err-clause-step
returns-in-Err-clause-step g c = λ others.
    c.in-Err.ensures.step (not_so c.is_vacant-declared.result (IsVacant g.S.Store c.args.conn) c.is_vacant-declared.ensures.0 others)

pub returns-in-Err-clause-undone : goal.returns-in-Err-clause-undone
returns-in-Err-clause-undone g c = λ outside clean shown.
    let settled : IsSettled (state g.S.Store c.args.conn) = search rules in
    let undone = c.in-Err.ensures.undone clean c.is_vacant-declared.ensures.0 settled in
    record {
      was_open = undone.was_open shown;
      is_open = shown;
      now_is = ap (λ d. tables_of d.trees) (undone.now shown ∙ sym (settled.settled (undone.was_open shown)));
      committed_is = ap (λ d. tables_of d.trees) (undone.committed shown);
      mode = undone.outside ∙ sym outside;
    }

pub returns-then-not-is_autocommit-clause-step : goal.returns-then-not-is_autocommit-clause-step
returns-then-not-is_autocommit-clause-step g c = λ others. ((state g.S.Store c.args.conn).now.trees, survives_alone (state g.S.Store c.args.conn) _)

pub returns-then-takes_name-clause-step : goal.returns-then-takes_name-clause-step
returns-then-takes_name-clause-step g c = λ others. ((state g.S.Store c.args.conn).now.trees, survives_alone (state g.S.Store c.args.conn) _)

pub invariant_of-result-clause-works : goal.invariant_of-result-clause-works
invariant_of-result-clause-works g c = λ fine clean declared lies.
    let founded = c.in-Ok.ensures.made clean declared (c.is_vacant-declared.ensures.0 declared) in
    record { is_open = founded.is_open; station = founded.station }
