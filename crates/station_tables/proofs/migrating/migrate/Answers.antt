use Rattle.station_tables.proofs.Common.{inl, rules, state}
use Rattle.station_tables.proofs.Looked.{judged_there, survives_both, was_clean}
use Rattle.station_tables.proofs.Migrated.{clean_on, fit_old, leaves_old, left_of, moved_on, none_open, only_old, refused_old, spares_old, undone_dead, undone_on, undone_read, unmoved_on, was_on}
use Rattle.station_tables.proofs.migrating.migrate.Goals as goal

pub returns-then-not-is_autocommit : goal.returns-then-not-is_autocommit
returns-then-not-is_autocommit g c = record {
  inside = search rules;
  clean = tt;
  was = tt;
  moved = tt;
  refused = search rules;
  fit = search rules;
  never = search rules;
  leaves = λ clean own lies db left. inl left;
  undone = λ outside. none_open (state g.S.Store c.args.conn).in_transaction _ c.is_autocommit.ensures.value c.if-not-is_autocommit.true outside;
  unmoved = λ outside. none_open (state g.S.Store c.args.conn).in_transaction _ c.is_autocommit.ensures.value c.if-not-is_autocommit.true outside;
  spares = search rules;
  only = search rules;
}

pub returns-then-not-is_live : goal.returns-then-not-is_live
returns-then-not-is_live g c = record {
  inside = search rules;
  clean = tt;
  was = tt;
  moved = tt;
  refused = search rules;
  fit = search rules;
  never = search rules;
  leaves = λ clean own lies db left. inl (left_of _ _ c.is_live.ensures.survives clean db left);
  undone = λ outside clean own lies. undone_dead (state g.S.Store c.args.conn) (c.is_autocommit.ensures.settled c.if-not-is_autocommit.false) outside _ (c.is_live.ensures.stops clean);
  unmoved = search rules;
  spares = search rules;
  only = λ clean other. c.is_live.ensures.survives;
}

pub returns-in-Ok : goal.returns-in-Ok
returns-in-Ok g c =
    let look = judged_there _ _ _ _ c.is_autocommit.ensures.value c.is_autocommit.ensures.settled c.if-not-is_autocommit.false (c.is_live.ensures.same c.if-not-is_live.false) c.in-Ok.ensures.survives _ _ c.in-Ok.ensures.read in
    let kept = survives_both _ _ _ c.is_live.ensures.survives c.in-Ok.ensures.survives in
    let at = state g.S.Store in
    let then = c.settle.ensures in
    record {
      inside = search rules;
      clean = clean_on at at _ _ _ look kept _ then.clean;
      was = was_on at at _ _ _ look _ then.clean then.was;
      moved = moved_on at at _ _ _ look _ _ then.clean then.moved c.shows_old_own.ensures;
      refused = refused_old at at _ _ _ look _ _ then.survives then.refused;
      fit = fit_old at at _ _ _ look _ _ then.survives then.refused;
      never = then.never;
      leaves = leaves_old at at _ _ _ look _ kept c.shows_old_own.ensures _ then.survives;
      undone = λ outside. undone_on at at _ _ _ look _ c.shows_old_own.ensures _ _ then.survives then.undone;
      unmoved = λ outside. unmoved_on at at _ _ _ look _ _ then.survives then.unmoved;
      spares = spares_old _ _ _ kept _ then.spares;
      only = only_old at at _ _ _ look kept _ _ then.survives then.only;
    }

pub returns-in-Err : goal.returns-in-Err
returns-in-Err g c =
    let kept = survives_both _ _ _ c.is_live.ensures.survives c.in-Err.ensures.survives in
    let rest = c.is_autocommit.ensures.settled c.if-not-is_autocommit.false in
    record {
      inside = search rules;
      clean = tt;
      was = tt;
      moved = tt;
      refused = search rules;
      fit = search rules;
      never = search rules;
      leaves = λ clean own lies db left. inl (left_of _ _ kept clean db left);
      undone = λ outside clean own lies.
          let live = c.is_live.ensures.same c.if-not-is_live.false (was_clean _ _ c.in-Err.ensures.survives clean) in
          undone_read (state g.S.Store c.args.conn) rest outside _ _ live (c.in-Err.ensures.read clean live.0.is_open);
      unmoved = λ outside clean other.
          let live = c.is_live.ensures.same c.if-not-is_live.false (was_clean _ _ c.in-Err.ensures.survives clean) in
          undone_read (state g.S.Store c.args.conn) rest outside _ _ live (c.in-Err.ensures.read clean live.0.is_open);
      spares = λ other. kept;
      only = λ clean other. kept;
    }
