use Rattle.station_tables.proofs.Common.{rules, state}
use Rattle.station_tables.proofs.Looked.{finds_after, finds_after_one, fit_on, own_fit_on, found_on, judged_there, leaves_on, own_on, refused_on, seen_on, survives_both, survives_same, typed_on, unwritten_at, unwritten_on, was_clean}
use Rattle.station_tables.proofs.Migrated.{none_open, undone_read, unmoved_seen}
use Rattle.station_tables.proofs.attaching.attach.Goals as goal

pub returns-then-not-is_autocommit : goal.returns-then-not-is_autocommit
returns-then-not-is_autocommit g c = record {
  inside = search rules;
  works = tt;
  sound = tt;
  found = tt;
  own = tt;
  typed = tt;
  refused = search rules;
  fit = search rules;
  own_fit = search rules;
  leaves = search rules;
  never = search rules;
  unwritten = tt;
  seen = tt;
  unwritten_at_err = survives_same _;
  unmoved = λ outside. none_open (state g.S.Store c.args.conn).in_transaction _ c.is_autocommit.ensures.value c.if-not-is_autocommit.true outside;
}

pub returns-then-not-is_live : goal.returns-then-not-is_live
returns-then-not-is_live g c = record {
  inside = search rules;
  works = tt;
  sound = tt;
  found = tt;
  own = tt;
  typed = tt;
  refused = search rules;
  fit = search rules;
  own_fit = search rules;
  leaves = λ sound found finds. finds_after_one _ _ c.is_live.ensures.survives sound found finds;
  never = search rules;
  unwritten = tt;
  seen = tt;
  unwritten_at_err = search rules;
  unmoved = search rules;
}

pub returns-in-Ok : goal.returns-in-Ok
returns-in-Ok g c =
    let live = c.is_live.ensures.same c.if-not-is_live.false in
    let look = judged_there _ _ _ _ c.is_autocommit.ensures.value c.is_autocommit.ensures.settled c.if-not-is_autocommit.false live c.in-Ok.ensures.survives _ _ c.in-Ok.ensures.read in
    let kept = survives_both _ _ _ c.is_live.ensures.survives c.in-Ok.ensures.survives in
    let then = c.settle.ensures in
    record {
      inside = search rules;
      works = then.works;
      sound = search rules;
      found = found_on _ _ _ _ look _ _ then.clean then.found;
      own = own_on _ _ _ _ look _ _ then.clean then.own;
      typed = typed_on _ _ _ _ look _ then.sound then.typed;
      refused = refused_on _ _ _ _ look _ then.spares then.refused;
      fit = fit_on _ _ _ _ look _ then.spares then.refused;
      own_fit = own_fit_on _ _ _ _ look _ _ then.spares then.refused c.shows_own_station.ensures;
      leaves = leaves_on _ _ _ _ c.is_live.ensures.survives c.in-Ok.ensures.survives _ then.spares;
      never = then.never;
      unwritten = unwritten_on _ _ _ _ kept then.unwritten;
      seen = seen_on _ _ _ _ _ live c.in-Ok.ensures.survives (λ clean is_open. (c.in-Ok.ensures.read clean is_open).1) then.unwritten then.seen;
      unwritten_at_err = unwritten_at _ _ _ _ kept then.unwritten_at_err;
      unmoved = λ outside. unmoved_seen (state g.S.Store) _ _ (λ clean. (look clean).0) _ then.unwritten_at_err then.unmoved;
    }

pub returns-in-Err : goal.returns-in-Err
returns-in-Err g c = record {
  inside = search rules;
  works = tt;
  sound = tt;
  found = tt;
  own = tt;
  typed = tt;
  refused = search rules;
  fit = search rules;
  own_fit = search rules;
  leaves = λ sound found finds. finds_after _ _ _ c.is_live.ensures.survives c.in-Err.ensures.survives sound found finds;
  never = search rules;
  unwritten = tt;
  seen = tt;
  unwritten_at_err = survives_both _ _ _ c.is_live.ensures.survives c.in-Err.ensures.survives;
  unmoved = λ outside clean other.
      let live = c.is_live.ensures.same c.if-not-is_live.false (was_clean _ _ c.in-Err.ensures.survives clean) in
      undone_read (state g.S.Store c.args.conn) (c.is_autocommit.ensures.settled c.if-not-is_autocommit.false) outside _ _ live (c.in-Err.ensures.read clean live.0.is_open);
}
