use Rattle.station_rows.proofs.Common.{IsOwn, ap, subst, sym, ◌∙◌}
use Rattle.station_rows.proofs.rows.Rows.opened.Goals as goal

pub invariant_of-result : goal.invariant_of-result
invariant_of-result g c = record {
  works = λ on clean declared lies.
      let same = (c.is_live.ensures.same c.if-not-is_live.false clean).0 in
      let settled = c.is_autocommit.ensures.settled c.if-not-is_autocommit.false same.was_open in
      record { is_open = same.is_open; station = c.has_station-declared.ensures.station declared same.is_open (same.now_is ∙ settled ∙ sym same.committed_is) lies };
  leaves = λ clean declared lies db left.
      let same = (c.is_live.ensures.same c.if-not-is_live.false clean).0 in
      let settled = c.is_autocommit.ensures.settled c.if-not-is_autocommit.false same.was_open in
      let now = same.now_is ∙ settled ∙ sym same.committed_is in
      subst IsOwn (ap (λ d. d.trees) now ∙ sym (g.met.S.Store.settled c.is_live.new.conn.store db same.is_open left)) ((c.has_station-declared.ensures.own same.is_open).0 declared);
}
