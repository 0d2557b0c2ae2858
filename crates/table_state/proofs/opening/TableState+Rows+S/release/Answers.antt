use Rattle.station_rows.specs.Shown.{rows_view}
use Rattle.table_state.proofs.Lifting.{given_back}
use Rattle.table_state.proofs.opening.TableState+Rows+S.release.Goals as goal

pub returns-clause-leaves : goal.returns-clause-leaves
returns-clause-leaves g c = λ sound found finds.
    record { tables = finds.tables; left = (rw c.into_store.ensures at c.release.ensures.crash) sound finds.tables finds.left; means = finds.means }

pub returns-clause-shown : goal.returns-clause-shown
returns-clause-shown g c = λ x was.
    let store = c.args.self.store in
    given_back (rows_view g.S.Store store.conn store.declared) (rows_view g.S.Store c.release.result store.declared) _ _ _ x was (rw c.into_store.ensures at c.release.ensures.sound)
    (λ sound up. let d = (rw c.into_store.ensures at c.release.ensures.undone) sound.0 up in
    record { was_open = d.was_open; is_open = d.is_open; now_is = d.now_is; committed_is = d.committed_is; mode = d.mode })

pub returns-clause-survives : goal.returns-clause-survives
returns-clause-survives g c = rw c.into_store.ensures at c.release.ensures.survives

pub returns-clause-own : goal.returns-clause-own
returns-clause-own g c = rw c.into_store.ensures at c.release.ensures.own
