use Rattle.table_state.proofs.Common.{in_tables, refl, unread}
use Rattle.table_state.proofs.Lifting.{counted_by}
use Rattle.table_state.proofs.Values.{by_builds}
use Rattle.table_state.proofs.state.TableStateStateStore.waybills_on.Goals as goal

pub returns-in-Some : goal.returns-in-Some
returns-in-Some g c = unread (in_tables g.S.TableStore.view) c.args.self.now _ (λ x shown sound. c.in-Some.ensures x.now.cargo.book (shown sound).kept.boarded)

pub returns : goal.returns
returns g c =
    counted_by g.S.TableStore.view c.args.self.now _ _ _ _ _ refl c.in_ok-waybills.ensures
    (λ s means tells kept. record { boarded = c.keep.ensures s.cargo.book kept.boarded (by_builds _ s means _ tells); known = kept.known; waybills = kept.waybills; open_lines = kept.open_lines; spans = kept.spans })
    (λ s means. by_builds _ s means _)
