use Rattle.table_state.proofs.Common.{running}
use Rattle.table_state.proofs.NewState.{shown}
use Rattle.table_state.proofs.state.TableState.over.Goals as goal

pub returns-clause-shows : goal.returns-clause-shows
returns-clause-shows g c t s means knows has =
    shown (g.S.TableStore.view c.args.store) t s c.args.here _ c.args.confirmed means knows (record { boarded = c.none.ensures s.cargo.book; known = c.none-2.ensures (running s.cargo.book); waybills = c.none-3.ensures s.cargo.book s.cargo.declared; open_lines = c.none-4.ensures s.cargo.expected; spans = record { flights = c.none-5.ensures s.cargo.book; statuses = c.none-6.ensures s.cargo.outbox } }) has (g.met.S.TableStore.settled c.args.store)
