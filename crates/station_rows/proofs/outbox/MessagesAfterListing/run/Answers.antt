use Rattle.station_rows.proofs.MessageLemmas.{lists_message}
use Rattle.station_rows.proofs.ReadLemmas.{query_survives, all_handed}
use Rattle.station_rows.proofs.Texts.{after_message_is}
use Rattle.station_rows.proofs.outbox.MessagesAfterListing.run.Goals as goal

pub returns-clause-hands : goal.returns-clause-hands
returns-clause-hands g c =
    all_handed g.S.Store c.args.conn.now c.stream.new.conn _ _ (λ _ _ _ _ took. took) (lists_message c.args.self.number) _ _ _ (rw c.params-to_sql.ensures at c.stream.ensures.streams)

pub returns-clause-survives : goal.returns-clause-survives
returns-clause-survives g c = query_survives after_message_is _ _ _ c.stream.ensures.survives
