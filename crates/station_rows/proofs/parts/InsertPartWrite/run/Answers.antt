use Rattle.station_rows.proofs.Common.{refl}
use Rattle.station_rows.proofs.Texts.{insert_part_is}
use Rattle.station_rows.proofs.WriteLemmas.{wrote}
use Rattle.station_rows.proofs.KeyedLemmas.{inserts}
use Rattle.station_rows.proofs.PartLemmas.{part_is, part_table}
use Rattle.station_rows.proofs.parts.InsertPartWrite.run.Goals as goal

pub returns : goal.returns
returns g c =
    let it = wrote g.S.Store c.args.conn.now c.execute.new.self insert_part_is refl (inserts part_table part_is _ insert_part_is _ _ ((c.args.self.flight.now, (c.args.self.day, (c.args.self.airport.now, c.args.self.seq))), c.args.self.body.now))
    (rw (c.params-to_sql.ensures, c.params-to_sql-2.ensures, c.params-to_sql-3.ensures, c.params-to_sql-4.ensures, c.params-to_sql-5.ensures) at c.execute.ensures.runs) _ c.execute.ensures.survives in
    record { made = it.made; ran = it.ran; survives = it.survives }
