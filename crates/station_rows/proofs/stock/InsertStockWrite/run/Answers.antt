use Rattle.station_rows.proofs.Common.{refl, stock_meant}
use Rattle.station_rows.proofs.Texts.{insert_stock_is}
use Rattle.station_rows.proofs.WriteLemmas.{wrote}
use Rattle.station_rows.proofs.KeyedLemmas.{inserts}
use Rattle.station_rows.proofs.StockLemmas.{stock_is, stock_table}
use Rattle.station_rows.proofs.stock.InsertStockWrite.run.Goals as goal

pub returns : goal.returns
returns g c =
    let it = wrote g.S.Store c.args.conn.now c.execute.new.self insert_stock_is refl (inserts stock_table stock_is _ insert_stock_is _ _ (stock_meant c.args.self.row.now))
    (rw (c.params-to_sql.ensures, c.params-to_sql-2.ensures, c.params-to_sql-3.ensures, c.params-to_sql-4.ensures, c.params-to_sql-5.ensures) at c.execute.ensures.runs) _ c.execute.ensures.survives in
    record { made = it.made; ran = it.ran; survives = it.survives }
