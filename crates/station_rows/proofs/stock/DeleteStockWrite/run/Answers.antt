use Rattle.station_rows.proofs.Common.{refl}
use Rattle.station_rows.proofs.Texts.{delete_stock_is}
use Rattle.station_rows.proofs.WriteLemmas.{wrote}
use Rattle.station_rows.proofs.KeyedLemmas.{deletes}
use Rattle.station_rows.proofs.StockLemmas.{stock_is, stock_table}
use Rattle.station_rows.proofs.stock.DeleteStockWrite.run.Goals as goal

pub returns : goal.returns
returns g c =
    let it = wrote g.S.Store c.args.conn.now c.execute.new.self delete_stock_is refl (deletes stock_table stock_is _ delete_stock_is _ _ (c.args.self.prefix, c.args.self.low))
    (rw (c.params-to_sql.ensures, c.params-to_sql-2.ensures) at c.execute.ensures.runs) _ c.execute.ensures.survives in
    record { made = it.made; ran = it.ran; survives = it.survives }
