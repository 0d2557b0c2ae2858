use Rattle.station_rows.proofs.Common.{refl, stock_meant, stock_read, stock_row}
use Rattle.station_rows.proofs.ReadLemmas.{query_survives, all_told}
use Rattle.station_rows.proofs.Texts.{all_stock_is}
use Rattle.station_rows.proofs.StockLemmas.{lists_all_stock}
use Rattle.station_rows.proofs.stock.AllStockRead.run.Goals as goal

pub returns-clause-read : goal.returns-clause-read
returns-clause-read g c =
    all_told stock_meant stock_row stock_read (λ _. refl) g.S.Store c.args.conn.now c.all_rows.new.conn lists_all_stock _ c.all_rows.ensures.read

pub returns-clause-survives : goal.returns-clause-survives
returns-clause-survives g c = query_survives all_stock_is _ _ _ c.all_rows.ensures.survives
