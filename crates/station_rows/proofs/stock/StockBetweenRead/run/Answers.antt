use Rattle.station_rows.proofs.Common.{refl, stock_meant, stock_read, stock_row}
use Rattle.station_rows.proofs.ReadLemmas.{query_survives, all_told}
use Rattle.station_rows.proofs.Texts.{between_stock_is}
use Rattle.station_rows.proofs.StockLemmas.{lists_between}
use Rattle.station_rows.proofs.stock.StockBetweenRead.run.Goals as goal

pub returns-clause-read : goal.returns-clause-read
returns-clause-read g c =
    all_told stock_meant stock_row stock_read (λ _. refl) g.S.Store c.args.conn.now c.all_rows.new.conn (lists_between c.args.self.prefix c.args.self.first c.args.self.last)
    _ (rw (c.params-to_sql.ensures, c.params-to_sql-2.ensures, c.params-to_sql-3.ensures) at c.all_rows.ensures.read)

pub returns-clause-survives : goal.returns-clause-survives
returns-clause-survives g c = query_survives between_stock_is _ _ _ c.all_rows.ensures.survives
