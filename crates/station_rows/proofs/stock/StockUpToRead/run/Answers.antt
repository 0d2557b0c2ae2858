use Rattle.station_rows.proofs.Common.{refl, stock_meant, stock_read, stock_row}
use Rattle.station_rows.proofs.ReadLemmas.{query_survives, first_told}
use Rattle.station_rows.proofs.Texts.{last_stock_is}
use Rattle.station_rows.proofs.StockLemmas.{lists_last}
use Rattle.station_rows.proofs.stock.StockUpToRead.run.Goals as goal

pub returns-clause-read : goal.returns-clause-read
returns-clause-read g c =
    first_told stock_meant stock_row stock_read (λ _. refl) g.S.Store c.args.conn.now c.first_row.new.conn _ (lists_last c.args.self.prefix c.args.self.low)
    _ (rw (c.params-to_sql.ensures, c.params-to_sql-2.ensures) at c.first_row.ensures.read)

pub returns-clause-survives : goal.returns-clause-survives
returns-clause-survives g c = query_survives last_stock_is _ _ _ c.first_row.ensures.survives
