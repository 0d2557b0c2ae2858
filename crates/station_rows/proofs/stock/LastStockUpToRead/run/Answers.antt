use Rattle.station_rows.proofs.Common.{Ok, [], entries, last_rows_up_to, refl, state, still_plain, stock_meant, stock_read, stock_row, tables_of}
use Rattle.station_rows.proofs.Last.{turned}
use Rattle.station_rows.proofs.ReadLemmas.{query_survives, all_told, fails_to_read}
use Rattle.station_rows.proofs.Texts.{last_stock_rows_is}
use Rattle.station_rows.proofs.StockLemmas.{lists_last_rows}
use Rattle.station_rows.proofs.stock.LastStockUpToRead.run.Goals as goal

pub returns-in_err-rows-clause-read : goal.returns-in_err-rows-clause-read
returns-in_err-rows-clause-read g c clean was =
    fails_to_read _ _ _ _ c.from_residual.ensures.0 (c.in_err-rows.ensures.read clean (still_plain _ [] (state g.S.Store c.args.conn.now) (state g.S.Store c.all_rows.new.conn) last_stock_rows_is.asks.1 was))

pub returns-in_err-rows-clause-survives : goal.returns-in_err-rows-clause-survives
returns-in_err-rows-clause-survives g c = query_survives last_stock_rows_is _ _ _ c.all_rows.ensures.survives

pub returns-clause-read : goal.returns-clause-read
returns-clause-read g c clean was =
    let old = state g.S.Store c.args.conn.now in
    let wanted = last_rows_up_to c.args.self.prefix c.args.self.low c.args.self.count (entries (tables_of old.now.trees).stock) in
    let told = all_told stock_meant stock_row stock_read (λ _. refl) g.S.Store c.args.conn.now c.all_rows.new.conn (lists_last_rows c.args.self.prefix c.args.self.low c.args.self.count) (Ok c.in_ok-rows.rows)
    (rw (c.params-to_sql.ensures, c.params-to_sql-2.ensures, c.params-to_sql-3.ensures) at c.in_ok-rows.ensures.read) clean was in
    (rw c.reverse.ensures.items (turned stock_meant c.in_ok-rows.rows.items wanted told.0), told.1)

pub returns-clause-survives : goal.returns-clause-survives
returns-clause-survives g c = query_survives last_stock_rows_is _ _ _ c.all_rows.ensures.survives
