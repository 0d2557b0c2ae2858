use Rattle.stock_tables.proofs.Showing.{reads_after}
use Rattle.stock_tables.proofs.near.near_of.Goals as goal

pub returns-in-None : goal.returns-in-None
returns-in-None g c = reads_after _ _ _ _ c.in_ok-near.ensures c.near_by_two.ensures
