use Rattle.stock_tables.proofs.Meant.{same_holders, are_in_order}
use Rattle.stock_tables.proofs.row.rows_law.Goals as goal

pub returns-clause-holders : goal.returns-clause-holders
returns-clause-holders c = λ stock are. same_holders stock are.rows

pub returns-clause-order : goal.returns-clause-order
returns-clause-order c = λ stock are. are_in_order stock are.rows are.apart
