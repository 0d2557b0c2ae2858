use Rattle.stock_tables.proofs.orders.carry_out_order.Goals as goal

pub returns-clause-ordered : goal.returns-clause-ordered
returns-clause-ordered g c = rw (c.terms.ensures.run, c.terms.ensures.test, c.terms.ensures.holder, c.terms.ensures.refusal) at c.change.ensures.ordered
