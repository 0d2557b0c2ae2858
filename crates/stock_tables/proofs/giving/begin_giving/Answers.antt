use Rattle.stock_tables.proofs.giving.begin_giving.Goals as goal

pub returns-clause-done : goal.returns-clause-done
returns-clause-done g c = λ t showing stocked are.
    c.in_ok-give.ensures.done t t (c.in_ok-begin.ensures.begun t showing) stocked (λ begun. are (c.begin.ensures.survives.sound begun))
