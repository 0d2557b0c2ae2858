use Rattle.table_load.proofs.tables.found_rows.Goals as goal

pub returns-in-None-clause-read : goal.returns-in-None-clause-read
returns-in-None-clause-read g c = λ clean up. rw c.in-None.is at (c.in_ok-fold_rows.ensures.read clean up)
