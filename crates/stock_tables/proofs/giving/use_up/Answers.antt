use Rattle.stock_tables.proofs.Common.{inside, ◌∙◌}
use Rattle.stock_tables.proofs.Doing.{uses_up}
use Rattle.stock_tables.proofs.giving.use_up.Goals as goal

pub returns-clause-done : goal.returns-clause-done
returns-clause-done g c = λ before t showing stocked sound.
    uses_up (g.S.TableStore.view c.give.new.store) before t c.of_one-run.result c.args.awb.now c.of_one-run.ensures.value
    (c.in_ok-give.ensures.done before t (c.in_ok-near.ensures.same (inside before t) showing) stocked
    (λ read. c.deref.ensures.value ∙ c.in_ok-near.ensures.read (inside before t) showing read stocked) sound)
