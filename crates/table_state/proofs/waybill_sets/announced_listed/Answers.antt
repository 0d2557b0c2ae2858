use Rattle.table_state.proofs.Announcing.{all_announced}
use Rattle.table_state.proofs.waybill_sets.announced_listed.Goals as goal

pub returns-in-Ok : goal.returns-in-Ok
returns-in-Ok c = λ s are w none has. c.in-Ok.ensures w (all_announced s c.args.rows.now are w none has)
