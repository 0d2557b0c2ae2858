use Rattle.carried_station.proofs.Judged.{judged_declared, judged_found, judged_none}
use Rattle.carried_station.proofs.waybills.left_out.Goals as goal

pub returns-clause-found : goal.returns-clause-found
returns-clause-found c = λ asc. judged_found (λ left. left.items) c.walk.result c.args.old.now c.args.new.now asc c.walk.ensures

pub returns-clause-none : goal.returns-clause-none
returns-clause-none c = λ asc. judged_none (λ left. left.items) c.walk.result c.args.old.now c.args.new.now asc c.walk.ensures

pub returns-clause-declared : goal.returns-clause-declared
returns-clause-declared c = λ asc. judged_declared (λ left. left.items) c.walk.result c.args.old.now c.args.new.now asc c.walk.ensures
