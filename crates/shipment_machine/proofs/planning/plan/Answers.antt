use Rattle.shipment_machine.proofs.FromView.{rows_fit, view_planned, view_refused, view_lawful}
use Rattle.shipment_machine.proofs.planning.plan.Goals as goal

pub returns-then-not-fits-clause-planned : goal.returns-then-not-fits-clause-planned
returns-then-not-fits-clause-planned c s shows =
    absurd (let yes = c.fits.ensures.1 (rows_fit s c.args.command.now c.args.view.now c.args.at c.meant_by-meant.result c.meant_by-meant.ensures shows) in let no = c.if-not-fits.true in cc)

pub returns-then-not-fits-clause-refused : goal.returns-then-not-fits-clause-refused
returns-then-not-fits-clause-refused c s shows =
    absurd (let yes = c.fits.ensures.1 (rows_fit s c.args.command.now c.args.view.now c.args.at c.meant_by-meant.result c.meant_by-meant.ensures shows) in let no = c.if-not-fits.true in cc)

pub returns-clause-planned : goal.returns-clause-planned
returns-clause-planned c s shows =
    view_planned s c.args.command.now c.args.view.now c.args.at c.meant_by-meant.result c.meant_by-meant.ensures shows c.plan_from.result c.plan_from.ensures.answer

pub returns-clause-refused : goal.returns-clause-refused
returns-clause-refused c s shows =
    view_refused s c.args.command.now c.args.view.now c.args.at c.meant_by-meant.result c.meant_by-meant.ensures shows c.plan_from.result c.plan_from.ensures.answer

pub returns-clause-stays_lawful : goal.returns-clause-stays_lawful
returns-clause-stays_lawful c s shows =
    view_lawful s c.args.command.now c.args.view.now c.args.at c.meant_by-meant.result c.meant_by-meant.ensures shows c.plan_from.result c.plan_from.ensures.answer c.plan_from.ensures.proper
