use Rattle.desk_server.proofs.Serving.{one}
use Rattle.desk_server.proofs.server.serve_held.Goals as goal

pub returns-then-served-clause-most : goal.returns-then-served-clause-most
returns-then-served-clause-most g c =
    one g.K.Keeper.keeping _ _ c.args.keeper.now c.answer.new.keeper c.in-Ok.ensures.served.1 (λ good. absurd (let no = good in cc))

pub returns-then-is_open-clause-most : goal.returns-then-is_open-clause-most
returns-then-is_open-clause-most g c =
    one g.K.Keeper.keeping _ _ c.args.keeper.now c.answer.new.keeper c.in-Ok.ensures.served.1 (λ good. c.if-served.false)

pub returns-else-is_open-clause-most : goal.returns-else-is_open-clause-most
returns-else-is_open-clause-most g c =
    one g.K.Keeper.keeping _ _ c.args.keeper.now c.answer.new.keeper c.in-Ok.ensures.served.1 (λ good. c.if-served.false)

pub returns-in-Err-2-clause-most : goal.returns-in-Err-2-clause-most
returns-in-Err-2-clause-most g c =
    one g.K.Keeper.keeping _ _ c.args.keeper.now c.answer.new.keeper c.in-Err.ensures.served.1 (λ good. tt)
