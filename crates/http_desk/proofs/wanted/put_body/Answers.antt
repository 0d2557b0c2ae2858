use Rattle.std.proofs.Common.{arith}
use Rattle.http_desk.proofs.Accepting.{ten_digits, body_is}
use Rattle.http_desk.proofs.wanted.put_body.Goals as goal

pub put_decimal-at-requires : goal.put_decimal-at-requires
put_decimal-at-requires c =
    let few = ten_digits c.args.count (omega arith) in
    omega (arith, few, c.put-at.ensures.place, c.put-at.auto.out)

pub put-requires : goal.put-requires
put-requires c =
    let few = ten_digits c.args.count (omega arith) in
    omega (arith, few, c.put-at.ensures.place, c.put-at.auto.out, c.put_decimal-at.ensures.place, c.put_decimal-at.auto.out)

pub returns-clause-text : goal.returns-clause-text
returns-clause-text c = body_is c.args.count _ _ _ c.put-at.ensures.text c.put_decimal-at.ensures.text c.put.ensures.text
