use Rattle.std.proofs.Common.{◌∙◌, arith}
use Rattle.imp_fields.proofs.PutLaws.{length-decimal_more, put_more, put_last}
use Rattle.imp_fields.proofs.field.+put_decimal.Goals as goal

pub put_decimal-at-requires : goal.put_decimal-at-requires
put_decimal-at-requires t c =
    let n = c.args.number in
    let more = length-decimal_more n (omega arith) (omega arith) in
    (omega arith, omega (arith, more, c.requires))

pub put-requires-2 : goal.put-requires-2
put-requires-2 t c =
    let n = c.args.number in
    let more = length-decimal_more n (omega arith) (omega arith) in
    omega (arith, more, c.requires, c.put_decimal-at.ensures.place, c.put_decimal-at.auto.out)

pub returns-clause-place : goal.returns-clause-place
returns-clause-place t c = c.put-2.ensures.place ∙ put_more c.args.number c.args.at c.put_decimal-at.result (omega arith) (omega arith) c.put_decimal-at.ensures.place

pub returns-clause-text : goal.returns-clause-text
returns-clause-text t c = put_last c.args.number _ _ _ (omega arith) (omega arith) c.put_decimal-at.ensures.text c.put-2.ensures.text
