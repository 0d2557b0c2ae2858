use Rattle.http_desk.proofs.Common.{None, ap, arith, json_answer, length, length-take-le, sym, take, ◌++◌, ◌∙◌, ◌≡◌}
use Rattle.http_desk.proofs.Accepting.{two_digits, answer_is}
use Rattle.http_desk.proofs.wanted.put_accepted.Goals as goal

pub put_decimal-at-requires : goal.put_decimal-at-requires
put_decimal-at-requires c =
    let front : length c.as_bytes.result.now ≡ 65 = ap length c.as_bytes.ensures.value in
    omega (arith, two_digits c.put_body-len.result c.put_body-len.ensures.bound, front, c.put-at.ensures.place, c.put-at.auto.out, c.fits-out)

pub put-at-requires-2 : goal.put-at-requires-2
put-at-requires-2 c =
    let front : length c.as_bytes.result.now ≡ 65 = ap length c.as_bytes.ensures.value in
    let behind : length c.as_bytes-2.result.now ≡ 23 = ap length c.as_bytes-2.ensures.value in
    omega (arith, two_digits c.put_body-len.result c.put_body-len.ensures.bound, front, behind, c.put-at.ensures.place, c.put-at.auto.out, c.put_decimal-at.ensures.place, c.put_decimal-at.auto.out, c.fits-out)

pub put-requires : goal.put-requires
put-requires c =
    let front : length c.as_bytes.result.now ≡ 65 = ap length c.as_bytes.ensures.value in
    let behind : length c.as_bytes-2.result.now ≡ 23 = ap length c.as_bytes-2.ensures.value in
    let body = length-take-le c.put_body-len.result c.put_body-len.new.out (omega (arith, c.put_body-len.ensures.bound, c.put_body-len.array_long)) in
    omega (
      arith,
      two_digits c.put_body-len.result c.put_body-len.ensures.bound,
      front,
      behind,
      body,
      c.put_body-len.ensures.bound,
      c.put-at.ensures.place,
      c.put-at.auto.out,
      c.put_decimal-at.ensures.place,
      c.put_decimal-at.auto.out,
      c.put-at-2.ensures.place,
      c.put-at-2.auto.out,
      c.fits-out,
    )

pub returns-clause-text : goal.returns-clause-text
returns-clause-text c =
    let body = length-take-le c.put_body-len.result c.put_body-len.new.out (omega (arith, c.put_body-len.ensures.bound, c.put_body-len.array_long)) in
    answer_is c.put_body-len.result (take c.put_body-len.result c.put_body-len.new.out) _ _ _ _ (sym body) (c.put-at.ensures.text ∙ c.as_bytes.ensures.value) c.put_decimal-at.ensures.text
    (c.put-at-2.ensures.text ∙ ap (λ l. take c.put_decimal-at.result c.put_decimal-at.new.out ++ l) c.as_bytes-2.ensures.value) c.put.ensures.text
    ∙ ap (json_answer 200 None) c.put_body-len.ensures.text
