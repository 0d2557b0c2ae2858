use Rattle.http_desk.proofs.Common.{ap, number_of, result_ok, ◌∙◌}
use Rattle.http_desk.proofs.Wanting.{chunk_is}
use Rattle.http_desk.proofs.printout.number_in.Goals as goal

pub returns : goal.returns
returns c =
    c.read_twelve.ensures
    ∙ ap (λ bytes. result_ok (number_of bytes)) (chunk_is _ c.try_from.result c.args.text.now c.in_ok-bytes.bytes c.in_ok-bytes.ensures.value c.try_from.ensures.1)
