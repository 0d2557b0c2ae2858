use Rattle.std.proofs.Common.{◌∙◌, ◌++◌, codes}
use Rattle.input_reasons.proofs.Texts.{joined, told}
use Rattle.input_reasons.proofs.as_object.list_text.Goals as goal

pub returns : goal.returns
returns c =
    told c.format.result _ _
    (λ i. codes "[" ++ ((c.in_ok-joined.ensures.ok ∙ joined (codes ",") c.args.objects.now) i ++ codes "]"))
    c.format.ensures.ok
