use Rattle.ffm_text.proofs.Common.{[], ap, number_text, ◌++◌, ◌∙◌, ◌∷◌}
use Rattle.ffm_text.proofs.Appended.{joined, joined_last}
use Rattle.ffm_text.proofs.writing.put_route.Goals as goal

pub returns-clause-text : goal.returns-clause-text
returns-clause-text c =
    let old = c.args.out.now.items in
    let load = c.args.load.now in
    let number = c.in_ok-put.ensures.text ∙ ap (λ t. old ++ t) c.write.ensures.text in
    let origin = joined old c.put.new.out.items c.put-2.new.out.items (number_text load.awb) load.origin number
    (c.in_ok-put-2.ensures.text ∙ ap (λ t. c.put.new.out.items ++ t) c.letters.ensures.value) in
    let destination = joined old c.put-2.new.out.items c.put-3.new.out.items (number_text load.awb ++ load.origin) load.destination origin
    (c.in_ok-put-3.ensures.text ∙ ap (λ t. c.put-2.new.out.items ++ t) c.letters-2.ensures.value) in
    joined_last c.put-4.result old c.put-3.new.out.items c.put-4.new.out.items (number_text load.awb ++ load.origin ++ load.destination) (47 ∷ []) destination c.put-4.ensures.text
