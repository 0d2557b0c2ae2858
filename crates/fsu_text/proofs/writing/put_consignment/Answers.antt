use Rattle.fsu_text.proofs.Common.{number_text, take}
use Rattle.fsu_text.proofs.PutLaws.{parts_joined}
use Rattle.fsu_text.proofs.writing.put_consignment.Goals as goal

pub returns-clause-text : goal.returns-clause-text
returns-clause-text c =
    parts_joined (take c.args.at c.args.out.now) _ _ _ _ (number_text c.args.of.now.awb) _ c.args.of.now.origin _ c.args.of.now.destination _ _ c.put-at.ensures.text c.write.ensures.text
    c.put-at-2.ensures.text c.letters.ensures.value c.put-at-3.ensures.text c.letters-2.ensures.value c.put_amount.ensures.text
