use Rattle.row_codec.proofs.Common.{AreSumsOf, posting, subst, sym, ◌∙◌}
use Rattle.row_codec.proofs.KnownLaws.{sum_posted}
use Rattle.row_codec.proofs.known.PlaceSums.posted.Goals as goal

pub returns-in-Some-plus : goal.returns-in-Some-plus
returns-in-Some-plus c sums w are =
    subst (λ kept. AreSumsOf kept (posting w c.args.place.now c.args.by sums w)) (sym c.with.ensures)
    (sum_posted c.args.self sums w c.args.place.now c.args.by are c.in-Some.sum c.in-Some-plus.sum (sym c.at.ensures ∙ c.in-Some.is) c.in-Some-plus.ensures.1)
