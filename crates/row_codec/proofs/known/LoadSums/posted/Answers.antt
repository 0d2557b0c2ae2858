use Rattle.row_codec.proofs.Common.{IfSome_then, sym, ◌∙◌}
use Rattle.row_codec.proofs.KnownLaws.{more_posted, none_posted}
use Rattle.row_codec.proofs.known.LoadSums.posted.Goals as goal

pub returns-in-Some-plus : goal.returns-in-Some-plus
returns-in-Some-plus c sums are =
    IfSome_then c.with.result c.with.ensures
    (λ more is. more_posted c.args.self more c.args.awb.now c.in-Some-plus.sum is.0 is.1 sums c.args.place.now c.args.by c.in-Some.sum are (sym c.at.ensures ∙ c.in-Some.is) c.in-Some-plus.ensures.1)

pub returns-in_default : goal.returns-in_default
returns-in_default c sums are = none_posted c.args.self sums c.args.awb.now c.args.place.now c.args.by are (sym c.at.ensures ∙ c.in_default.is)
