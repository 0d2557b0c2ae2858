use Rattle.row_codec.proofs.Common.{SFits, kept_meant, rules, to_z-of_z, true, w64}
use Rattle.row_codec.proofs.Exact.{under_key, text_is}
use Rattle.row_codec.proofs.listing.kept_by.Goals as goal

pub returns-clause-exact : goal.returns-clause-exact
returns-clause-exact c = λ key is.
    let fits : SFits w64 c.args.row.count = search rules in
    under_key key (kept_meant c.args.row) true is (text_is c.args.row.command) (simp to_z-of_z at c.in_ok-count.ensures.exact)
