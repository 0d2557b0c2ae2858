use Rattle.table_audits.proofs.Common.{rules, sym, to_z-of_z, w64, ◌∙◌}
use Rattle.table_audits.proofs.PostedLaws.{plain_spot}
use Rattle.table_audits.proofs.lookups.spot_of.Goals as goal

pub returns-then-is_built : goal.returns-then-is_built
returns-then-is_built c = λ t ws by columns names. c.flight_spot.ensures t ws c.args.place.now by columns (sym c.is_built.ensures ∙ c.if-is_built.true) names

pub returns : goal.returns
returns c = λ t ws by columns names. plain_spot t c.args.place.now _ (sym c.is_built.ensures ∙ c.if-is_built.false) (to_z-of_z w64 c.place_code.result (search rules) ∙ c.place_code.ensures)
