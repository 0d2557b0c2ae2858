use Rattle.std.proofs.Common.{◌≡◌, rules, [], ◌∷◌, ap, ◌∙◌}
use Rattle.station_schema.proofs.TableLemmas.{one_item}
use Rattle.station_schema.proofs.tables.is_one_key.Goals as goal

pub returns-clause-on : goal.returns-clause-on
returns-clause-on c last =
    let same : c.index-uniques-0.result ≡ c.args.places.now = search rules in
    one_item c.args.uniques.now c.index-uniques-0.result c.if-uniques-ne1.false c.index-uniques-0.is ∙ ap (λ p. p ∷ []) same
