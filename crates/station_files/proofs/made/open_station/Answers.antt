use Rattle.station_files.proofs.Common.{IfOk-weaker, rules, true, ◌≡◌}
use Rattle.station_files.proofs.Ways.{err_then, upgrade_failed, upgrade_spared, upgrade_way}
use Rattle.station_files.specs.declared.made.Shown.TheVariants as shown
use Rattle.station_files.proofs.made.open_station.Goals as goal

pub returns-in-Ok-Neither-clause-opened : goal.returns-in-Ok-Neither-clause-opened
returns-in-Ok-Neither-clause-opened g c =
    let on : c.args.is_upgrade ≡ true = search rules in
    let at = c.in-Ok-Neither in
    let is : at.field-0 ≡ shown.Neither at.files = search rules in
    let next = c.open_first-in-Ok-Neither in
    IfOk-weaker next.result _ _ (λ it has. upgrade_way _ _ _ _ _ _ _ on c.station_trees-trees.ensures is at.ensures.opened has) next.ensures.opened

pub returns-in-Ok-Neither-clause-spared : goal.returns-in-Ok-Neither-clause-spared
returns-in-Ok-Neither-clause-spared g c =
    let on : c.args.is_upgrade ≡ true = search rules in
    let at = c.in-Ok-Neither in
    let is : at.field-0 ≡ shown.Neither at.files = search rules in
    let next = c.open_first-in-Ok-Neither in
    err_then next.result _ _ (λ e has. upgrade_spared _ _ _ _ _ _ _ on c.station_trees-trees.ensures is at.ensures.opened has) next.ensures.spared

pub returns-in-Err-clause-spared : goal.returns-in-Err-clause-spared
returns-in-Err-clause-spared g c =
    let on : c.args.is_upgrade ≡ true = search rules in
    upgrade_failed _ _ _ _ on c.station_trees-trees.ensures c.in-Err.ensures.spared
