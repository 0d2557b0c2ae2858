use Rattle.station_files.proofs.Common.{IfOk-weaker, [], inl, rules, ◌≡◌}
use Rattle.station_files.proofs.Ways.{err_then, next_spared, next_way}
use Rattle.station_files.specs.declared.made.Shown.TheVariants as shown
use Rattle.station_files.proofs.made.open_first.Goals as goal

pub returns-in-Ok-Neither-clause-opened : goal.returns-in-Ok-Neither-clause-opened
returns-in-Ok-Neither-clause-opened g c =
    let at = c.in-Ok-Neither in
    let is : at.field-0 ≡ shown.Neither at.files = search rules in
    IfOk-weaker c.open_any.result _ _ (λ it all. next_way _ _ _ _ _ [] _ _ is at.ensures.opened (all c.args.objects.now)) c.open_any.ensures.opened

pub returns-in-Ok-Neither-clause-spared : goal.returns-in-Ok-Neither-clause-spared
returns-in-Ok-Neither-clause-spared g c =
    let at = c.in-Ok-Neither in
    let is : at.field-0 ≡ shown.Neither at.files = search rules in
    err_then c.open_any.result _ _ (λ e all. next_spared _ _ _ _ _ [] _ _ is at.ensures.opened (all c.args.objects.now)) c.open_any.ensures.spared

pub returns-in-Err-clause-spared : goal.returns-in-Err-clause-spared
returns-in-Err-clause-spared g c = inl c.in-Err.ensures.spared
