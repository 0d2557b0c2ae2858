use Rattle.std.proofs.Common.{sym, ◌∙◌}
use Rattle.ffm_text.proofs.ScanLaws.{new_point, same_point}
use Rattle.ffm_text.proofs.cargo.ManifestScan.see.Goals as goal

pub returns-in-Some-clause-seen : goal.returns-in-Some-clause-seen
returns-in-Some-clause-seen c =
    λ above h. record {
      point = sym (new_point above c.args.line.now c.in-Some.point (sym c.unloading_point.ensures ∙ c.in-Some.is));
      cargo = c.in_ok-take.ensures.cargo above h;
    }

pub returns-in_default-clause-seen : goal.returns-in_default-clause-seen
returns-in_default-clause-seen c =
    λ above h. record {
      point = c.in_ok-take.ensures.point ∙ h.point ∙ sym (same_point above c.args.line.now (sym c.unloading_point.ensures ∙ c.in_default.is));
      cargo = c.in_ok-take.ensures.cargo above h;
    }
