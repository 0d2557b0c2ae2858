use Rattle.ffm_text.proofs.Common.{AreCargo, [], subst, sym, ◌++◌, ◌∙◌, ◌∷◌}
use Rattle.ffm_text.proofs.ScanLaws.{take_cargo, pass_line}
use Rattle.ffm_text.proofs.ToldLaws.{cargo_told}
use Rattle.ffm_text.proofs.cargo.ManifestScan.take.Goals as goal

pub returns-then-not-is_cargo_line-clause-cargo : goal.returns-then-not-is_cargo_line-clause-cargo
returns-then-not-is_cargo_line-clause-cargo c =
    λ above h. pass_line above c.args.self.now.cargo.items c.args.line.now h.cargo (sym c.is_cargo_line.ensures ∙ c.if-not-is_cargo_line.true)

pub returns-in-Err-clause-fault : goal.returns-in-Err-clause-fault
returns-in-Err-clause-fault c =
    λ above h. cargo_told above c.args.line.now c.args.self.now.point c.args.number c.in-Err.why c.fault_at.result h.point
    (sym c.is_cargo_line.ensures ∙ c.if-not-is_cargo_line.false) c.in-Err.ensures.fault c.fault_at.ensures

pub returns-in-Ok-push-clause-cargo : goal.returns-in-Ok-push-clause-cargo
returns-in-Ok-push-clause-cargo c =
    λ above h. subst (AreCargo (above ++ c.args.line.now ∷ [])) (sym c.in-Ok-push.ensures.items)
    (take_cargo above c.args.self.now.cargo.items c.args.line.now c.in-Ok.cargo h.cargo (sym c.is_cargo_line.ensures ∙ c.if-not-is_cargo_line.false)
    c.in-Ok.ensures.read.0 (sym h.point ∙ c.in-Ok.ensures.read.1) c.in-Ok.ensures.spans)
