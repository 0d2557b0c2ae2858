use Rattle.http_desk.proofs.Common.{IsToldAs, Option, Waybill, history_of, refl, station_after, subst, sym, ◌∙◌}
use Rattle.http_desk.specs.declared.wanted.Wanted.TheVariants as wanted
use Rattle.http_desk.proofs.AskedJson.{asked_json}
use Rattle.http_desk.proofs.asking.ask_history.Goals as goal

-- an unknown waybill has no history
pub returns-in-Ok-None-clause-asked : goal.returns-in-Ok-None-clause-asked
returns-in-Ok-None-clause-asked g c = λ s at kept works sound.
    let is = sym (c.in-Ok-None.ensures.value s kept sound) ∙ c.in-Ok-None.field-0-is in
    asked_json s at (wanted.History c.args.number.now) c.fault_told.result (station_after g.K.Keeper.keeping c.waybill.new.self)
    (subst (λ (o : Option Waybill). IsToldAs (history_of c.args.number.now o) c.fault_told.result) (sym is) c.fault_told.ensures) refl
    (c.in-Ok-None.ensures.reads.breaks ∙ works, c.in-Ok-None.ensures.reads.same s kept sound)
