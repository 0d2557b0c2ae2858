use Rattle.http_desk.proofs.Common.{HasAsked, HasAskedShut, IsToldAs, List, Wanted, look_reply, refl, station_after, subst, sym, ℕ}
use Rattle.http_desk.specs.declared.wanted.Wanted.TheVariants as wanted
use Rattle.http_desk.proofs.AskedJson.{asked_json, shut_json, shut_unavailable}
use Rattle.http_desk.proofs.asking.ask.Goals as goal

pub returns-in-Fault-clause-asked : goal.returns-in-Fault-clause-asked
returns-in-Fault-clause-asked g c = λ s kept works sound.
    let left = station_after g.K.Keeper.keeping c.args.keeper.now in
    subst (λ (w : Wanted). HasAsked s c.args.at w c.fault_told.result left) (sym c.in-Fault.is)
    (asked_json s c.args.at (wanted.Fault c.in-Fault.fault) c.fault_told.result left c.fault_told.ensures refl (works, kept))

pub returns-in-Unreadable-clause-asked : goal.returns-in-Unreadable-clause-asked
returns-in-Unreadable-clause-asked g c = λ s kept works sound.
    let left = station_after g.K.Keeper.keeping c.args.keeper.now in
    subst (λ (w : Wanted). HasAsked s c.args.at w c.refusal_told.result left) (sym c.in-Unreadable.is)
    (asked_json s c.args.at (wanted.Unreadable c.in-Unreadable.refusal) c.refusal_told.result left c.refusal_told.ensures refl (works, kept))

pub returns-in-Look-clause-asked : goal.returns-in-Look-clause-asked
returns-in-Look-clause-asked g c = λ s kept works sound.
    let left = station_after g.K.Keeper.keeping c.args.keeper.now in
    subst (λ (w : Wanted). HasAsked s c.args.at w c.look_told.result left) (sym c.in-Look.is)
    (asked_json s c.args.at (wanted.Look c.in-Look.seen) c.look_told.result left (subst (λ (seen : List ℕ). IsToldAs (look_reply 200 seen) c.look_told.result) c.as_str.ensures.value c.look_told.ensures) refl (works, kept))

pub returns-in-Misread-clause-asked : goal.returns-in-Misread-clause-asked
returns-in-Misread-clause-asked g c = λ s kept works sound.
    let left = station_after g.K.Keeper.keeping c.args.keeper.now in
    subst (λ (w : Wanted). HasAsked s c.args.at w c.look_told-in-Misread.result left) (sym c.in-Misread.is)
    (asked_json s c.args.at (wanted.Misread c.in-Misread.text) c.look_told-in-Misread.result left (subst (λ (seen : List ℕ). IsToldAs (look_reply 400 seen) c.look_told-in-Misread.result) c.as_str-in-Misread.ensures.value c.look_told-in-Misread.ensures) refl (works, kept))

pub returns-in-Fault-clause-shut : goal.returns-in-Fault-clause-shut
returns-in-Fault-clause-shut g c = λ broken.
    subst (λ (w : Wanted). HasAskedShut c.args.at w c.fault_told.result) (sym c.in-Fault.is)
    (shut_json c.args.at (wanted.Fault c.in-Fault.fault) c.fault_told.result (λ s. c.fault_told.ensures) (λ s. refl))

pub returns-in-Unreadable-clause-shut : goal.returns-in-Unreadable-clause-shut
returns-in-Unreadable-clause-shut g c = λ broken.
    subst (λ (w : Wanted). HasAskedShut c.args.at w c.refusal_told.result) (sym c.in-Unreadable.is)
    (shut_json c.args.at (wanted.Unreadable c.in-Unreadable.refusal) c.refusal_told.result (λ s. c.refusal_told.ensures) (λ s. refl))

pub returns-in-Look-clause-shut : goal.returns-in-Look-clause-shut
returns-in-Look-clause-shut g c = λ broken.
    subst (λ (w : Wanted). HasAskedShut c.args.at w c.look_told.result) (sym c.in-Look.is)
    (shut_json c.args.at (wanted.Look c.in-Look.seen) c.look_told.result (λ s. subst (λ (seen : List ℕ). IsToldAs (look_reply 200 seen) c.look_told.result) c.as_str.ensures.value c.look_told.ensures) (λ s. refl))

pub returns-in-Misread-clause-shut : goal.returns-in-Misread-clause-shut
returns-in-Misread-clause-shut g c = λ broken.
    subst (λ (w : Wanted). HasAskedShut c.args.at w c.look_told-in-Misread.result) (sym c.in-Misread.is)
    (shut_json c.args.at (wanted.Misread c.in-Misread.text) c.look_told-in-Misread.result (λ s. subst (λ (seen : List ℕ). IsToldAs (look_reply 400 seen) c.look_told-in-Misread.result) c.as_str-in-Misread.ensures.value c.look_told-in-Misread.ensures) (λ s. refl))

pub returns-in-Waybill-clause-shut : goal.returns-in-Waybill-clause-shut
returns-in-Waybill-clause-shut g c = λ broken. shut_unavailable c.args.at c.args.wanted.now c.ask_waybill.result (c.ask_waybill.ensures.shut broken).1

pub returns-in-History-clause-shut : goal.returns-in-History-clause-shut
returns-in-History-clause-shut g c = λ broken. shut_unavailable c.args.at c.args.wanted.now c.ask_history.result (c.ask_history.ensures.shut broken).1

pub returns-in-Holder-clause-shut : goal.returns-in-Holder-clause-shut
returns-in-Holder-clause-shut g c = λ broken. shut_unavailable c.args.at c.args.wanted.now c.ask_holder.result (c.ask_holder.ensures.shut broken).1

pub returns-in-Input-clause-shut : goal.returns-in-Input-clause-shut
returns-in-Input-clause-shut g c = λ broken. shut_unavailable c.args.at c.args.wanted.now c.ask_input.result (c.ask_input.ensures.shut broken).1

pub returns-in-Report-clause-shut : goal.returns-in-Report-clause-shut
returns-in-Report-clause-shut g c = λ broken. λ s. (c.in-Report.is, (refl, refl))
