use Rattle.std.proofs.Common.{◌∙◌, sym, ap, option_map, rules, FitsSigned, w64, to_z-of_z}
use Rattle.row_codec.proofs.Common.{BuildKey, get, running_on}
use Rattle.row_codec.proofs.Amounts.{carried_told, carried_none}
use Rattle.row_codec.proofs.Stores.{made_of}
use Rattle.row_codec.proofs.building.sum_on.Goals as goal

pub returns-in-Some : goal.returns-in-Some
returns-in-Some g c =
    let number_fits : FitsSigned w64 c.awb_key-number.result = search rules in
    let day_fits : FitsSigned w64 c.day_number-day.result = search rules in
    made_of (g.S.TableStore.view c.args.store.now) _ _ _ c.in_ok-sum.ensures (λ x shows sound book are.
    carried_told x.now.builds book are c.args.awb.now c.args.flight.now c.flight_text.ensures.designator c.in-Some.sum
    (sym (c.in-Some.is) ∙ c.in_ok-sum.ensures.read x shows sound ∙ ap (λ (k : BuildKey). option_map running_on (get x.now.builds k))
    (λ i. ((c.as_str.ensures.value ∙ c.in_ok-text.ensures.text) i, ((to_z-of_z day_fits ∙ c.day_number-day.ensures.value) i, (to_z-of_z number_fits ∙ c.awb_key-number.ensures.value) i)))))

pub returns : goal.returns
returns g c =
    let number_fits : FitsSigned w64 c.awb_key-number.result = search rules in
    let day_fits : FitsSigned w64 c.day_number-day.result = search rules in
    made_of (g.S.TableStore.view c.args.store.now) _ _ _ c.in_ok-sum.ensures (λ x shows sound book are.
    carried_none x.now.builds book are c.args.awb.now c.args.flight.now c.flight_text.ensures.designator
    (sym (c.in-None.is) ∙ c.in_ok-sum.ensures.read x shows sound ∙ ap (λ (k : BuildKey). option_map running_on (get x.now.builds k))
    (λ i. ((c.as_str.ensures.value ∙ c.in_ok-text.ensures.text) i, ((to_z-of_z day_fits ∙ c.day_number-day.ensures.value) i, (to_z-of_z number_fits ∙ c.awb_key-number.ensures.value) i)))))
