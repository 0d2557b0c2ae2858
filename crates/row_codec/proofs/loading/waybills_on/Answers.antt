use Rattle.std.proofs.Common.{◌∙◌, ℕ, ℤ, pos, int_lt, List, length, ap, ap₂, map, rules, FitsSigned, w64, to_z-of_z}
use Rattle.row_codec.proofs.Common.{entries, filter, is_on, pieces_in}
use Rattle.row_codec.proofs.FlightRows.{number_is}
use Rattle.row_codec.proofs.Stores.{made_of}
use Rattle.row_codec.proofs.loading.waybills_on.Goals as goal

pub returns : goal.returns
returns g c = made_of (g.S.TableStore.view c.args.store.now) _ _ _ c.in_ok-pieces.ensures (λ x shows sound book are.
    let day_fits : FitsSigned w64 c.day_number-day.result = search rules in
    let read = c.deref.ensures.value ∙ c.in_ok-pieces.ensures.read x shows sound
    ∙ ap₂ (λ (text : List ℕ) (day : ℤ). map pieces_in (filter (is_on text day) (entries x.now.builds))) (c.as_str.ensures.value ∙ c.in_ok-text.ensures.text) (to_z-of_z day_fits ∙ c.day_number-day.ensures.value) in
    c.count_loaded.ensures ∙ ap (λ (all : List ℤ). length (filter (int_lt (pos 0)) all)) read
    ∙ number_is x.now.builds book c.args.flight.now c.flight_text.ensures.designator are)
