use Rattle.std.proofs.Common.{◌≡◌, ◌∙◌, ℕ, ℤ, List, sym, ap, ap₂, subst, map, rules, FitsSigned, w64, to_z-of_z}
use Rattle.row_codec.proofs.Common.{All, Build, BuildKey, Built, Load, build_meant, entries, filter, is_loaded, is_on, load_said, row_said, running}
use Rattle.row_codec.proofs.FlightRows.{loads_are, loads_sums}
use Rattle.row_codec.proofs.Stores.{made_of}
use Rattle.row_codec.proofs.loading.aboard.Goals as goal

pub returns-clause-reads : goal.returns-clause-reads
returns-clause-reads g c = made_of (g.S.TableStore.view c.args.store.now) _ _ _ c.in_ok-rows.ensures (λ x shows sound book are.
    let day_fits : FitsSigned w64 c.day_number-day.result = search rules in
    let read = ap (map build_meant) c.deref.ensures.value ∙ c.in_ok-rows.ensures.read x shows sound
    ∙ ap₂ (λ (text : List ℕ) (day : ℤ). filter (is_on text day) (entries x.now.builds)) (c.as_str.ensures.value ∙ c.in_ok-text.ensures.text) (to_z-of_z day_fits ∙ c.day_number-day.ensures.value) in
    let said = c.in_ok-loads.ensures ∙ ap (λ (l : List (BuildKey × Build)). filter is_loaded (map row_said l)) read in (
      loads_are x.now.builds book c.args.flight.now c.flight_text.ensures.designator are c.in_ok-loads.loads.items said,
      λ was. record {
        counts = was.counts;
        builds = c.sums_of.ensures (running book) (subst (All (λ (l : Load). (load_said l).1 ≡ running book l.awb (Built c.args.flight.now))) (sym c.deref-2.ensures.value)
            (loads_sums x.now.builds book c.args.flight.now c.flight_text.ensures.designator are c.in_ok-loads.loads.items said));
      },
    ))
