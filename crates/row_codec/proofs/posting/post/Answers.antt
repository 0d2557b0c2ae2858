use Rattle.std.proofs.Common.{IfSome, ◌≡◌, ◌∙◌, pos, refl, sym, ap, subst, rules, FitsSigned, w64, to_z, of_z, to_z-of_z}
use Rattle.row_codec.proofs.Common.{BuildKey, Built, CountKey, Keeps, Place, build_row, count_row, flight_text, inside, place_code, posting, running_in, running_on}
use Rattle.row_codec.proofs.Codes.{plain_by}
use Rattle.row_codec.proofs.Storing.{known_there, pieces_there}
use Rattle.row_codec.proofs.TotalsKept.{keeps_count, keeps_build, count_kept, build_kept}
use Rattle.row_codec.proofs.posting.post.Goals as goal

pub returns-in_ok-aboard-clause-done : goal.returns-in_ok-aboard-clause-done
returns-in_ok-aboard-clause-done g c before now sums k known =
    let view = g.S.TableStore.view in
    let number_fits : FitsSigned w64 c.awb_key-number.result = search rules in
    let day_fits : FitsSigned w64 c.day_number-day.result = search rules in
    let key : BuildKey = (c.as_str.result.now, (to_z w64 (of_z w64 c.day_number-day.result), to_z w64 (of_z w64 c.awb_key-number.result))) in
    let at : key ≡ (flight_text c.in-Built.flight.flight, (pos c.in-Built.flight.day, pos c.args.awb.now)) =
    λ i. ((c.as_str.ensures.value ∙ c.in_ok-text.ensures.text) i, ((to_z-of_z day_fits ∙ c.day_number-day.ensures.value) i, (to_z-of_z number_fits ∙ c.awb_key-number.ensures.value) i)) in
    let right = known_there build_row running_on (λ r. refl) _ _ (build_kept (view c.args.store.now) before now sums c.args.awb.now c.in-Built.flight key c.flight_text.ensures.designator at k)
    c.at-sum.result (subst (λ (p : Place). IfSome c.at-sum.result (λ t. t ≡ sums c.args.awb.now p)) c.in-Built.is (c.at-sum.ensures sums known)) in
    subst (λ (p : Place). Keeps (view c.post_build.new.store) before now (posting c.args.awb.now p c.args.by sums)) (sym c.in-Built.is)
    (keeps_build (view c.args.store.now) (view c.post_build.new.store) before now sums c.args.awb.now c.in-Built.flight c.args.by key c.flight_text.ensures.designator at k
    (c.in_ok-aboard.ensures.done before (record now { counts = k.counts; builds = k.builds }) k.shows right))

pub returns-in_ok-there-clause-done : goal.returns-in_ok-there-clause-done
returns-in_ok-there-clause-done g c before now sums k known =
    let view = g.S.TableStore.view in
    let number_fits : FitsSigned w64 c.awb_key-number.result = search rules in
    let code_fits : FitsSigned w64 c.place_code-code.result = search rules in
    let key : CountKey = (to_z w64 (of_z w64 c.awb_key-number.result), to_z w64 (of_z w64 c.place_code-code.result)) in
    let at : key ≡ (pos c.args.awb.now, pos (place_code c.args.place.now)) = λ i. ((to_z-of_z number_fits ∙ c.awb_key-number.ensures.value) i, (to_z-of_z code_fits ∙ c.place_code-code.ensures) i) in
    let plain = plain_by c.args.place.now c.in_default.not-Built in
    keeps_count (view c.args.store.now) (view c.post_count.new.store) before now sums c.args.awb.now c.args.place.now c.args.by key plain at k
    (c.in_ok-there.ensures.done before (record now { counts = k.counts; builds = k.builds }) k.shows
    (known_there count_row running_in (λ r. refl) _ _ (count_kept (view c.args.store.now) before now sums c.args.awb.now c.args.place.now key plain at k) c.at-sum.result (c.at-sum.ensures sums known)))

pub returns-in_ok-aboard-clause-before : goal.returns-in_ok-aboard-clause-before
returns-in_ok-aboard-clause-before g c before now sums k known sound =
    let number_fits : FitsSigned w64 c.awb_key-number.result = search rules in
    let day_fits : FitsSigned w64 c.day_number-day.result = search rules in
    let fits : FitsSigned w64 c.in_ok-aboard.aboard = search rules in
    let key : BuildKey = (c.as_str.result.now, (to_z w64 (of_z w64 c.day_number-day.result), to_z w64 (of_z w64 c.awb_key-number.result))) in
    let found = build_kept (g.S.TableStore.view c.args.store.now) before now sums c.args.awb.now c.in-Built.flight key c.flight_text.ensures.designator
    (λ i. ((c.as_str.ensures.value ∙ c.in_ok-text.ensures.text) i, ((to_z-of_z day_fits ∙ c.day_number-day.ensures.value) i, (to_z-of_z number_fits ∙ c.awb_key-number.ensures.value) i))) k in
    let right = known_there build_row running_on (λ r. refl) _ _ found
    c.at-sum.result (subst (λ (p : Place). IfSome c.at-sum.result (λ t. t ≡ sums c.args.awb.now p)) c.in-Built.is (c.at-sum.ensures sums known)) in
    to_z-of_z fits ∙ c.in_ok-aboard.ensures.before (inside before (record now { counts = k.counts; builds = k.builds })) k.shows right sound
    ∙ pieces_there build_row running_on (λ r. refl) (sums c.args.awb.now (Built c.in-Built.flight)) _ found ∙ ap (λ (p : Place). (sums c.args.awb.now p).pieces) (sym c.in-Built.is)

pub returns-in_ok-there-clause-before : goal.returns-in_ok-there-clause-before
returns-in_ok-there-clause-before g c before now sums k known sound =
    let number_fits : FitsSigned w64 c.awb_key-number.result = search rules in
    let code_fits : FitsSigned w64 c.place_code-code.result = search rules in
    let fits : FitsSigned w64 c.in_ok-there.there = search rules in
    let key : CountKey = (to_z w64 (of_z w64 c.awb_key-number.result), to_z w64 (of_z w64 c.place_code-code.result)) in
    let found = count_kept (g.S.TableStore.view c.args.store.now) before now sums c.args.awb.now c.args.place.now key (plain_by c.args.place.now c.in_default.not-Built)
    (λ i. ((to_z-of_z number_fits ∙ c.awb_key-number.ensures.value) i, (to_z-of_z code_fits ∙ c.place_code-code.ensures) i)) k in
    to_z-of_z fits
    ∙ c.in_ok-there.ensures.before (inside before (record now { counts = k.counts; builds = k.builds })) k.shows
    (known_there count_row running_in (λ r. refl) _ _ found c.at-sum.result (c.at-sum.ensures sums known)) sound
    ∙ pieces_there count_row running_in (λ r. refl) (sums c.args.awb.now c.args.place.now) _ found
