use Rattle.std.proofs.Common.{sym, IfSome, ap, subst, ◌∙◌, option_map, rules, FitsSigned, w64, of_z, to_z, to_z-of_z}
use Rattle.row_codec.proofs.Common.{BuildKey, IsRowOf, IsShowing, Tables, build_row, get, inside, pieces_found, posting_build, running_on, storing_build}
use Rattle.row_codec.proofs.Stores.{row_posted, survives_on}
use Rattle.row_codec.proofs.building.post_build.Goals as goal

pub returns-clause-done : goal.returns-clause-done
returns-clause-done g c before now shows right =
    let view = g.S.TableStore.view in
    let key : BuildKey = (c.args.flight.now, (to_z w64 (of_z w64 c.args.day), to_z w64 (of_z w64 c.args.awb))) in
    let known = subst (λ (k : BuildKey). IfSome c.args.known (IsRowOf running_on (get now.builds k))) (λ i. (c.args.flight.now, (sym (to_z-of_z c.ranges.day) i, sym (to_z-of_z c.ranges.awb) i))) right in
    let posted = row_posted (λ (t : Tables). t.builds) running_on build_row storing_build (view c.carried.new.store) (view c.put_build.new.store) before now key c.args.by c.in_ok-found.found c.in_ok-sum.sum c.is_some.result
    c.put_build.ensures.survives
    (λ sound. c.in_ok-found.ensures.read (inside before now) shows known sound)
    c.is_some.ensures c.in_ok-sum.ensures
    (c.in_ok-put_build.ensures.done before now (c.in_ok-found.ensures.same (inside before now) shows)) in
    subst (λ (k : BuildKey). IsShowing (view c.put_build.new.store) (inside before (posting_build k c.args.by now))) (λ i. (c.args.flight.now, (to_z-of_z c.ranges.day i, to_z-of_z c.ranges.awb i))) posted

pub returns-clause-survives : goal.returns-clause-survives
returns-clause-survives g c =
    let view = g.S.TableStore.view in
    survives_on (view c.args.store.now) (view c.carried.new.store) (view c.put_build.new.store) c.carried.ensures.survives c.put_build.ensures.survives

pub returns-clause-before : goal.returns-clause-before
returns-clause-before g c seen shows right sound =
    let fits : FitsSigned w64 c.pieces_found.result = search rules in
    let known = subst (λ (k : BuildKey). IfSome c.args.known (IsRowOf running_on (get seen.now.builds k))) (λ i. (c.args.flight.now, (sym (to_z-of_z c.ranges.day) i, sym (to_z-of_z c.ranges.awb) i))) right in
    to_z-of_z fits ∙ c.pieces_found.ensures
    ∙ ap pieces_found (c.in_ok-found.ensures.read seen shows known (c.put_build.ensures.survives.sound sound))
    ∙ ap (λ (k : BuildKey). pieces_found (option_map running_on (get seen.now.builds k))) (λ i. (c.args.flight.now, (to_z-of_z c.ranges.day i, to_z-of_z c.ranges.awb i)))
