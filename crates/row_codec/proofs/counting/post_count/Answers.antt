use Rattle.std.proofs.Common.{sym, ap, subst, ◌∙◌, option_map, IfSome, rules, FitsSigned, w64, of_z, to_z, to_z-of_z}
use Rattle.row_codec.proofs.Common.{CountKey, IsRowOf, IsShowing, Tables, count_row, get, inside, pieces_found, posting_count, running_in, storing_count}
use Rattle.row_codec.proofs.Stores.{row_posted, survives_on}
use Rattle.row_codec.proofs.counting.post_count.Goals as goal

pub returns-clause-done : goal.returns-clause-done
returns-clause-done g c before now shows right =
    let view = g.S.TableStore.view in
    let key : CountKey = (to_z w64 (of_z w64 c.args.awb), to_z w64 (of_z w64 c.args.place)) in
    let known = subst (λ (k : CountKey). IfSome c.args.known (IsRowOf running_in (get now.counts k))) (λ i. (sym (to_z-of_z c.ranges.awb) i, sym (to_z-of_z c.ranges.place) i)) right in
    let posted = row_posted (λ (t : Tables). t.counts) running_in count_row storing_count (view c.counted.new.store) (view c.put_count.new.store) before now key c.args.by c.in_ok-found.found c.in_ok-sum.sum c.is_some.result
    c.put_count.ensures.survives
    (λ sound. c.in_ok-found.ensures.read (inside before now) shows known sound)
    c.is_some.ensures c.in_ok-sum.ensures
    (c.in_ok-put_count.ensures.done before now (c.in_ok-found.ensures.same (inside before now) shows)) in
    subst (λ (k : CountKey). IsShowing (view c.put_count.new.store) (inside before (posting_count k c.args.by now))) (λ i. (to_z-of_z c.ranges.awb i, to_z-of_z c.ranges.place i)) posted

pub returns-clause-survives : goal.returns-clause-survives
returns-clause-survives g c =
    let view = g.S.TableStore.view in
    survives_on (view c.args.store.now) (view c.counted.new.store) (view c.put_count.new.store) c.counted.ensures.survives c.put_count.ensures.survives

pub returns-clause-before : goal.returns-clause-before
returns-clause-before g c seen shows right sound =
    let fits : FitsSigned w64 c.pieces_found.result = search rules in
    let known = subst (λ (k : CountKey). IfSome c.args.known (IsRowOf running_in (get seen.now.counts k))) (λ i. (sym (to_z-of_z c.ranges.awb) i, sym (to_z-of_z c.ranges.place) i)) right in
    to_z-of_z fits ∙ c.pieces_found.ensures
    ∙ ap pieces_found (c.in_ok-found.ensures.read seen shows known (c.put_count.ensures.survives.sound sound))
    ∙ ap (λ (k : CountKey). pieces_found (option_map running_in (get seen.now.counts k))) (λ i. (to_z-of_z c.ranges.awb i, to_z-of_z c.ranges.place i))
