use Rattle.ffm_text.proofs.Common.{List, [], ap, codes, flight_line_text, line_text, load_line, map, ℕ, ◌++◌, ◌∙◌, ◌∷◌}
use Rattle.ffm_text.proofs.Appended.{sent_last, sent_next, sent_others}
use Rattle.ffm_text.proofs.writing.put_manifest.Goals as goal

pub returns-clause-text : goal.returns-clause-text
returns-clause-text c =
    let old = c.args.out.now.items in
    let head : List (List ℕ) = codes "FFM/8" ∷ [] in
    let flight : List (List ℕ) = head ++ flight_line_text c.args.flight c.args.date c.args.here ∷ [] in
    let unload : List (List ℕ) = flight ++ c.args.unload ∷ [] in
    let loads : List (List ℕ) = unload ++ map load_line c.args.loads.now in
    let second = sent_next head (flight_line_text c.args.flight c.args.date c.args.here) old c.put_line.new.out.items c.put_flight_line.new.out.items
    c.in_ok-put_line.ensures.text c.in_ok-put_flight_line.ensures.text in
    let third = sent_next flight c.args.unload old c.put_flight_line.new.out.items c.put_line-2.new.out.items second
    (c.in_ok-put_line-2.ensures.text ∙ ap (λ t. c.put_flight_line.new.out.items ++ line_text t) c.letters.ensures.value) in
    let others = sent_others unload (map load_line c.args.loads.now) old c.put_line-2.new.out.items c.put_loads.new.out.items third c.in_ok-put_loads.ensures.text in
    sent_last c.put_line-3.result loads (codes "LAST") old c.put_loads.new.out.items c.put_line-3.new.out.items others c.put_line-3.ensures.text
