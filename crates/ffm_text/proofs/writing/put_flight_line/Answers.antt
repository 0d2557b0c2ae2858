use Rattle.ffm_text.proofs.Common.{List, OnOk, [], ap, codes, date_text, flight_text, line_text, subst, ℕ, ◌++◌, ◌∙◌, ◌∷◌, ◌≡◌}
use Rattle.ffm_text.proofs.Appended.{joined, joined_line}
use Rattle.ffm_text.proofs.writing.put_flight_line.Goals as goal

pub returns-clause-text : goal.returns-clause-text
returns-clause-text c =
    let old = c.args.out.now.items in
    let part = codes "1/" ++ flight_text c.args.flight in
    let dated = part ++ (47 ∷ []) ++ date_text c.args.date in
    let flight = joined old c.put.new.out.items c.put-2.new.out.items (codes "1/") (flight_text c.args.flight) c.in_ok-put.ensures.text
    (c.in_ok-put-2.ensures.text ∙ ap (λ t. c.put.new.out.items ++ t) c.write-end.ensures.text) in
    let slash = joined old c.put-2.new.out.items c.put-3.new.out.items part (47 ∷ []) flight c.in_ok-put-3.ensures.text in
    let date = joined old c.put-3.new.out.items c.put-4.new.out.items (part ++ (47 ∷ [])) (date_text c.args.date) slash
    (c.in_ok-put-4.ensures.text ∙ ap (λ t. c.put-3.new.out.items ++ t) c.write.ensures.text) in
    let last = joined old c.put-4.new.out.items c.put-5.new.out.items dated (47 ∷ []) date c.in_ok-put-5.ensures.text in
    joined_line c.put_line.result old c.put-5.new.out.items c.put_line.new.out.items (dated ++ (47 ∷ [])) c.args.here last
    (subst (λ (t : List ℕ). OnOk c.put_line.result (c.put_line.new.out.items ≡ c.put-5.new.out.items ++ line_text t)) c.letters.ensures.value c.put_line.ensures.text)
