use Rattle.desk_client.proofs.Common.{List, Some, [], ap, codes, decimal, service_text, sym, ℕ, ◌++◌, ◌∷◌, ◌≡◌}
use Rattle.desk_client.proofs.Telling.{gone_on, stopped}
use Rattle.desk_client.proofs.status.tell_why.Goals as goal

whole_is : (port : ℕ) (digits why : List ℕ) → digits ≡ decimal port
    → service_text port (Some why) ≡ codes "fault service\nport " ++ (digits ++ (codes ": " ++ why ++ 10 ∷ []))
whole_is port digits why is = ap (λ (d : List ℕ). codes "fault service\nport " ++ (d ++ (codes ": " ++ why ++ 10 ∷ []))) (sym is)

pub returns-in-Ok : goal.returns-in-Ok
returns-in-Ok g c =
    gone_on (service_text c.args.port (Some c.args.why.now)) (codes "fault service\nport ") (c.format-digits.result.now ++ (codes ": " ++ c.args.why.now ++ 10 ∷ []))
    (g.E.ByteOut.taken c.args.errors.now) (g.E.ByteOut.taken c.send_part.new.writer) (g.E.ByteOut.taken c.tell_parts.new.errors)
    (whole_is c.args.port c.format-digits.result.now c.args.why.now c.format-digits.ensures.text) c.in-Ok.ensures.all c.in-Ok.ensures.untroubled c.tell_parts.ensures

pub returns-in-Err : goal.returns-in-Err
returns-in-Err g c =
    stopped (service_text c.args.port (Some c.args.why.now)) (codes "fault service\nport ") (c.format-digits.result.now ++ (codes ": " ++ c.args.why.now ++ 10 ∷ []))
    (g.E.ByteOut.taken c.args.errors.now) (g.E.ByteOut.taken c.send_part.new.writer)
    (whole_is c.args.port c.format-digits.result.now c.args.why.now c.format-digits.ensures.text) c.in-Err.ensures.sent c.in-Err.ensures.cause
