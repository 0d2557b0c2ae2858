use Rattle.std.proofs.Common.{◌≡◌, ◌≤◌, List, [], ◌∷◌, length, map, get_or, refl, subst, ap, ◌∙◌, arith}
use Rattle.std.specs.Prelude.{unwrap_or, slice_get}
use Rattle.imp_fields.specs.Message.{HasSpans}
use Rattle.imp_fields.specs.declared.line.Token.{Token}
use Rattle.fwb_text.proofs.reading.read.Goals as goal

-- the second line's text
second : (tokens : List Token) (d : Token) → 2 ≤ length tokens → (get_or tokens 1 d).text.now ≡ unwrap_or (slice_get (map (λ t. t.text.now) tokens) 1) []
second [] d le = absurd (omega (arith, le))
second (t ∷ []) d le = absurd (omega (arith, le))
second (t ∷ u ∷ tokens) d le = refl

pub returns-in-Ok-clause-spans : goal.returns-in-Ok-clause-spans
returns-in-Ok-clause-spans c =
    let long : 2 ≤ length c.as_slice-lines.result.now = omega arith in
    let text = second c.as_slice-lines.result.now _ long ∙ ap (λ (ts : List Token). unwrap_or (slice_get (map (λ t. t.text.now) ts) 1) []) c.as_slice-lines.ensures.value in
    subst (λ line. HasSpans line c.in-Ok.consignment) text c.in-Ok.ensures.spans
