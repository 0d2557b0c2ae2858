use Rattle.cli_run.proofs.Common.{IsTrue, List, Some, ap, refl, string, subst, sym, ℕ, ◌∙◌}
use Rattle.station_core.specs.Readers.{is_key}
use Rattle.cli_run.proofs.ActLines.{text_of}
use Rattle.cli_run.proofs.acts.frame.Goals as goal

pub returns-clause-some : goal.returns-clause-some
returns-clause-some c = record {
  members = sym c.in_ok-member_count.ensures ∙ ap (λ (n : ℕ). Some n) c.if-branch-ne3.false;
  verb_is = text_of _ c.in_ok-text_at.field-0.now c.in_ok-text_at.ensures ∙ ap (λ (t : List ℕ). Some (string t)) (sym (c.in_ok-verb.ensures.some ∙ c.as_bytes.ensures.value));
  key_is = text_of _ c.in_ok-text_at-2.field-0.now c.in_ok-text_at-2.ensures ∙ ap (λ (t : List ℕ). Some (string t)) (sym (c.in_ok-key.ensures.value ∙ c.as_bytes-2.ensures.value));
  valid = subst (λ (t : List ℕ). IsTrue (is_key t)) (sym c.in_ok-key.ensures.value) (c.in_ok-key.ensures.valid.0 refl);
  body_is = sym c.in_ok-body.ensures;
}
