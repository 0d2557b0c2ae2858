use Rattle.telegrams.proofs.Common.{List, Token, ap, is_text_byte, line_texts, list_all, map, normal_text, subst, sym, true, ℕ, ◌∙◌, ◌≡◌}
use Rattle.telegrams.proofs.PlainLines.{plain_normal, plain_texts}
use Rattle.telegrams.proofs.reading.text_of.Goals as goal

pub new-requires : goal.new-requires
new-requires c =
    subst (λ (t : List ℕ). list_all is_text_byte t ≡ true)
    (sym (c.in_ok-text.ensures ∙ ap (λ ts. normal_text (map (λ (t : Token). t.text.now) ts)) c.as_slice.ensures.value))
    (plain_normal (line_texts c.args.lines.now) (plain_texts c.args.lines.now.lines.items c.args.lines.now.printable))
