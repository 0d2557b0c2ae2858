use Rattle.telegrams.proofs.Common.{List, StatusLine, ap, fsu_fault, is_line, length, line_texts, list_all, map, subst, sym, true, ℕ, ◌∙◌, ◌≡◌, ◌≤◌}
use Rattle.telegrams.proofs.Bounds.{fsu_within, told_within}
use Rattle.telegrams.proofs.PlainLines.{few_texts, plain_trail, few_trail}
use Rattle.telegrams.proofs.content.fsu_content.Goals as goal

pub refusal-requires : goal.refusal-requires
refusal-requires c =
    told_within (fsu_fault (line_texts c.args.lines.now)) c.in-Err.told (length (line_texts c.args.lines.now)) 1000 (fsu_within (line_texts c.args.lines.now))
    (few_texts c.args.lines.now.lines.items c.args.lines.now.few) c.in-Err.ensures.fault

pub new-requires : goal.new-requires
new-requires c =
    let same = c.in-Ok-trail_lines.ensures ∙ ap (map (λ (l : StatusLine). l.text.text.now)) c.as_slice.ensures.value in
    record {
      few = subst (λ (ls : List (List ℕ)). length ls ≤ 1000) (sym same) (few_trail c.args.lines.now.lines.items c.in-Ok.message.trail.items c.args.lines.now.few c.in-Ok.ensures.spans.trail);
      printable = subst (λ (ls : List (List ℕ)). list_all is_line ls ≡ true) (sym same)
          (plain_trail c.args.lines.now.lines.items c.in-Ok.message.trail.items c.args.lines.now.printable c.in-Ok.ensures.spans.trail);
    }
