use Rattle.telegrams.proofs.Common.{FfmLine, List, ap, arith, ffm_fault, has_plain_cargo, inbound_line, length, length-map, line_texts, list_all, manifest_of, map, refl, subst, sym, true, unloaded_of, ◌∙◌, ◌≡◌}
use Rattle.telegrams.proofs.Bounds.{ffm_within, told_within}
use Rattle.telegrams.proofs.PlainLines.{few_texts, plain_cargo, few_cargo, same_lines, same_part}
use Rattle.telegrams.proofs.content.ffm_content.Goals as goal

pub refusal-requires : goal.refusal-requires
refusal-requires c =
    told_within (ffm_fault (line_texts c.args.lines.now)) c.in-Err.told (length (line_texts c.args.lines.now)) 1000 (ffm_within (line_texts c.args.lines.now))
    (few_texts c.args.lines.now.lines.items c.args.lines.now.few) c.in-Err.ensures.fault

pub inbound_lines-requires : goal.inbound_lines-requires
inbound_lines-requires c =
    subst (λ (ls : List FfmLine). list_all has_plain_cargo ls ≡ true) (sym c.as_slice.ensures.value)
    (plain_cargo c.args.lines.now.lines.items c.in-Ok.part.cargo.items c.args.lines.now.printable c.in-Ok.ensures.spans)

pub new-requires : goal.new-requires
new-requires c =
    let few = few_cargo c.args.lines.now.lines.items c.in-Ok.part.cargo.items c.args.lines.now.few c.in-Ok.ensures.spans in
    let same = ap length c.in-Ok-inbound_lines.ensures in
    let sliced = ap length c.as_slice.ensures.value in
    omega (arith, few, same, sliced, length-map c.as_slice.result.now (λ (l : FfmLine). inbound_line (unloaded_of l)))

pub returns-in-Ok-inbound_lines-clause-said : goal.returns-in-Ok-inbound_lines-clause-said
returns-in-Ok-inbound_lines-clause-said c = (
  refl,
  (
    manifest_of c.in-Ok.part,
    c.in-Ok.ensures.read,
    same_part c.in-Ok.part c.new.result
        (c.new.ensures ∙ c.in-Ok-inbound_lines.ensures ∙ ap (map (λ (l : FfmLine). inbound_line (unloaded_of l))) c.as_slice.ensures.value ∙ same_lines c.in-Ok.part.cargo.items),
  ),
)
