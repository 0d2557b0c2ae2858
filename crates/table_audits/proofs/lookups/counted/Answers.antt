use Rattle.table_audits.proofs.Common.{ap, pos, rules, sym, to_z-of_z, true≢false, w64, ◌+◌, ◌∙◌}
use Rattle.table_audits.proofs.Taken.{one_sound, last_number, counted_more}
use Rattle.table_audits.proofs.lookups.counted.Goals as goal

pub returns-then-not-is_next : goal.returns-then-not-is_next
returns-then-not-is_next c = λ rows are count sound.
    true≢false (sym (c.is_next.ensures.1 (to_z-of_z w64 c.args.number (search rules) ∙ last_number rows c.args.number c.args.is_lawful sound ∙ ap (λ n. pos (n + 1)) (sym count))) ∙ c.if-not-is_next.true)

pub returns : goal.returns
returns c = λ rows are count. (
  one_sound rows c.args.number c.args.is_lawful are c.if-not-is_lawful.false (sym (to_z-of_z w64 c.args.number (search rules)) ∙ c.is_next.ensures.0 c.if-not-is_next.false ∙ ap (λ n. pos (n + 1)) count),
  counted_more rows (c.args.number, c.args.is_lawful) c.args.count _ count c.in_ok-one_more.ensures,
)
