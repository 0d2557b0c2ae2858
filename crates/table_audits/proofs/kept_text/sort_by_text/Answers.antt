use Rattle.table_audits.proofs.Common.{answers_always, is_lt, kept_text_cmp, kept_text_total, part_entry, rules}
use Rattle.std.proofs.lemmas.List.Sorted.{ranks_by}
use Rattle.table_load.specs.declared.part.PartEntry.{PartEntry}
use Rattle.table_audits.proofs.kept_text.sort_by_text.Goals as goal

pub returns-clause-by_text : goal.returns-clause-by_text
returns-clause-by_text c = c.sort_unstable_by.ensures.sorted (λ (a b : PartEntry). is_lt (kept_text_cmp (part_entry a).1 (part_entry b).1)) (ranks_by kept_text_total (λ (part : PartEntry). (part_entry part).1)) (answers_always _ _ _ (λ f a r g h. search rules))
