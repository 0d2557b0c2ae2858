use Rattle.std.proofs.Common.{◌≡◌}
use Rattle.std.specs.List.{AllWithin}
use Rattle.table_audits.specs.Common.{part_entry}
use Rattle.table_load.specs.declared.part.PartEntry.{PartEntry}
use Rattle.table_audits.proofs.kept_text.past.Given as goal

-- the parts so far have the text
abbrev pub invariant-loop-at : goal.invariant-loop-at
invariant-loop-at l = AllWithin (λ (part : PartEntry). (part_entry part).1 ≡ l.text) l.parts l.from l.at
