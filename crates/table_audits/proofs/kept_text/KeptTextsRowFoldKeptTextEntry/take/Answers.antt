use Rattle.table_audits.proofs.Common.{false, sym, ◌∙◌}
use Rattle.table_audits.proofs.KeptTextLaws.{row_in, row_out, texts_more}
use Rattle.table_audits.proofs.kept_text.KeptTextsRowFoldKeptTextEntry.take.Goals as goal

pub returns-then-is_in_range : goal.returns-then-is_in_range
returns-then-is_in_range c = λ rows sought.
    let past = rw (c.deref.ensures.value, c.deref-2.ensures) at c.past-self.ensures in
    texts_more c.args.parts.now.items rows c.args.row c.args.self.now c.past-self.result c.args.self.now.are_in_range sought past.range past.same past.other (row_in c.args.self.now.are_in_range _ (sym c.is_in_range.ensures ∙ c.if-is_in_range.true))

pub returns : goal.returns
returns c = λ rows sought.
    let past = rw (c.deref.ensures.value, c.deref-2.ensures) at c.past-self.ensures in
    texts_more c.args.parts.now.items rows c.args.row c.args.self.now c.past-self.result false sought past.range past.same past.other (row_out c.args.self.now.are_in_range _ (sym c.is_in_range.ensures ∙ c.if-is_in_range.false))
