use Rattle.std.proofs.Common.{drop, length, refl, subst, sym, ◌∙◌}
use Rattle.std.proofs.lemmas.List.{take_at}
use Rattle.std.specs.List.Sorted.{IsPermutation}
use Rattle.table_audits.specs.Taken.{AreByText}
use Rattle.table_audits.proofs.KeptTextLaws.{texts_taken}
use Rattle.table_audits.proofs.Tables.{missing, tested, kept_text_table}
use Rattle.table_audits.proofs.kept_text.is_good.Goals as goal

pub returns-in_default-clause-read : goal.returns-in_default-clause-read
returns-in_default-clause-read g c = λ clean up so_far knows. missing (kept_text_table _) so_far (rw c.in_default.is at c.in_ok-texts.ensures.read clean up)

pub returns-clause-read : goal.returns-clause-read
returns-clause-read g c = λ clean up so_far knows.
    let read = c.in_ok-texts.ensures.read clean up in
    let texts = rw c.in-Some.is at read.0 in
    let before = c.args.known.now.parts in
    let sorted = c.sort_by_text.new.parts in
    let kept = take_at sorted (drop (length sorted) before.items) before.len (c.sort_by_text.ensures.len ∙ c.deref_mut.ensures.len) in
    let same = subst (IsPermutation before.items) (sym kept) (rw c.deref_mut.ensures.value at c.sort_by_text.ensures.same) in
    let by_text = subst AreByText (sym kept) c.sort_by_text.ensures.by_text in
    let exact = rw c.deref.ensures.value at c.are_lawful-are_lawful.ensures.exact in
    (tested (kept_text_table _) so_far _ texts.1 c.are_lawful-are_lawful.result (λ t so is. exact t before.items texts.0 so.1.1.1.0.lawful (knows.3 t so.1.1.1) same is (texts_taken t _ texts.0 c.in-Some.texts is by_text texts.2)) (refl, (knows.0, knows.1, knows.2, knows.4, knows.5)), read.1)
