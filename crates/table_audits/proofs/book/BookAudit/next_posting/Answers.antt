use Rattle.table_audits.proofs.Common.{IsNextOr, ap, is_marked, move_meant, pos, rules, subst, sym, to_z-of_z, true≢false, w64, ◌+◌, ◌∙◌}
use Rattle.table_audits.proofs.ClosedLaws.{listed_distinct}
use Rattle.table_audits.proofs.TakenMoves.{read_as, number_next, row_next, builds_late, good_more}
use Rattle.table_audits.proofs.book.BookAudit.next_posting.Goals as goal

pub returns-then-not-is_next : goal.returns-then-not-is_next
returns-then-not-is_next c = λ t moves by was good.
    true≢false (sym (c.is_next.ensures.1 (to_z-of_z w64 c.args.row.now.number (search rules) ∙ number_next t moves (move_meant c.args.row.now) good ∙ ap (λ n. pos (n + 1)) (sym was.counted))) ∙ c.if-not-is_next.true)

pub returns-in_err-posting : goal.returns-in_err-posting
returns-in_err-posting c = λ t moves by was.
    let there = read_as t c.args.beside.now c.deref.result.now c.deref-2.result.now c.deref.ensures.value c.deref-2.ensures.value by in
    subst (IsNextOr t moves (move_meant c.args.row.now)) (sym c.from_residual.ensures) (λ good. c.in_err-posting.ensures t there (row_next t moves (move_meant c.args.row.now) good))

pub returns-then-is_marked : goal.returns-then-is_marked
returns-then-is_marked c = λ t moves by was good.
    let there = read_as t c.args.beside.now c.deref.result.now c.deref-2.result.now c.deref.ensures.value c.deref-2.ensures.value by in
    let p = c.in_ok-posting.posting in
    let gone = ap (λ l. is_marked l p.to) (sym was.departed) ∙ ap (λ l. is_marked l p.to) (sym c.deref-3.ensures.value) ∙ sym c.is_marked.ensures ∙ c.if-is_marked.true in
    builds_late t (listed_distinct t by.within) moves (move_meant c.args.row.now) p (c.in_ok-posting.ensures t there) gone good

pub returns : goal.returns
returns c = λ t moves by was.
    let there = read_as t c.args.beside.now c.deref.result.now c.deref-2.result.now c.deref.ensures.value c.deref-2.ensures.value by in
    let p = c.in_ok-posting.posting in
    let free = ap (λ l. is_marked l p.to) (sym was.departed) ∙ ap (λ l. is_marked l p.to) (sym c.deref-3.ensures.value) ∙ sym c.is_marked.ensures ∙ c.if-is_marked.false in
    let posted = c.in_ok-posting.ensures t there in
    (good_more t (listed_distinct t by.within) moves (move_meant c.args.row.now) p posted was.good (sym (to_z-of_z w64 c.args.row.now.number (search rules)) ∙ c.is_next.ensures.0 c.if-not-is_next.false ∙ ap (λ n. pos (n + 1)) was.counted) free, posted.posted)
