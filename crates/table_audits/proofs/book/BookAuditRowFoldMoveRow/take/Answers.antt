use Rattle.table_audits.proofs.Common.{IsBookAs, map, move_meant, subst}
use Rattle.table_audits.proofs.TakenMoves.{bad_before, book_taken}
use Rattle.table_audits.proofs.book.BookAuditRowFoldMoveRow.take.Goals as goal

pub returns-then-not-self : goal.returns-then-not-self
returns-then-not-self c = λ rows taken t by. bad_before t rows c.args.row c.args.self.now c.args.self.now.are_good c.if-not-self.true (taken t by)

pub returns-in-Some : goal.returns-in-Some
returns-in-Some c = λ rows taken.
    book_taken c.args.beside.now rows c.args.row c.args.self.now c.add.new.self c.add.result c.if-not-self.false c.add.ensures.good
    (λ t by.
    let was = subst (IsBookAs t (map move_meant rows) c.args.self.now) c.if-not-self.false (taken t by) in
    let next = c.in-Some.ensures t (map move_meant rows) by was in
    c.add.ensures.book t c.args.beside.now (map move_meant rows) (move_meant c.args.row) by was next.0 next.1)
