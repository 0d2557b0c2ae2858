use Rattle.table_audits.proofs.Common.{listed_in, map, move_by}
use Rattle.table_audits.proofs.ClosedLaws.{listed_distinct}
use Rattle.table_audits.proofs.TakenMoves.{book_more}
use Rattle.table_audits.proofs.book.BookAudit.add.Goals as goal

pub returns-clause-book : goal.returns-clause-book
returns-clause-book c = λ t beside moves row by was good is.
    let distinct = listed_distinct t by.within in
    book_more t distinct moves row c.args.posting.now is good c.args.self.now _ was (c.in-Ok.ensures (listed_in t) (map move_by moves) (move_by row) distinct was.sums is) c.mark.ensures c.in_ok-self.ensures
