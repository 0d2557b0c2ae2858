use Rattle.table_audits.proofs.Common.{listed_in, refl, ◌∙◌}
use Rattle.table_audits.proofs.ClosedLaws.{listed_long}
use Rattle.table_audits.proofs.TakenMoves.{book_of_none}
use Rattle.table_audits.proofs.book.BookAudit.new.Goals as goal

pub returns : goal.returns
returns c = λ beside long t by. book_of_none t _ c.args.flights refl (c.new.ensures (listed_in t)) c.in_ok-departed.ensures (listed_long t beside.flights.items by.flights_are ∙ long)
