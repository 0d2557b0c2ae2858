use Rattle.row_codec.proofs.Common.{AreCounts, Count, FinMap, List, Move, count_cmp, count_meant, drop, entries, length, map, ◌-◌, ◌≡◌, ◌≤◌}
use Rattle.row_codec.proofs.EachWaybill.{Lists}
use Rattle.row_codec.proofs.listing.waybills_by.Given as goal

abbrev pub invariant-loop-start : goal.invariant-loop-start
invariant-loop-start l =
    (l.start ≤ length l.rows)
    × ((counts : FinMap count_cmp Count) (book : List Move) → map count_meant l.rows ≡ entries counts → AreCounts counts book → Lists counts book (drop l.start l.rows) l.all.items)

abbrev pub decreases-loop-start : goal.decreases-loop-start
decreases-loop-start l = length l.rows - l.start
