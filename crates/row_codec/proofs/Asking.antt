-- What is asked of the tables is what is asked of a station.
use Rattle.std.proofs.Common.{◌≡◌, ℕ, ◌-◌, ℤ, pos, sym, ap, ◌∙◌, map, filter}
use Rattle.row_codec.proofs.Common.{FlightDate, Global, IsTrue, String, book_by, book_row_by, flight_text, is_designator, is_flown, is_line_after, is_line_of, is_move_after, is_of, string_bytes, trail_by, trail_row_by}
use Rattle.station_core.specs.declared.rows.BookQuery.{BookQuery}
use Rattle.station_core.specs.declared.rows.BookQuery.TheVariants as query
use Rattle.station_core.specs.declared.rows.TrailQuery.{TrailQuery}
use Rattle.station_core.specs.declared.rows.TrailQuery.TheVariants as trail
use Rattle.station_rows.specs.declared.moves.MoveQuery.TheVariants as asked
use Rattle.station_rows.specs.declared.trail.LineQuery.TheVariants as lines
use Rattle.row_codec.specs.Stored.{AsksMoves, AsksLines}
use Rattle.row_codec.proofs.Handing.{book_after, book_handed, book_last, book_of, book_on, trail_after, trail_handed, trail_last, trail_of}

pub asks_all : (count : ℕ) → AsksMoves query.All count asked.All
asks_all count t s means is = book_handed t s means

pub asks_after : (n count : ℕ) (z : ℤ) → z ≡ pos n → AsksMoves (query.After n) count (asked.After z)
asks_after n count z e t s means is = ap (λ z. map book_row_by (filter (is_move_after z) t.moves)) e ∙ book_after t s means n

pub asks_last : (n count k : ℕ) (z : ℤ) → k ≡ count - n → z ≡ pos k → AsksMoves (query.Last n) count (asked.After z)
asks_last n count k z left e t s means is = ap (λ z. map book_row_by (filter (is_move_after z) t.moves)) (e ∙ ap pos left) ∙ book_last t s means count n is

pub asks_of : (q : BookQuery) (w count : ℕ) (z : ℤ) → q ≡ query.Of w → z ≡ pos w → AsksMoves q count (asked.Of z)
asks_of q w count z one e t s means is =
    ap (λ z. map book_row_by (filter (is_of z) t.moves)) e ∙ book_of t s means w ∙ ap (λ q. book_by q s.cargo) (sym one)

pub asks_on : (q : BookQuery) (f : FlightDate) (count : ℕ) (text : String Global) (z : ℤ) → q ≡ query.On f → IsTrue (is_designator f.flight) → string_bytes text ≡ flight_text f.flight → z ≡ pos f.day
    → AsksMoves q count (asked.On text z)
asks_on q f count text z one named written e t s means is =
    ap (λ b. map book_row_by (filter (is_flown b z) t.moves)) written
    ∙ ap (λ z. map book_row_by (filter (is_flown (flight_text f.flight) z) t.moves)) e
    ∙ book_on t s means f named
    ∙ ap (λ q. book_by q s.cargo) (sym one)

pub asks_all_lines : (count : ℕ) → AsksLines trail.All count lines.All
asks_all_lines count t s means is = trail_handed t s means

pub asks_lines_after : (n count : ℕ) (z : ℤ) → z ≡ pos n → AsksLines (trail.After n) count (lines.After z)
asks_lines_after n count z e t s means is = ap (λ z. map trail_row_by (filter (is_line_after z) t.trail)) e ∙ trail_after t s means n

pub asks_last_lines : (n count k : ℕ) (z : ℤ) → k ≡ count - n → z ≡ pos k → AsksLines (trail.Last n) count (lines.After z)
asks_last_lines n count k z left e t s means is = ap (λ z. map trail_row_by (filter (is_line_after z) t.trail)) (e ∙ ap pos left) ∙ trail_last t s means count n is

pub asks_lines_of : (q : TrailQuery) (w count : ℕ) (z : ℤ) → q ≡ trail.Of w → z ≡ pos w → AsksLines q count (lines.Of z)
asks_lines_of q w count z one e t s means is =
    ap (λ z. map trail_row_by (filter (is_line_of z) t.trail)) e ∙ trail_of t s means w ∙ ap (λ q. trail_by q s.cargo) (sym one)
