-- What one move more makes of the sums.
use Rattle.row_codec.proofs.Common.{Bool, List, Move, Place, Sums, Tally, [], ap₂, arith, balance, brings, come, cond, false, gone, ints, moved_in, moved_out, neg_ℤ, pieces_of, plus, pos, posting, refl, running, same_place, sym, takes, tenths_of, true, ℕ, ℤ, ◌&&◌, ◌++◌, ◌+ℤ◌, ◌+◌, ◌-ℤ◌, ◌==◌, ◌∙◌, ◌∷◌, ◌≡◌}
use Rattle.std.proofs.lemmas.List.Sums.{sum_by_push}

difference : (x y a b : ℕ) → pos (x + a) -ℤ pos (y + b) ≡ (pos x -ℤ pos y) +ℤ neg_ℤ (pos b) +ℤ pos a
difference x y a b = omega (arith, ints)

pub balance_then : (measure : Move → ℕ) (book : List Move) (m : Move) (w : ℕ) (there : Place → Bool)
    → balance measure (book ++ m ∷ []) w there ≡ balance measure book w there +ℤ neg_ℤ (pos (takes measure w there m)) +ℤ pos (brings measure w there m)
balance_then measure book m w there =
    ap₂ (λ x y. pos x -ℤ pos y) (sum_by_push (brings measure w there) book m) (sum_by_push (takes measure w there) book m)
    ∙ difference (moved_in measure book w there) (moved_out measure book w there) (brings measure w there m) (takes measure w there m)

kept : (z : ℤ) → z +ℤ neg_ℤ (pos 0) +ℤ pos 0 ≡ z
kept z = omega (arith, ints)

less : (z : ℤ) (n : ℕ) → z +ℤ neg_ℤ (pos n) +ℤ pos 0 ≡ z +ℤ neg_ℤ (pos n)
less z n = omega (arith, ints)

pub more : (z : ℤ) (n : ℕ) → z +ℤ neg_ℤ (pos 0) +ℤ pos n ≡ z +ℤ pos n
more z n = omega (arith, ints)

moved : (r : Tally) (m : Move) (to from : Bool)
    → ◌≡◌ {A = Tally} (record { pieces = r.pieces +ℤ neg_ℤ (pos (cond from m.pieces 0)) +ℤ pos (cond to m.pieces 0); tenths = r.tenths +ℤ neg_ℤ (pos (cond from m.tenths 0)) +ℤ pos (cond to m.tenths 0) })
    (cond to (plus (cond from (plus r (gone m)) r) (come m)) (cond from (plus r (gone m)) r))
moved r m true true = refl
moved r m true false = λ i. record { pieces = more r.pieces m.pieces i; tenths = more r.tenths m.tenths i }
moved r m false true = λ i. record { pieces = less r.pieces m.pieces i; tenths = less r.tenths m.tenths i }
moved r m false false = λ i. record { pieces = kept r.pieces i; tenths = kept r.tenths i }

running_then : (book : List Move) (m : Move) (w : ℕ) (p : Place) → running (book ++ m ∷ []) w p ≡ posting m.awb m.to (come m) (posting m.awb m.from (gone m) (running book)) w p
running_then book m w p =
    let each : ◌≡◌ {A = Tally} (running (book ++ m ∷ []) w p) (record {
      pieces = balance pieces_of book w (same_place p) +ℤ neg_ℤ (pos (takes pieces_of w (same_place p) m)) +ℤ pos (brings pieces_of w (same_place p) m);
      tenths = balance tenths_of book w (same_place p) +ℤ neg_ℤ (pos (takes tenths_of w (same_place p) m)) +ℤ pos (brings tenths_of w (same_place p) m);
    }) = λ i. record { pieces = balance_then pieces_of book m w (same_place p) i; tenths = balance_then tenths_of book m w (same_place p) i } in
    each ∙ moved (running book w p) m ((m.awb == w) && same_place p m.to) ((m.awb == w) && same_place p m.from)

-- the sums of a book with one move more
pub sums_then : (book : List Move) (m : Move) → ◌≡◌ {A = Sums} (posting m.awb m.to (come m) (posting m.awb m.from (gone m) (running book))) (running (book ++ m ∷ []))
sums_then book m = λ i w p. sym (running_then book m w p) i
