-- Whether a waybill has moves, by their rows.
use Rattle.std.proofs.Common.{rules, ◌≡◌, ◌==◌, ℕ, suc, ℤ, pos, negsuc, Bool, true, false, not, cond, ◌&&◌, ◌||◌, List, [], ◌∷◌, length, filter, refl, sym, ap₂, ◌∙◌, arith}
use Rattle.table_state.proofs.Common.{Vec, book_in, has_moves, int_eq, ints, is_move_row, is_number, is_of, list_all, nat_lt, natural, vec_len}
use Rattle.std.specs.declared.alloc.Global.{Global}
use Rattle.station_schema.specs.Tables as table

first : (a b : Bool) → (a && b) ≡ true → a ≡ true
first true b h = refl
first false b h = cc

second : (a b : Bool) → (a && b) ≡ true → b ≡ true
second true b h = h
second false b h = cc

same_number : (z : ℤ) (w : ℕ) → is_number z ≡ true → (natural z == w) ≡ int_eq z (pos w)
same_number (pos n) w h = grind (arith, ints)
same_number (negsuc n) w h = absurd (cc)

in_range : (row : table.Move) → is_move_row row ≡ true → is_number row.awb ≡ true
in_range row h = front (is_number row.awb) _ _ _ _ _ _ _ h
  where
    front : (a b c d e f g i : Bool) → (a && b && c && d && e && f && g && i) ≡ true → a ≡ true
    front true b c d e f g i k = refl
    front false b c d e f g i k = cc

of_this : (row : table.Move) (w : ℕ) → is_move_row row ≡ true → (natural row.awb == w) ≡ is_of (pos w) row
of_this row w h = same_number row.awb w (in_range row h)

is_longer : (b : Bool) (row : table.Move) (rows : List table.Move) → (b || nat_lt 0 (length rows)) ≡ nat_lt 0 (length (cond b (row ∷ rows) rows))
is_longer true row rows = sym (is_more (length rows))
  where
    is_more : (n : ℕ) → nat_lt 0 (suc n) ≡ true
    is_more n = grind arith
is_longer false row rows = refl

pub any_move : (rows : List table.Move) (w : ℕ) → list_all is_move_row rows ≡ true → has_moves (book_in rows) w ≡ nat_lt 0 (length (filter (is_of (pos w)) rows))
any_move [] w h = refl
any_move (row ∷ rows) w h =
    ap₂ ◌||◌ (of_this row w (first (is_move_row row) (list_all is_move_row rows) h)) (any_move rows w (second (is_move_row row) (list_all is_move_row rows) h))
    ∙ is_longer (is_of (pos w) row) row (filter (is_of (pos w)) rows)

-- a vector that isn't empty has items
pub has_items : {X : Type 0} (v : Vec X Global) → not (vec_len v == 0) ≡ nat_lt 0 (length v.items)
has_items v = search rules
