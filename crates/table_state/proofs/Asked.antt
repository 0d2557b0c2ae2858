-- Which waybills may be asked for when one more move is in the book.
use Rattle.table_state.proofs.Common.{Bool, Built, Delivered, Departed, Equal, Free, Greater, Hand, Irregular, Less, List, Missing, Move, Place, Stored, Surplus, Transferred, WaybillQuery, [], ap, arith, balances_of, brings, delivered, departed, drawn, false, found, has_come, held, in_store, insert_key, is_asked_for, is_in, match_ordering, missing, moved_in, moved_out, nat_cmp, nat_lt, nat_tests, not, opens, pieces_of, ranked, refl, same_place, sum_by_push, sym, taken, takes, takes_back, transferred, true, true≢false, ℕ, ◌&&◌, ◌++◌, ◌+◌, ◌-◌, ◌==◌, ◌||◌, ◌∙◌, ◌∷◌, ◌≡◌, ◌≤◌}
use Rattle.std.specs.Bool.{if◌then◌else◌}

-- a place in the store is none beyond it
beyond : (q : Place) → not (in_store q) ≡ false
    → (same_place Hand q ≡ false) × (same_place Surplus q ≡ false) × (same_place Departed q ≡ false) × (same_place Delivered q ≡ false) × (same_place Missing q ≡ false) × (same_place Transferred q ≡ false)
beyond Free e = (refl, refl, refl, refl, refl, refl)
beyond (Built f) e = (refl, refl, refl, refl, refl, refl)
beyond _ e = absurd (true≢false e)

and_then : (a b c : Bool) → (b ≡ false → c ≡ false) → (a && b) ≡ false → (a && c) ≡ false
and_then true b c f e = f e
and_then false b c f e = refl

neither : (a b : Bool) → (a || b) ≡ false → (a ≡ false) × (b ≡ false)
neither true b e = absurd (true≢false e)
neither false b e = (refl, e)

no_more : (out come out_then come_then t b : ℕ) → out_then ≡ out + t → come_then ≡ come + b → t ≡ 0 → out_then - come_then ≤ out - come
no_more out come out_then come_then t b o c none = omega (arith, o, c, none)

no_less : (out come out_then come_then t b : ℕ) → out_then ≡ out + t → come_then ≡ come + b → t ≡ 0 → come - out ≤ come_then - out_then
no_less out come out_then come_then t b o c none = omega (arith, o, c, none)

nothing_more : (out come out_then come_then t b : ℕ) → out_then ≡ out + t → come_then ≡ come + b → b ≡ 0 → come_then - out_then ≤ come - out
nothing_more out come out_then come_then t b o c none = omega (arith, o, c, none)

some_left : (a b c d e f : ℕ) (u v w x y z : ℕ) → u ≤ a → v ≤ b → c ≤ w → d ≤ x → e ≤ y → f ≤ z
    → nat_lt 0 (u + v - (w + x + y + z)) ≡ true → nat_lt 0 (a + b - (c + d + e + f)) ≡ true
some_left a b c d e f u v w x y z p q r s t o h = grind (arith, nat_tests, p, q, r, s, t, o, h)

some_of : (a b u v : ℕ) → u ≤ a → v ≤ b → (nat_lt 0 u || nat_lt 0 v) ≡ true → (nat_lt 0 a || nat_lt 0 b) ≡ true
some_of a b u v p q h = grind (arith, nat_tests, p, q, h)

none_of : (a b u v : ℕ) → a ≤ u → b ≤ v → (nat_lt 0 u || nat_lt 0 v) ≡ false → (nat_lt 0 a || nat_lt 0 b) ≡ false
none_of a b u v p q h = grind (arith, nat_tests, p, q, h)

module _ (book : List Move) (m : Move) (w : ℕ) where
  abbrev more : List Move
  more = book ++ m ∷ []

  none_taken : (there : Place → Bool) → ((m.awb == w) && there m.from) ≡ false → takes pieces_of w there m ≡ 0
  none_taken there off = ap (λ b. if b then m.pieces else 0) off

  none_brought : (there : Place → Bool) → ((m.awb == w) && there m.to) ≡ false → brings pieces_of w there m ≡ 0
  none_brought there off = ap (λ b. if b then m.pieces else 0) off

  drawn_no_more : (there : Place → Bool) → ((m.awb == w) && there m.from) ≡ false → (drawn more w there).pieces ≤ (drawn book w there).pieces
  drawn_no_more there off = no_more (moved_out pieces_of book w there) (moved_in pieces_of book w there) _ _ _ _ (sum_by_push (takes pieces_of w there) book m) (sum_by_push (brings pieces_of w there) book m) (none_taken there off)

  drawn_no_less : (there : Place → Bool) → ((m.awb == w) && there m.to) ≡ false → (drawn book w there).pieces ≤ (drawn more w there).pieces
  drawn_no_less there off = no_less (moved_in pieces_of book w there) (moved_out pieces_of book w there) _ _ _ _ (sum_by_push (brings pieces_of w there) book m) (sum_by_push (takes pieces_of w there) book m) (none_brought there off)

  -- nothing has come in after a move that takes nothing of it back only if nothing had before
  pub come_before : ((m.awb == w) && takes_back m) ≡ false → has_come more w ≡ false → has_come book w ≡ false
  come_before off none =
      none_of (taken book w).pieces (found book w).pieces (taken more w).pieces (found more w).pieces
      (drawn_no_less (same_place Hand) (and_then (m.awb == w) (takes_back m) (same_place Hand m.to) (λ e. (neither _ _ e).0) off))
      (drawn_no_less (same_place Surplus) (and_then (m.awb == w) (takes_back m) (same_place Surplus m.to) (λ e. (neither _ _ e).1) off))
      none

  held_no_less : (there : Place → Bool) → ((m.awb == w) && there m.from) ≡ false → (held book w there).pieces ≤ (held more w there).pieces
  held_no_less there off = no_less (moved_out pieces_of book w there) (moved_in pieces_of book w there) _ _ _ _ (sum_by_push (takes pieces_of w there) book m) (sum_by_push (brings pieces_of w there) book m) (none_taken there off)

  held_no_more : (there : Place → Bool) → ((m.awb == w) && there m.to) ≡ false → (held more w there).pieces ≤ (held book w there).pieces
  held_no_more there off = nothing_more (moved_out pieces_of book w there) (moved_in pieces_of book w there) _ _ _ _ (sum_by_push (takes pieces_of w there) book m) (sum_by_push (brings pieces_of w there) book m) (none_brought there off)

  -- what is asked for after a move that opens nothing of it was so before
  pub asked_before : (query : WaybillQuery) → ((m.awb == w) && opens query m) ≡ false → is_asked_for query (balances_of more w) ≡ true → is_asked_for query (balances_of book w) ≡ true
  asked_before Stored off has =
      let at = λ (p : Place) (past : not (in_store m.from) ≡ false → same_place p m.from ≡ false). and_then (m.awb == w) (not (in_store m.from)) (same_place p m.from) past off in
      some_left (taken book w).pieces (found book w).pieces (departed book w).pieces (delivered book w).pieces (missing book w).pieces (transferred book w).pieces
      (taken more w).pieces (found more w).pieces (departed more w).pieces (delivered more w).pieces (missing more w).pieces (transferred more w).pieces
      (drawn_no_more (same_place Hand) (at Hand (λ e. (beyond m.from e).0)))
      (drawn_no_more (same_place Surplus) (at Surplus (λ e. (beyond m.from e).1)))
      (held_no_less (same_place Departed) (at Departed (λ e. (beyond m.from e).2)))
      (held_no_less (same_place Delivered) (at Delivered (λ e. (beyond m.from e).3)))
      (held_no_less (same_place Missing) (at Missing (λ e. (beyond m.from e).4)))
      (held_no_less (same_place Transferred) (at Transferred (λ e. (beyond m.from e).5)))
      has
  asked_before Irregular off has =
      some_of (missing book w).pieces (found book w).pieces (missing more w).pieces (found more w).pieces
      (held_no_more (same_place Missing) (and_then (m.awb == w) (opens Irregular m) (same_place Missing m.to) (λ e. (neither _ _ e).1) off))
      (drawn_no_more (same_place Surplus) (and_then (m.awb == w) (opens Irregular m) (same_place Surplus m.from) (λ e. (neither _ _ e).0) off))
      has

-- Numbers that are kept.

or_twice : (a b : Bool) → (a || b) ≡ (a || (a || b))
or_twice true b = refl
or_twice false b = refl

or_swap : (a b c : Bool) → (a || (b || c)) ≡ (b || (a || c))
or_swap true true c = refl
or_swap true false c = refl
or_swap false b c = refl

equal_by : (a b : ℕ) → nat_cmp a b ≡ Equal → a ≡ b
equal_by a b e = ranked a b Equal (sym e)

pub is_in-insert_key : (q k : ℕ) (xs : List ℕ) → is_in q (insert_key nat_cmp xs k) ≡ ((k == q) || is_in q xs)
is_in-insert_key q k [] = refl
is_in-insert_key q k (x ∷ xs) =
    elim (nat_cmp k x) as (λ o. nat_cmp k x ≡ o → is_in q (match_ordering o (k ∷ x ∷ xs) (x ∷ xs) (x ∷ insert_key nat_cmp xs k)) ≡ ((k == q) || ((x == q) || is_in q xs))) [
      | Less ↦ λ _. refl
      | Equal ↦ λ e. ap (λ n. (n == q) || is_in q xs) (sym (equal_by k x e)) ∙ or_twice (k == q) (is_in q xs) ∙ ap (λ n. (k == q) || ((n == q) || is_in q xs)) (equal_by k x e)
      | Greater ↦ λ _. ap (λ b. (x == q) || b) (is_in-insert_key q k xs) ∙ or_swap (x == q) (k == q) (is_in q xs)
    ] refl

-- the waybill of a move is kept too
pub kept_too : (query : WaybillQuery) (book : List Move) (m : Move) (before after : List ℕ) → after ≡ insert_key nat_cmp before m.awb → ((w : ℕ) → is_asked_for query (balances_of book w) ≡ true → is_in w before ≡ true)
    → (w : ℕ) → is_asked_for query (balances_of (book ++ m ∷ []) w) ≡ true → is_in w after ≡ true
kept_too query book m before after is kept w has =
    ap (is_in w) is ∙ is_in-insert_key w m.awb before
    ∙ elim (m.awb == w) as (λ b. (m.awb == w) ≡ b → (b || is_in w before) ≡ true) [
      | true ↦ λ _. refl
      | false ↦ λ e. kept w (asked_before book m w query (ap (λ b. b && opens query m) e) has)
    ] refl

and_false : (a : Bool) → (a && false) ≡ false
and_false true = refl
and_false false = refl

-- off further waybill is asked for
pub kept_still : (query : WaybillQuery) (book : List Move) (m : Move) (kept : List ℕ) → opens query m ≡ false → ((w : ℕ) → is_asked_for query (balances_of book w) ≡ true → is_in w kept ≡ true)
    → (w : ℕ) → is_asked_for query (balances_of (book ++ m ∷ []) w) ≡ true → is_in w kept ≡ true
kept_still query book m kept none all w has = all w (asked_before book m w query (ap (λ b. (m.awb == w) && b) none ∙ and_false (m.awb == w)) has)
