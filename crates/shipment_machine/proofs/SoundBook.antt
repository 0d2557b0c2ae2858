-- One more move leaves a book sound: no place overdrawn, what came in within bounds, each move lawful.
use Rattle.shipment_machine.proofs.Common.{AllByRecursion, Bool, Cargo, FlightDate, Hand, IsCovered, IsLawfulMove, IsNoted, IsSome, IsStocked, List, Move, NamesFlight, Place, Surplus, [], ap, arith, brings, false, if◌then◌else◌, is_outside, is_pair, moved_in, moved_out, nat_tests, pieces_of, refl, same_place, share_heavy, share_leaves, share_of, subst, sum_by_push, sym, taken, takes, tenths_of, true, true≢false, ℕ, ◌&&◌, ◌*◌, ◌++◌, ◌+◌, ◌-◌, ◌/◌, ◌==◌, ◌∷◌, ◌≡◌, ◌≤◌}
use Rattle.std.proofs.lemmas.Nat.{le-div}
use Rattle.shipment_machine.proofs.Conserved.{none_in, came}
use Rattle.shipment_machine.proofs.Places.{never_surplus, outside_split, outside_too, same_test, noted_under, added, no_added}

-- what is left of an amount after a part of it is taken has at least a tenth a piece
pub record Leaves (pieces tenths n t : ℕ) : Type 0 where
  pub few : n ≤ pieces
  pub light : t ≤ tenths
  pub rest : pieces - n ≤ tenths - t
  pub none : pieces - n ≡ 0 → tenths - t ≡ 0

-- a part that is taken leaves its share of the weight
pub part_leaves : (pieces tenths part : ℕ) → 1 ≤ part → pieces ≤ tenths → part ≤ pieces → Leaves pieces tenths part (share_of pieces tenths part)
part_leaves pieces tenths part some heavy within =
    let l = share_leaves pieces tenths part heavy within in
    let light : share_of pieces tenths part ≤ tenths = l.0 in
    let rest : pieces - part ≤ tenths - share_of pieces tenths part = l.1 in
    record {
      few = within;
      light = light;
      rest = rest;
      none = λ z.
          let same : part ≡ pieces = omega arith in
          let all : pieces ≤ tenths * pieces / pieces = share_heavy pieces tenths pieces (omega arith) heavy in
          let whole : tenths ≤ share_of pieces tenths part = subst (λ (n : ℕ). tenths ≤ tenths * n / pieces) (sym same) (le-div tenths (tenths * pieces) pieces (omega arith) (omega arith)) in
          omega arith;
    }

abbrev pub there_are : (Move → ℕ) → List Move → ℕ → Place → ℕ
there_are measure book w p = moved_in measure book w (same_place p) - moved_out measure book w (same_place p)

-- a move that may be made
pub record IsFitting (s : Cargo) (m : Move) : Type 0 where
  pub pair : is_pair m.from m.to ≡ true
  pub some : 1 ≤ m.pieces
  pub few : m.pieces ≤ 9999
  pub heavy : m.pieces ≤ m.tenths
  pub declared : IsSome (s.declared m.awb)
  pub noted_from : IsNoted s m.from
  pub noted_to : IsNoted s m.to
  pub names_from : NamesFlight m.from m.flight
  pub names_to : NamesFlight m.to m.flight
  pub leaves : is_outside m.from ≡ false → Leaves (there_are pieces_of s.book m.awb m.from) (there_are tenths_of s.book m.awb m.from) m.pieces m.tenths
  pub back : same_place Hand m.to ≡ true → (m.pieces ≤ (taken s.book m.awb).pieces) × (m.tenths ≤ (taken s.book m.awb).tenths)
  pub room : is_outside m.from ≡ true → (came pieces_of s.book m.awb + m.pieces ≤ 9999) × (came tenths_of s.book m.awb + m.tenths ≤ 999999)

-- a sound book
pub record IsSound (s : Cargo) : Type 0 where
  pub stocked : (w : ℕ) (p : Place) → is_outside p ≡ false → IsStocked s.book w p
  pub covered : (w : ℕ) → IsCovered s.book w
  pub pieces : (w : ℕ) → came pieces_of s.book w ≤ 9999
  pub tenths : (w : ℕ) → came tenths_of s.book w ≤ 999999
  pub moves : AllByRecursion (IsLawfulMove s) s.book

-- a state with one more move
abbrev pub with_move : Cargo → Move → Cargo
with_move s m = record s { book = s.book ++ m ∷ [] }

-- Stocks.

stock : (b d : Bool) (n t i o I O : ℕ) → 1 ≤ n → n ≤ t → (d ≡ true → Leaves (i - o) (I - O) n t) → o ≤ i → O ≤ I → i - o ≤ I - O → (i - o ≡ 0 → I - O ≡ 0) →
    record {
      pieces : o + (if d then n else 0) ≤ i + (if b then n else 0);
      tenths : O + (if d then t else 0) ≤ I + (if b then t else 0);
      heavy : (i + (if b then n else 0)) - (o + (if d then n else 0)) ≤ (I + (if b then t else 0)) - (O + (if d then t else 0));
      none : (i + (if b then n else 0)) - (o + (if d then n else 0)) ≡ 0 → (I + (if b then t else 0)) - (O + (if d then t else 0)) ≡ 0;
    }
stock true true n t i o I O some heavy leaves h1 h2 h3 h4 = record {
  pieces = omega arith;
  tenths = omega arith;
  heavy = omega arith;
  none = λ z. let e : i - o ≡ 0 = omega arith in let f : I - O ≡ 0 = h4 e in omega arith;
}
stock true false n t i o I O some heavy leaves h1 h2 h3 h4 = record { pieces = omega arith; tenths = omega arith; heavy = omega arith; none = λ z. absurd (omega arith) }
stock false true n t i o I O some heavy leaves h1 h2 h3 h4 =
    let l = leaves refl in
    let few : n ≤ i - o = l.few in
    let light : t ≤ I - O = l.light in
    let rest : (i - o) - n ≤ (I - O) - t = l.rest in
    record {
      pieces = omega arith;
      tenths = omega arith;
      heavy = omega arith;
      none = λ z. let e : (i - o) - n ≡ 0 = omega arith in let f : (I - O) - t ≡ 0 = l.none e in omega arith;
    }
stock false false n t i o I O some heavy leaves h1 h2 h3 h4 = record {
  pieces = omega arith;
  tenths = omega arith;
  heavy = omega arith;
  none = λ z. let e : i - o ≡ 0 = omega arith in let f : I - O ≡ 0 = h4 e in omega arith;
}

same_there : (measure : Move → ℕ) (book : List Move) (w : ℕ) (p f : Place) → same_place p f ≡ true → there_are measure book w f ≡ there_are measure book w p
same_there measure book w p f e =
    let tests : same_place f ≡ same_place p = λ i x. same_test p f e x i in
    ap (λ (there : Place → Bool). moved_in measure book w there - moved_out measure book w there) tests

both_true : (a b : Bool) → (a && b) ≡ true → (a ≡ true) × (b ≡ true)
both_true true true e = (refl, refl)
both_true true false e = absurd (true≢false (sym e))
both_true false b e = absurd (true≢false (sym e))

pub same_number : (q w : ℕ) → (q == w) ≡ true → q ≡ w
same_number q w e = grind (arith, nat_tests)

stocked_after : (s : Cargo) (m : Move) → IsFitting s m → (q : ℕ) (p : Place) → is_outside p ≡ false → IsStocked s.book q p → IsStocked (s.book ++ m ∷ []) q p
stocked_after s m fit q p inside old =
    let i = moved_in pieces_of s.book q (same_place p) in
    let o = moved_out pieces_of s.book q (same_place p) in
    let I = moved_in tenths_of s.book q (same_place p) in
    let O = moved_out tenths_of s.book q (same_place p) in
    let b = (m.awb == q) && same_place p m.to in
    let d = (m.awb == q) && same_place p m.from in
    let leaves : d ≡ true → Leaves (i - o) (I - O) m.pieces m.tenths = λ e.
    let same : m.awb ≡ q = same_number m.awb q (both_true _ _ e).0 in
    let place : same_place p m.from ≡ true = (both_true _ _ e).1 in
    subst (λ (w : ℕ). Leaves (there_are pieces_of s.book w p) (there_are tenths_of s.book w p) m.pieces m.tenths) same
    (subst (λ (n : ℕ). Leaves n (there_are tenths_of s.book m.awb p) m.pieces m.tenths) (same_there pieces_of s.book m.awb p m.from place)
    (subst (λ (n : ℕ). Leaves (there_are pieces_of s.book m.awb m.from) n m.pieces m.tenths) (same_there tenths_of s.book m.awb p m.from place)
    (fit.leaves (outside_too p m.from place inside)))) in
    let r = stock b d m.pieces m.tenths i o I O fit.some fit.heavy leaves old.pieces old.tenths old.tenth_a_piece old.no_weight_alone in
    let i' = sum_by_push (brings pieces_of q (same_place p)) s.book m in
    let o' = sum_by_push (takes pieces_of q (same_place p)) s.book m in
    let I' = sum_by_push (brings tenths_of q (same_place p)) s.book m in
    let O' = sum_by_push (takes tenths_of q (same_place p)) s.book m in
    let x = carried _ _ _ _ _ _ _ _ i' o' I' O' r.pieces r.tenths r.heavy r.none in
    record { pieces = x.pieces; tenths = x.tenths; tenth_a_piece = x.tenth_a_piece; no_weight_alone = x.no_weight_alone }
  where
    carried : (i o I O i' o' I' O' : ℕ) → i' ≡ i → o' ≡ o → I' ≡ I → O' ≡ O → o ≤ i → O ≤ I → i - o ≤ I - O → (i - o ≡ 0 → I - O ≡ 0) →
        record { pieces : o' ≤ i'; tenths : O' ≤ I'; tenth_a_piece : i' - o' ≤ I' - O'; no_weight_alone : i' - o' ≡ 0 → I' - O' ≡ 0 }
    carried i o I O i' o' I' O' a b c d h1 h2 h3 h4 = record {
      pieces = omega arith;
      tenths = omega arith;
      tenth_a_piece = omega arith;
      no_weight_alone = λ z. let e : i - o ≡ 0 = omega arith in let f : I - O ≡ 0 = h4 e in omega arith;
    }

-- What came in.

pub came_after : (s : Cargo) (measure : Move → ℕ) (m : Move) (q : ℕ) → is_pair m.from m.to ≡ true → AllByRecursion (IsLawfulMove s) s.book → came measure (s.book ++ m ∷ []) q ≤ came measure s.book q + added (m.awb == q) (is_outside m.from) (measure m)
came_after s measure m q pair moves =
    sums _ _ _ _ _ _ _ _ _ _ _ _ _
    (sum_by_push (takes measure q (same_place Hand)) s.book m) (sum_by_push (brings measure q (same_place Hand)) s.book m)
    (sum_by_push (takes measure q (same_place Surplus)) s.book m) (sum_by_push (brings measure q (same_place Surplus)) s.book m)
    (none_in s measure q s.book moves) (no_added (m.awb == q) (same_place Surplus m.to) (measure m) (never_surplus m.from m.to pair))
    (outside_split (m.awb == q) m.from (measure m))
  where
    sums : (oh oh' ih ih' os os' is is' a b x y k : ℕ) → oh' ≡ oh + a → ih' ≡ ih + x → os' ≡ os + b → is' ≡ is + y → is ≡ 0 → y ≡ 0 → a + b ≡ k → (oh' - ih') + (os' - is') ≤ ((oh - ih) + (os - is)) + k
    sums oh oh' ih ih' os os' is is' a b x y k e1 e2 e3 e4 e5 e6 e7 = omega arith

bounded : (top c n : ℕ) (b o : Bool) → c ≤ top → (b ≡ true → o ≡ true → c + n ≤ top) → c + added b o n ≤ top
bounded top c n true true h f = f refl refl
bounded top c n true false h f = omega arith
bounded top c n false o h f = omega arith

at_most : (a b c : ℕ) → a ≤ b → b ≤ c → a ≤ c
at_most a b c h k = omega (arith, h, k)

-- What went back.

back_step : (i o n a : ℕ) (b h : Bool) → i ≤ o → (b ≡ true → h ≡ true → n ≤ o - i) → i + added b h n ≤ o + a
back_step i o n a true true h f = let k : n ≤ o - i = f refl refl in omega (arith, h, k)
back_step i o n a true false h f = omega (arith, h)
back_step i o n a false h' h f = omega (arith, h)

went_back : (s : Cargo) (measure : Move → ℕ) (m : Move) (q : ℕ) → moved_in measure s.book q (same_place Hand) ≤ moved_out measure s.book q (same_place Hand) →
    (same_place Hand m.to ≡ true → measure m ≤ moved_out measure s.book m.awb (same_place Hand) - moved_in measure s.book m.awb (same_place Hand)) →
    moved_in measure (s.book ++ m ∷ []) q (same_place Hand) ≤ moved_out measure (s.book ++ m ∷ []) q (same_place Hand)
went_back s measure m q old fit =
    sums _ _ _ _ _ _ (sum_by_push (brings measure q (same_place Hand)) s.book m) (sum_by_push (takes measure q (same_place Hand)) s.book m)
    (back_step _ _ (measure m) (added (m.awb == q) (same_place Hand m.from) (measure m)) (m.awb == q) (same_place Hand m.to) old
    (λ e h. subst (λ (w : ℕ). measure m ≤ moved_out measure s.book w (same_place Hand) - moved_in measure s.book w (same_place Hand)) (same_number m.awb q e) (fit h)))
  where
    sums : (i o i' o' a b : ℕ) → i' ≡ i + a → o' ≡ o + b → i + a ≤ o + b → i' ≤ o'
    sums i o i' o' a b e f h = omega (arith, e, f, h)

covered_after : (s : Cargo) (m : Move) → IsFitting s m → (q : ℕ) → IsCovered s.book q → IsCovered (s.book ++ m ∷ []) q
covered_after s m fit q old = record {
  pieces = went_back s pieces_of m q old.pieces (λ h. (fit.back h).0);
  tenths = went_back s tenths_of m q old.tenths (λ h. (fit.back h).1);
}

-- Moves.

all_push : {X : Type 0} (P Q : X → Type 0) → ((x : X) → P x → Q x) → (xs : List X) (y : X) → AllByRecursion P xs → Q y → AllByRecursion Q (xs ++ y ∷ [])
all_push P Q f [] y h q = (q, tt)
all_push P Q f (x ∷ xs) y h q = (f x h.0, all_push P Q f xs y h.1 q)

-- a lawful move stays one where no more is asked of it
pub move_under : (s s' : Cargo) → ((w : ℕ) → IsSome (s.declared w) → IsSome (s'.declared w)) → ((k : FlightDate) → IsSome (s.flights k) → IsSome (s'.flights k)) → (m : Move) → IsLawfulMove s m → IsLawfulMove s' m
move_under s s' known noted m l = record {
  pair = l.pair;
  some = l.some;
  not_more = l.not_more;
  declared = known m.awb l.declared;
  noted_from = noted_under s s' noted m.from l.noted_from;
  noted_to = noted_under s s' noted m.to l.noted_to;
  names_from = l.names_from;
  names_to = l.names_to;
}

pub all_map : {X : Type 0} (P Q : X → Type 0) → ((x : X) → P x → Q x) → (xs : List X) → AllByRecursion P xs → AllByRecursion Q xs
all_map P Q f [] h = tt
all_map P Q f (x ∷ xs) h = (f x h.0, all_map P Q f xs h.1)

-- a sound book with one more fitting move is sound
pub sound_after : (s : Cargo) (m : Move) → IsFitting s m → IsSound s → IsSound (with_move s m)
sound_after s m fit old = record {
  stocked = λ q p inside. stocked_after s m fit q p inside (old.stocked q p inside);
  covered = λ q. covered_after s m fit q (old.covered q);
  pieces = λ q. at_most _ _ _ (came_after s pieces_of m q fit.pair old.moves)
      (bounded 9999 (came pieces_of s.book q) m.pieces (m.awb == q) (is_outside m.from) (old.pieces q)
      (λ e o. subst (λ (w : ℕ). came pieces_of s.book w + m.pieces ≤ 9999) (same_number m.awb q e) (fit.room o).0));
  tenths = λ q. at_most _ _ _ (came_after s tenths_of m q fit.pair old.moves)
      (bounded 999999 (came tenths_of s.book q) m.tenths (m.awb == q) (is_outside m.from) (old.tenths q)
      (λ e o. subst (λ (w : ℕ). came tenths_of s.book w + m.tenths ≤ 999999) (same_number m.awb q e) (fit.room o).1));
  moves = all_push (IsLawfulMove s) (IsLawfulMove (with_move s m)) (move_under s (with_move s m) (λ w h. h) (λ k h. h)) s.book m old.moves
      (move_under s (with_move s m) (λ w h. h) (λ k h. h) m
      (record { pair = fit.pair; some = fit.some; not_more = fit.few; declared = fit.declared; noted_from = fit.noted_from; noted_to = fit.noted_to; names_from = fit.names_from; names_to = fit.names_to }));
}
