-- Check-in, striking, manifest, rerouting and departure keep a state lawful.
use Rattle.shipment_machine.proofs.Common.{Amount, Bool, Built, Cargo, Expected, FlightDate, FlightLoad, Free, Hand, IfOk, IfSome, IsLawful, IsLawfulAmount, IsNoted, IsSome, List, LocalMinute, Missing, Move, None, NoteFlight, Option, Outbound, Some, Surplus, [], ap, append-nil, append_assoc, arith, built, bytes_eq, carried_out, check_in_moves, counted_in, counted_more, declaration, effect, expected_amount, false, free, if◌then◌else◌, inl, inr, is_closed, is_none, is_some, leb-false, leb-true, length, length-map, less, ltb-false, ltb-true, move_of, nat_le, nat_lt, nat_tests, part, pieces_of, plus, refl, share_heavy, share_leaves, share_of, struck, subst, sym, taken_and_found, tenths_of, true, true≢false, uncounted, unload_of, waybills_on, written_all, ℕ, ◌&&◌, ◌++◌, ◌+◌, ◌-◌, ◌<◌, ◌==◌, ◌∙◌, ◌∷◌, ◌≡◌, ◌≤◌}
use Rattle.shipment_machine.specs.declared.command.ShipmentCommand.TheVariants as order
use Rattle.shipment_machine.specs.declared.command.DeskCommand.TheVariants as desk
use Rattle.shipment_machine.proofs.FlightKeys.{same-refl}
use Rattle.shipment_machine.proofs.OnFlight.{is_in-waybills_on}
use Rattle.shipment_machine.proofs.Conserved.{came, held_free}
use Rattle.shipment_machine.proofs.LawfulView.{noted_outbound}
use Rattle.shipment_machine.proofs.Keeps.{by_refusals}
use Rattle.shipment_machine.proofs.SoundBook.{there_are}
use Rattle.shipment_machine.proofs.PlainMoves.{lawful_after}
use Rattle.shipment_machine.proofs.FlightMoves.{with_note, noted_open, manifested, HasRoom}
use Rattle.shipment_machine.proofs.Departed.{sent_off, departed_lawful, depart_moves_are}
use Rattle.shipment_machine.proofs.WrittenRows.{expects}
use Rattle.shipment_machine.proofs.KeepsMoves.{is_known, with_moves, rests, may_move, inside_fits, outside_fits, came_with, fits_parts}

-- Check-in.

-- what is expected, where it is
expected_fine : (o : Option Expected) (P : Type 0) → is_none o ≡ false → IfSome o (λ e. IsLawfulAmount e.pieces e.tenths × P) → IsLawfulAmount (expected_amount o).pieces (expected_amount o).tenths
expected_fine None P e h = absurd (true≢false e)
expected_fine (Some x) P e h = h.0

-- how a count splits an amount
record Split (e in' rest : Amount) : Type 0 where
  pub pieces : in'.pieces + rest.pieces ≡ e.pieces
  pub tenths : in'.tenths + rest.tenths ≡ e.tenths
  pub heavy : in'.pieces ≤ in'.tenths
  pub rest_heavy : rest.pieces ≤ rest.tenths

split : (e : Amount) (counted : ℕ) → IsLawfulAmount e.pieces e.tenths → Split e (counted_in e counted) (uncounted e counted)
split e counted law = elim (nat_le counted e.pieces) as (λ b. nat_le counted e.pieces ≡ b → Split e (if b then part e counted else e) (less e (if b then part e counted else e))) [
  | true ↦ λ t.
      let within : counted ≤ e.pieces = leb-true _ _ t in
      let l = share_leaves e.pieces e.tenths counted law.tenth_a_piece within in
      let light : share_of e.pieces e.tenths counted ≤ e.tenths = l.0 in
      let rest : e.pieces - counted ≤ e.tenths - share_of e.pieces e.tenths counted = l.1 in
      record { pieces = omega arith; tenths = omega arith; heavy = share_heavy e.pieces e.tenths counted law.some law.tenth_a_piece; rest_heavy = rest }
  | false ↦ λ _. record { pieces = omega arith; tenths = omega arith; heavy = law.tenth_a_piece; rest_heavy = omega arith }
] refl

pub keeps_check_in : (s : Cargo) (w : ℕ) (flight : FlightDate) (counted : ℕ) (at : LocalMinute) (text : List ℕ) → IsLawful s → IfOk (effect s (order.Desk (desk.CheckIn w flight counted)) at) (λ done. IsLawful (carried_out text done s))
keeps_check_in s w flight counted at text law = by_refusals s (order.Desk (desk.CheckIn w flight counted)) at _ (λ none.
    let known : IsSome (s.declared w) = is_known (s.declared w) none.0 in
    let e : Amount = expected_amount (s.expected flight w) in
    let fine : IsLawfulAmount e.pieces e.tenths = expected_fine (s.expected flight w) _ none.1.0 (law.expectations flight w) in
    let first : Amount = counted_in e counted in
    let rest : Amount = uncounted e counted in
    let more : Amount = counted_more e counted in
    let room = fits_parts (plus (taken_and_found s.book w) (plus e more)) none.1.1.1.0 in
    let all : came pieces_of s.book w + (e.pieces + more.pieces) ≤ 9999 = room.0 in
    let heavy : came tenths_of s.book w + (e.tenths + more.tenths) ≤ 999999 = room.1 in
    let sp : Split e first rest = split e counted fine in
    let s1 : Cargo = with_moves s (move_of w Hand Free first (Some flight) at) in
    let law1 : IsLawful s1 = may_move s w Hand Free first (Some flight) at (λ some.
    lawful_after s _ (outside_fits s w first.pieces first.tenths Hand Free (Some flight) at refl refl refl some sp.heavy known tt tt tt tt (omega (arith, sp.pieces)) (omega (arith, sp.tenths))) refl refl law) law in
    let pieces1 : came pieces_of s1.book w ≤ came pieces_of s.book w + first.pieces = came_with s pieces_of w Hand Free first (Some flight) at first.pieces refl (omega arith) law in
    let tenths1 : came tenths_of s1.book w ≤ came tenths_of s.book w + first.tenths = came_with s tenths_of w Hand Free first (Some flight) at first.tenths refl (omega arith) law in
    let s2 : Cargo = with_moves s1 (move_of w Hand Missing rest (Some flight) at) in
    let law2 : IsLawful s2 = may_move s1 w Hand Missing rest (Some flight) at (λ some.
    lawful_after s1 _ (outside_fits s1 w rest.pieces rest.tenths Hand Missing (Some flight) at refl refl refl some sp.rest_heavy known tt tt tt tt (omega (arith, sp.pieces)) (omega (arith, sp.tenths))) refl refl law1) law1 in
    let pieces2 : came pieces_of s2.book w ≤ came pieces_of s1.book w + rest.pieces = came_with s1 pieces_of w Hand Missing rest (Some flight) at rest.pieces refl (omega arith) law1 in
    let tenths2 : came tenths_of s2.book w ≤ came tenths_of s1.book w + rest.tenths = came_with s1 tenths_of w Hand Missing rest (Some flight) at rest.tenths refl (omega arith) law1 in
    let law3 : IsLawful (with_moves s2 (move_of w Surplus Free more (Some flight) at)) = may_move s2 w Surplus Free more (Some flight) at (λ some.
    lawful_after s2 _ (outside_fits s2 w more.pieces more.tenths Surplus Free (Some flight) at refl refl refl some (share_heavy e.pieces e.tenths (counted - e.pieces) fine.some fine.tenth_a_piece) known tt tt tt tt (omega (arith, sp.pieces)) (omega (arith, sp.tenths))) refl refl law2) law2 in
    let joined : ((s.book ++ move_of w Hand Free first (Some flight) at) ++ move_of w Hand Missing rest (Some flight) at) ++ move_of w Surplus Free more (Some flight) at ≡ s.book ++ check_in_moves w flight e counted at =
    join s.book (move_of w Hand Free first (Some flight) at) (move_of w Hand Missing rest (Some flight) at) (move_of w Surplus Free more (Some flight) at) in
    expects text (record s { book = s.book ++ check_in_moves w flight e counted at }) flight w (record { pieces = e.pieces; tenths = e.tenths; checked = true }) fine known
    (subst (λ (book : List Move). IsLawful (record s { book = book })) joined law3))
  where
    join : (a b c d : List Move) → ((a ++ b) ++ c) ++ d ≡ a ++ ((b ++ c) ++ d)
    join a b c d = ap (λ (xs : List Move). xs ++ d) (append_assoc {A = Move} a b c) ∙ append_assoc {A = Move} a (b ++ c) d

-- Strike.

-- what is left where pieces are below, or not
abbrev struck_where : Bool → Amount → ℕ → Expected
struck_where below e p =
    let rest = less e (part e p) in
    if below then record { pieces = rest.pieces; tenths = rest.tenths; checked = false } else record { pieces = e.pieces; tenths = e.tenths; checked = true }

struck_fine : (e : Amount) (p : ℕ) → IsLawfulAmount e.pieces e.tenths → IsLawfulAmount (struck e p).pieces (struck e p).tenths
struck_fine e p law = elim (nat_lt p e.pieces) as (λ b. nat_lt p e.pieces ≡ b → IsLawfulAmount (struck_where b e p).pieces (struck_where b e p).tenths) [
  | true ↦ λ t.
      let below : p < e.pieces = ltb-true _ _ t in
      let l = share_leaves e.pieces e.tenths p law.tenth_a_piece (omega arith) in
      let rest : e.pieces - p ≤ e.tenths - share_of e.pieces e.tenths p = l.1 in
      let few : e.pieces ≤ 9999 = law.not_more in
      let light : e.tenths ≤ 999999 = law.not_heavier in
      record { some = omega arith; not_more = omega arith; tenth_a_piece = rest; not_heavier = omega arith }
  | false ↦ λ _. law
] refl

pub keeps_strike : (s : Cargo) (w : ℕ) (flight : FlightDate) (p : ℕ) (at : LocalMinute) (text : List ℕ) → IsLawful s → IfOk (effect s (order.Desk (desk.Strike w flight p)) at) (λ done. IsLawful (carried_out text done s))
keeps_strike s w flight p at text law = by_refusals s (order.Desk (desk.Strike w flight p)) at _ (λ none.
    let fine = expected_fine (s.expected flight w) _ none.1.0 (law.expectations flight w) in
    expects text (with_moves s []) flight w (struck (expected_amount (s.expected flight w)) p) (struck_fine (expected_amount (s.expected flight w)) p fine) (is_known (s.declared w) none.0) (rests s law))

-- Manifest.

room_for : (s : Cargo) (w : ℕ) (flight : FlightDate) → (((built s.book w flight).pieces == 0) && nat_le 500 (length (waybills_on s.book flight))) ≡ false → HasRoom s w flight
room_for s w flight e = elim ((built s.book w flight).pieces == 0) as (λ b. ((built s.book w flight).pieces == 0) ≡ b → (b && nat_le 500 (length (waybills_on s.book flight))) ≡ false → HasRoom s w flight) [
  | true ↦ λ _ e. inr (few _ e)
  | false ↦ λ z _. inl (is_in-waybills_on w s.book flight ∙ some _ z)
] refl e
  where
    few : (n : ℕ) → nat_le 500 n ≡ false → n ≤ 499
    few n e = let h : n < 500 = leb-false _ _ e in omega arith

    some : (n : ℕ) → (n == 0) ≡ false → nat_lt 0 n ≡ true
    some n e = grind (arith, nat_tests)

-- onto a noted flight
onto : (s : Cargo) (w p : ℕ) (flight : FlightDate) (at : LocalMinute) → IsSome (s.declared w) → is_closed (s.flights flight) ≡ false → IsNoted s (Built flight) → p ≤ there_are pieces_of s.book w Free → there_are pieces_of s.book w Free ≤ 9999 → HasRoom s w flight → IsLawful s →
    IsLawful (with_moves s (move_of w Free (Built flight) (part (free s.book w) p) (Some flight) at))
onto s w p flight at known ajar noted within few room law =
    may_move s w Free (Built flight) (part (free s.book w) p) (Some flight) at (λ some.
    manifested s w p _ flight (Some flight) at (inside_fits s w p Free (Built flight) (Some flight) at refl refl refl some within known tt noted tt refl few law) ajar room law) law

pub keeps_manifest : (s : Cargo) (w p : ℕ) (flight : FlightDate) (unload : List ℕ) (at : LocalMinute) (text : List ℕ) → IsLawful s → IfOk (effect s (order.Desk (desk.Manifest w flight unload p)) at) (λ done. IsLawful (carried_out text done s))
keeps_manifest s w p flight unload at text law = by_refusals s (order.Desk (desk.Manifest w flight unload p)) at _ (λ none.
    let held = held_free s w law in
    let few : there_are pieces_of s.book w Free ≤ 9999 = held.pieces in
    let known : IsSome (s.declared w) = is_known (s.declared w) none.0 in
    let away : bytes_eq unload s.here ≡ false = none.1.0 in
    let within : p ≤ there_are pieces_of s.book w Free = ltb-false _ _ none.1.1.1.1.0 in
    let room : HasRoom s w flight = room_for s w flight none.1.1.1.1.1.0 in
    let o : Outbound = record { unload = unload; closed = false } in
    elim (s.flights flight) as (λ was. s.flights flight ≡ was → IsLawful (written_all text (if is_none was then NoteFlight flight o ∷ [] else []) (with_moves s (move_of w Free (Built flight) (part (free s.book w) p) (Some flight) at)))) [
      | None ↦ λ e. onto (with_note s flight o) w p flight at known (ap (λ (b : Bool). is_closed (if b then Some o else s.flights flight)) (same-refl flight)) (ap (λ (b : Bool). is_some (if b then Some o else s.flights flight)) (same-refl flight)) within few room
          (noted_open s flight o (ap is_closed e) refl away law)
      | Some was ↦ λ e. onto s w p flight at known none.1.1.0 (ap is_some e) within few room law
    ] refl)

-- Reroute.

pub keeps_reroute : (s : Cargo) (flight : FlightDate) (unload : List ℕ) (at : LocalMinute) (text : List ℕ) → IsLawful s → IfOk (effect s (order.Desk (desk.Reroute flight unload)) at) (λ done. IsLawful (carried_out text done s))
keeps_reroute s flight unload at text law = by_refusals s (order.Desk (desk.Reroute flight unload)) at _ (λ none.
    let o : Outbound = record { unload = unload; closed = false } in
    subst (λ (book : List Move). IsLawful (with_note (record s { book = book }) flight o)) (sym (append-nil s.book)) (noted_open s flight o none.1.0 refl none.1.1.0 law))

-- Departure.

abbrev aboard : Cargo → FlightDate → ℕ → FlightLoad
aboard s flight w = record { awb = w; declared = declaration s w; load = built s.book w flight }

unloads_away : (o : Option Outbound) (here : List ℕ) → IsSome o → IfSome o (λ o. bytes_eq o.unload here ≡ false) → bytes_eq (unload_of o) here ≡ false
unloads_away None here some h = absurd (true≢false (sym some))
unloads_away (Some o) here some h = h

pub keeps_depart : (s : Cargo) (flight : FlightDate) (at : LocalMinute) (text : List ℕ) → IsLawful s → IfOk (effect s (order.Desk (desk.Depart flight)) at) (λ done. IsLawful (carried_out text done s))
keeps_depart s flight at text law = by_refusals s (order.Desk (desk.Depart flight)) at _ (λ none.
    let o : Outbound = record { unload = unload_of (s.flights flight); closed = true } in
    let away : bytes_eq (unload_of (s.flights flight)) s.here ≡ false = unloads_away (s.flights flight) s.here (noted_outbound s flight law none.1.0) (law.outbound flight) in
    let left : IsLawful (sent_off s flight o (Some flight) at (waybills_on s.book flight)) = elim (waybills_on s.book flight) as (λ ws. waybills_on s.book flight ≡ ws → IsLawful (sent_off s flight o (Some flight) at (waybills_on s.book flight))) [
      | [] ↦ λ e. absurd (true≢false (sym (ap (λ (n : ℕ). n == 0) (ap length e)) ∙ ap (λ (n : ℕ). n == 0) (sym (length-map (waybills_on s.book flight) (aboard s flight))) ∙ none.1.0))
      | w ∷ ws ↦ λ e. departed_lawful s flight o (Some flight) at refl w ws e refl away law
    ] refl in
    subst (λ (ms : List Move). IsLawful (record (with_note s flight o) { book = s.book ++ ms })) (sym (depart_moves_are s flight at)) left)
