-- Declarations, manifests' parts and status messages keep a state lawful.
use Rattle.shipment_machine.proofs.Common.{AllByRecursion, Bool, Cargo, CargoLine, Change, Declared, Err, Expect, Expected, FlightDate, HasPieces, Holder, IfOk, IfSome, InboundLine, InboundPart, IsLawful, IsLawfulAmount, IsSome, IsTrue, List, LocalMinute, Move, None, NotePart, Ok, Option, Part, Refusal, Result, Some, Trail, [], all_pieces, amount, and_parts, announced, append-nil, arith, book_weight_of, booked, bytes_eq, carried_out, dated, declaration_view, declare, declared_by, declaring, effect, expected_after, expected_amount, false, filter, first_refusal, fits, if◌then◌else◌, inbound_flight, inbound_part, is_line, is_none, length, line_changes, line_refusals, lines_changes, lines_for, list_all, map, max, not, refl, row_changes, share_heavy, subst, sym, then_write, true, true≢false, unless_refused, unwrap_or, written, written_all, ℕ, ◌&&◌, ◌++◌, ◌+◌, ◌||◌, ◌∷◌, ◌≡◌, ◌≤◌}
use Rattle.agent_stock.specs.declared.stock.Holder.TheVariants as holder
use Rattle.shipment_machine.specs.declared.command.InboundStatus.{InboundStatus}
use Rattle.shipment_machine.specs.declared.command.ShipmentCommand.TheVariants as order
use Rattle.shipment_machine.specs.declared.command.DeskCommand.TheVariants as desk
use Rattle.shipment_machine.proofs.Keeps.{NoneHolds, none_holds, by_refusals, declares}
use Rattle.shipment_machine.proofs.WrittenRows.{declared_rows, known_after, expects, notes_part, trails}
use Rattle.shipment_machine.proofs.KeepsMoves.{is_known, with_moves, rests, fits_parts}

-- Declaring.

keeps_declaring : (text : List ℕ) (s : Cargo) (w : ℕ) (d : Declared) → 1 ≤ d.pieces → d.pieces ≤ d.tenths → NoneHolds (declaring (declaration_view s w) w d).refusals → IsLawful s → IsLawful (written_all text (declare (s.holders w) w d) (with_moves s []))
keeps_declaring text s w d some heavy none law =
    let room = fits_parts (amount d.pieces d.tenths) none.0 in
    declared_rows text (s.holders w) (with_moves s []) w d (record { some = some; not_more = room.0; tenth_a_piece = heavy; not_heavier = room.1 }) (rests s law)

pub keeps_book : (s : Cargo) (w : ℕ) (origin destination : List ℕ) (p t : ℕ) (goods : List ℕ) (at : LocalMinute) (text : List ℕ) → 1 ≤ p → IsLawful s → IfOk (effect s (order.Desk (desk.Book w origin destination p t goods)) at) (λ done. IsLawful (carried_out text done s))
keeps_book s w origin destination p t goods at text some law = by_refusals s (order.Desk (desk.Book w origin destination p t goods)) at _ (λ none.
    keeps_declaring text s w (dated at.day (booked origin destination p t goods)) some (heavier t p) none law)
  where
    heavier : (t p : ℕ) → p ≤ max t p
    heavier t p = omega arith

pub keeps_amend : (s : Cargo) (w : ℕ) (origin destination : List ℕ) (p t : ℕ) (goods : List ℕ) (at : LocalMinute) (text : List ℕ) → 1 ≤ p → IsLawful s → IfOk (effect s (order.Desk (desk.Amend w origin destination p t goods)) at) (λ done. IsLawful (carried_out text done s))
keeps_amend s w origin destination p t goods at text some law = by_refusals s (order.Desk (desk.Amend w origin destination p t goods)) at _ (λ none.
    let d : Declared = dated at.day (booked origin destination p t goods) in
    let room = fits_parts (amount d.pieces d.tenths) none.1.1.0 in
    declares (with_moves s []) w d (record { some = some; not_more = room.0; tenth_a_piece = heavier t p; not_heavier = room.1 }) (rests s law))
  where
    heavier : (t p : ℕ) → p ≤ max t p
    heavier t p = omega arith

line_some : (c : CargoLine) → 1 ≤ c.pieces → 1 ≤ all_pieces c
line_some c some = more c.pieces (unwrap_or c.total 0) some
  where
    more : (a b : ℕ) → 1 ≤ a → 1 ≤ max a b
    more a b h = omega arith

line_heavy : (c : CargoLine) → 1 ≤ c.pieces → all_pieces c ≤ (declared_by c).tenths
line_heavy c some = share_heavy c.pieces (book_weight_of c.pieces c.tenths) (all_pieces c) some (heavier c.tenths c.pieces)
  where
    heavier : (t p : ℕ) → p ≤ max t p
    heavier t p = omega arith

pub keeps_fwb : (s : Cargo) (c : CargoLine) (at : LocalMinute) (text : List ℕ) → 1 ≤ c.pieces → IsLawful s → IfOk (effect s (order.Fwb c) at) (λ done. IsLawful (carried_out text done s))
keeps_fwb s c at text some law = by_refusals s (order.Fwb c) at _ (λ none.
    keeps_declaring text s c.awb (dated at.day (declared_by c)) (line_some c some) (line_heavy c some) none law)

-- A part of a manifest.

written_append : (text : List ℕ) (first rest : List Change) (s : Cargo) → written_all text (first ++ rest) s ≡ written_all text rest (written_all text first s)
written_append text [] rest s = refl
written_append text (change ∷ first) rest s = written_append text first rest (written text change s)

-- a line notes no part, so the telegram's text doesn't count
text_blind : (text : List ℕ) (new : Bool) (who : Option Holder) (so_far : Option Expected) (flight : FlightDate) (today : ℕ) (c : CargoLine) (s : Cargo) → written_all text (row_changes new who so_far flight today c) s ≡ written_all [] (row_changes new who so_far flight today c) s
text_blind text true None so_far flight today c s = refl
text_blind text true (Some holder.Desk) so_far flight today c s = refl
text_blind text true (Some (holder.Agent code)) so_far flight today c s = refl
text_blind text true (Some holder.Used) so_far flight today c s = refl
text_blind text true (Some holder.Void) so_far flight today c s = refl
text_blind text false who so_far flight today c s = refl

more_heavy : (o : Option Expected) (P : Type 0) → IfSome o (λ e. IsLawfulAmount e.pieces e.tenths × P) → (expected_amount o).pieces ≤ (expected_amount o).tenths
more_heavy None P h = omega arith
more_heavy (Some e) P h = let law = h.0 in law.tenth_a_piece

either_false : (a b : Bool) → (a || b) ≡ false → (a ≡ false) × (b ≡ false)
either_false true b e = absurd (true≢false e)
either_false false b e = (refl, e)

fine_after : (o : Option Expected) (c : CargoLine) → (expected_amount o).pieces ≤ (expected_amount o).tenths → 1 ≤ c.pieces → not (fits (amount (expected_after o c).pieces (expected_after o c).tenths)) ≡ false → IsLawfulAmount (expected_after o c).pieces (expected_after o c).tenths
fine_after o c heavy some room =
    let r = fits_parts (amount (expected_after o c).pieces (expected_after o c).tenths) room in
    record { some = more (expected_amount o).pieces c.pieces some; not_more = r.0; tenth_a_piece = weighs (expected_amount o).pieces (expected_amount o).tenths c.pieces c.tenths heavy; not_heavier = r.1 }
  where
    more : (a b : ℕ) → 1 ≤ b → 1 ≤ a + b
    more a b h = omega arith

    weighs : (a b p t : ℕ) → a ≤ b → a + p ≤ b + max t p
    weighs a b p t h = omega arith

keeps_line : (s : Cargo) (flight : FlightDate) (today : ℕ) (c : CargoLine) → 1 ≤ c.pieces → NoneHolds (line_refusals s flight c) → IsLawful s → IsLawful (written_all [] (line_changes s flight today c) s)
keeps_line s flight today c some none law =
    let room = either_false _ _ none.1.1.0 in
    let e = expected_after (s.expected flight c.awb) c in
    let fine : IsLawfulAmount e.pieces e.tenths = fine_after (s.expected flight c.awb) c (more_heavy (s.expected flight c.awb) _ (law.expectations flight c.awb)) some room.1 in
    elim (is_none (s.declared c.awb)) as (λ b. is_none (s.declared c.awb) ≡ b → (b && not (fits (amount (declared_by c).pieces (declared_by c).tenths))) ≡ false → IsLawful (written_all [] (row_changes b (s.holders c.awb) (s.expected flight c.awb) flight today c) s)) [
      | true ↦ λ _ fit.
          let r = fits_parts (amount (declared_by c).pieces (declared_by c).tenths) fit in
          let declared : IsLawful (written_all [] (declare (s.holders c.awb) c.awb (dated today (declared_by c))) s) = declared_rows [] (s.holders c.awb) s c.awb (dated today (declared_by c))
          (record { some = line_some c some; not_more = r.0; tenth_a_piece = line_heavy c some; not_heavier = r.1 }) law in
          subst (λ (t : Cargo). IsLawful t) (sym (written_append [] (declare (s.holders c.awb) c.awb (dated today (declared_by c))) (Expect flight c.awb e ∷ []) s))
          (expects [] (written_all [] (declare (s.holders c.awb) c.awb (dated today (declared_by c))) s) flight c.awb e fine (known_after [] (s.holders c.awb) s c.awb (dated today (declared_by c))) declared)
      | false ↦ λ old _. expects [] s flight c.awb e fine (is_known (s.declared c.awb) old) law
    ] refl room.0

abbrev pub AllHavePieces : List CargoLine → Type 0
AllHavePieces cs = AllByRecursion (λ (c : CargoLine). 1 ≤ c.pieces) cs

then_lawful : (text : List ℕ) (s s1 : Cargo) (first : List Change) (r : Result (List Change) Refusal) → written_all text first s ≡ s1 → IfOk r (λ changes. IsLawful (written_all text changes s1)) → IfOk (then_write first r) (λ changes. IsLawful (written_all text changes s))
then_lawful text s s1 first (Ok rest) e h = subst (λ (t : Cargo). IsLawful t) (sym (written_append text first rest s)) (subst (λ (t : Cargo). IsLawful (written_all text rest t)) (sym e) h)
then_lawful text s s1 first (Err refusal) e h = tt

keeps_lines : (text : List ℕ) (flight : FlightDate) (today : ℕ) (cs : List CargoLine) (s : Cargo) → AllHavePieces cs → IsLawful s → IfOk (lines_changes s flight today cs) (λ changes. IsLawful (written_all text changes s))
keeps_lines text flight today [] s some law = law
keeps_lines text flight today (c ∷ cs) s some law =
    let s1 : Cargo = written_all [] (line_changes s flight today c) s in
    elim (first_refusal (line_refusals s flight c)) as (λ o. first_refusal (line_refusals s flight c) ≡ o → IfOk (unless_refused o (then_write (line_changes s flight today c) (lines_changes s1 flight today cs))) (λ changes. IsLawful (written_all text changes s))) [
      | Some r ↦ λ _. tt
      | None ↦ λ e. then_lawful text s s1 (line_changes s flight today c) (lines_changes s1 flight today cs)
          (text_blind text (is_none (s.declared c.awb)) (s.holders c.awb) (s.expected flight c.awb) flight today c s)
          (keeps_lines text flight today cs s1 some.1 (keeps_line s flight today c some.0 (none_holds (line_refusals s flight c) e) law))
    ] refl

pub here_have_pieces : (here : List ℕ) (lines : List InboundLine) → AllByRecursion HasPieces lines → AllHavePieces (lines_for here lines)
here_have_pieces here [] h = tt
here_have_pieces here (l ∷ lines) h = elim (bytes_eq l.unload here) as (λ b. AllHavePieces (map (λ (l : InboundLine). l.cargo) (if b then l ∷ filter (λ (l : InboundLine). bytes_eq l.unload here) lines else filter (λ (l : InboundLine). bytes_eq l.unload here) lines))) [
  | true ↦ (h.0, here_have_pieces here lines h.1)
  | false ↦ here_have_pieces here lines h.1
]

announced_lawful : (text : List ℕ) (s : Cargo) (key : Part) (count : ℕ) (r : Result (List Change) Refusal) → IfOk r (λ changes. IsLawful (written_all text changes s)) → IfOk (announced key count r) (λ done. IsLawful (carried_out text done s))
announced_lawful text s key count (Ok changes) h =
    subst (λ (book : List Move). IsLawful (written_all text (changes ++ NotePart key ∷ []) (record s { book = book }))) (sym (append-nil s.book))
    (subst (λ (t : Cargo). IsLawful t) (sym (written_append text changes (NotePart key ∷ []) s)) (notes_part text (written_all text changes s) key h))
announced_lawful text s key count (Err refusal) h = tt

pub keeps_ffm : (s : Cargo) (f : InboundPart) (at : LocalMinute) (text : List ℕ) → AllHavePieces (lines_for s.here f.lines) → IsLawful s → IfOk (effect s (order.Ffm f) at) (λ done. IsLawful (carried_out text done s))
keeps_ffm s f at text some law = by_refusals s (order.Ffm f) at _ (λ none.
    announced_lawful text s (inbound_part f at) (length (lines_for s.here f.lines)) (lines_changes s (inbound_flight f at) at.day (lines_for s.here f.lines))
    (keeps_lines text (inbound_flight f at) at.day (lines_for s.here f.lines) s some law))

-- A status message.

keeps_trail : (text : List ℕ) (w : ℕ) (lines : List (List ℕ)) (s : Cargo) → IsSome (s.declared w) → IsTrue (list_all is_line lines) → IsLawful s → IsLawful (written_all text (map (λ (line : List ℕ). Trail w line) lines) s)
keeps_trail text w [] s known print law = law
keeps_trail text w (line ∷ lines) s known print law =
    let parts = and_parts (is_line line) (list_all is_line lines) print in
    keeps_trail text w lines (written text (Trail w line) s) known parts.1 (trails text s w line known parts.0 law)

pub keeps_fsu : (s : Cargo) (f : InboundStatus) (at : LocalMinute) (text : List ℕ) → IsTrue (list_all is_line f.lines) → IsLawful s → IfOk (effect s (order.Fsu f) at) (λ done. IsLawful (carried_out text done s))
keeps_fsu s f at text print law = by_refusals s (order.Fsu f) at _ (λ none.
    keeps_trail text f.awb f.lines (with_moves s []) (is_known (s.declared f.awb) none.0) print (rests s law))
