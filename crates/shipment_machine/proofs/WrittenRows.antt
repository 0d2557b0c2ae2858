-- Written rows keep a state lawful.
use Rattle.shipment_machine.proofs.Common.{AllByRecursion, Bool, Cargo, Declare, Declared, Expect, Expected, FlightDate, Holder, IfSome, IsLawful, IsLawfulAmount, IsLawfulMove, IsSome, IsTrue, List, None, NotePart, Option, Part, Some, Trail, UseUp, [], ap, arith, declare, false, if◌then◌else◌, is_line, nat_tests, refl, same_flight_date, subst, sym, true, written, written_all, ℕ, ◌&&◌, ◌++◌, ◌==◌, ◌∷◌, ◌≡◌}
use Rattle.agent_stock.specs.declared.stock.Holder.TheVariants as holder
use Rattle.shipment_machine.proofs.Keeps.{declares}
use Rattle.shipment_machine.proofs.SoundBook.{move_under, all_map, same_number}

moves_in : (s s' : Cargo) → ((w : ℕ) → IsSome (s.declared w) → IsSome (s'.declared w)) → ((k : FlightDate) → IsSome (s.flights k) → IsSome (s'.flights k)) → IsLawful s → AllByRecursion (IsLawfulMove s') s.book
moves_in s s' known noted law = all_map (IsLawfulMove s) (IsLawfulMove s') (move_under s s' known noted) s.book law.moves

pub uses : (text : List ℕ) (s : Cargo) (w : ℕ) → IsSome (s.declared w) → IsLawful s → IsLawful (written text (UseUp w) s)
uses text s w known law = record {
  stocked = law.stocked;
  covered = law.covered;
  within = law.within;
  declarations = law.declarations;
  expectations = law.expectations;
  moves = moves_in s (written text (UseUp w) s) (λ q h. h) (λ k h. h) law;
  trail = law.trail;
  used = λ q. elim (q == w) as (λ b. (q == w) ≡ b → (if b then Some holder.Used else s.holders q) ≡ Some holder.Used → IsSome (s.declared q)) [
    | true ↦ λ e _. subst (λ (x : ℕ). IsSome (s.declared x)) (sym (same_number q w e)) known
    | false ↦ λ _ h. law.used q h
  ] refl;
  closed = law.closed;
  departed = law.departed;
  empty = law.empty;
  room = law.room;
  outbound = law.outbound;
  mark = law.mark;
}

now_known : (s : Cargo) (w : ℕ) (d : Declared) → IsSome (if w == w then Some d else s.declared w)
now_known s w d = let e : (w == w) ≡ true = grind (arith, nat_tests) in ap (λ (b : Bool). is_one (if b then Some d else s.declared w)) e
  where
    is_one : Option Declared → Bool
    is_one None = false
    is_one (Some d) = true

-- a declared waybill, whoever holds its number
pub declared_rows : (text : List ℕ) (who : Option Holder) (s : Cargo) (w : ℕ) (d : Declared) → IsLawfulAmount d.pieces d.tenths → IsLawful s → IsLawful (written_all text (declare who w d) s)
declared_rows text None s w d fine law = declares s w d fine law
declared_rows text (Some holder.Desk) s w d fine law = declares s w d fine law
declared_rows text (Some (holder.Agent code)) s w d fine law = uses text (written text (Declare w d) s) w (now_known s w d) (declares s w d fine law)
declared_rows text (Some holder.Used) s w d fine law = declares s w d fine law
declared_rows text (Some holder.Void) s w d fine law = declares s w d fine law

pub known_after : (text : List ℕ) (who : Option Holder) (s : Cargo) (w : ℕ) (d : Declared) → IsSome ((written_all text (declare who w d) s).declared w)
known_after text None s w d = now_known s w d
known_after text (Some holder.Desk) s w d = now_known s w d
known_after text (Some (holder.Agent code)) s w d = now_known s w d
known_after text (Some holder.Used) s w d = now_known s w d
known_after text (Some holder.Void) s w d = now_known s w d

pub expects : (text : List ℕ) (s : Cargo) (flight : FlightDate) (w : ℕ) (e : Expected) → IsLawfulAmount e.pieces e.tenths → IsSome (s.declared w) → IsLawful s → IsLawful (written text (Expect flight w e) s)
expects text s flight w e fine known law = record {
  stocked = law.stocked;
  covered = law.covered;
  within = law.within;
  declarations = law.declarations;
  expectations = λ k q. elim (q == w) as (λ b. (q == w) ≡ b → IfSome (if same_flight_date k flight && b then Some e else s.expected k q) (λ e. IsLawfulAmount e.pieces e.tenths × IsSome (s.declared q))) [
    | true ↦ λ is. elim (same_flight_date k flight) as (λ b. IfSome (if b && true then Some e else s.expected k q) (λ e. IsLawfulAmount e.pieces e.tenths × IsSome (s.declared q))) [
      | true ↦ (fine, subst (λ (x : ℕ). IsSome (s.declared x)) (sym (same_number q w is)) known)
      | false ↦ law.expectations k q
    ]
    | false ↦ λ _. elim (same_flight_date k flight) as (λ b. IfSome (if b && false then Some e else s.expected k q) (λ e. IsLawfulAmount e.pieces e.tenths × IsSome (s.declared q))) [
      | true ↦ law.expectations k q
      | false ↦ law.expectations k q
    ]
  ] refl;
  moves = moves_in s (written text (Expect flight w e) s) (λ q h. h) (λ k h. h) law;
  trail = law.trail;
  used = law.used;
  closed = law.closed;
  departed = law.departed;
  empty = law.empty;
  room = law.room;
  outbound = law.outbound;
  mark = law.mark;
}

pub notes_part : (text : List ℕ) (s : Cargo) (part : Part) → IsLawful s → IsLawful (written text (NotePart part) s)
notes_part text s part law = record {
  stocked = law.stocked;
  covered = law.covered;
  within = law.within;
  declarations = law.declarations;
  expectations = law.expectations;
  moves = moves_in s (written text (NotePart part) s) (λ q h. h) (λ k h. h) law;
  trail = law.trail;
  used = law.used;
  closed = law.closed;
  departed = law.departed;
  empty = law.empty;
  room = law.room;
  outbound = law.outbound;
  mark = law.mark;
}

all_end : {X : Type 0} (P : X → Type 0) (xs : List X) (y : X) → AllByRecursion P xs → P y → AllByRecursion P (xs ++ y ∷ [])
all_end P [] y h q = (q, tt)
all_end P (x ∷ xs) y h q = (h.0, all_end P xs y h.1 q)

pub trails : (text : List ℕ) (s : Cargo) (w : ℕ) (line : List ℕ) → IsSome (s.declared w) → IsTrue (is_line line) → IsLawful s → IsLawful (written text (Trail w line) s)
trails text s w line known prints law = record {
  stocked = law.stocked;
  covered = law.covered;
  within = law.within;
  declarations = law.declarations;
  expectations = law.expectations;
  moves = moves_in s (written text (Trail w line) s) (λ q h. h) (λ k h. h) law;
  trail = all_end (λ (row : ℕ × List ℕ). IsSome (s.declared row.0) × IsTrue (is_line row.1)) s.trail (w, line) law.trail (known, prints);
  used = law.used;
  closed = law.closed;
  departed = law.departed;
  empty = law.empty;
  room = law.room;
  outbound = law.outbound;
  mark = law.mark;
}
