-- Commands that keep a state lawful.
use Rattle.shipment_machine.proofs.Common.{AllByRecursion, Bool, Cargo, Declared, Expected, IfOk, IfSome, IsLawful, IsLawfulAmount, IsSome, List, LocalMinute, Move, None, Option, Outcome, Refusal, ShipmentCommand, Some, [], append-nil, carried_out, declaration, effect, false, first_refusal, if◌then◌else◌, is_none, ltb-false, refl, rule, subst, sym, true, true≢false, undeclared, unless_refused, unwrap_or, ℕ, ◌==◌, ◌||◌, ◌∷◌, ◌≡◌}
use Rattle.shipment_machine.specs.declared.command.ShipmentCommand.TheVariants as order
use Rattle.shipment_machine.specs.declared.command.DeskCommand.TheVariants as desk
use Rattle.shipment_machine.proofs.Places.{noted_under}

-- no test of a list of refusals holds
abbrev pub NoneHolds : List (Bool × Refusal) → Type 0
NoneHolds tests = AllByRecursion (λ (t : Bool × Refusal). t.0 ≡ false) tests

pub none_holds : (tests : List (Bool × Refusal)) → first_refusal tests ≡ None → NoneHolds tests
none_holds [] e = tt
none_holds (t ∷ tests) e =
    elim t.0 as (λ b. t.0 ≡ b → (if b then Some t.1 else first_refusal tests) ≡ None → (t.0 ≡ false) × NoneHolds tests) [
      | true ↦ λ _ e. absurd (not_none e)
      | false ↦ λ is e. (is, none_holds tests e)
    ] refl e
  where
    not_none : {A : Type 0} {x : A} → Some x ≡ None → ⊥
    not_none e = cc

-- what holds of the outcome, where no test of the refusals holds, holds of the effect
pub by_refusals : (s : Cargo) (command : ShipmentCommand) (at : LocalMinute) (P : Outcome → Type 0) → (NoneHolds (rule s command at).refusals → IfOk (rule s command at).outcome P) → IfOk (effect s command at) P
by_refusals s command at P holds =
    elim (first_refusal (rule s command at).refusals) as (λ o. first_refusal (rule s command at).refusals ≡ o → IfOk (unless_refused o (rule s command at).outcome) P) [
      | Some r ↦ λ _. tt
      | None ↦ λ e. holds (none_holds (rule s command at).refusals e)
    ] refl

all_map : {X : Type 0} (P Q : X → Type 0) → ((x : X) → P x → Q x) → (xs : List X) → AllByRecursion P xs → AllByRecursion Q xs
all_map P Q f [] h = tt
all_map P Q f (x ∷ xs) h = (f x h.0, all_map P Q f xs h.1)

either_false : (a b : Bool) → (a || b) ≡ false → b ≡ false
either_false true b e = absurd (true≢false e)
either_false false b e = e

pub keeps_confirm : (s : Cargo) (upto : ℕ) (at : LocalMinute) (text : List ℕ) → IsLawful s → IfOk (effect s (order.Desk (desk.Confirm upto)) at) (λ done. IsLawful (carried_out text done s))
keeps_confirm s upto at text law = by_refusals s (order.Desk (desk.Confirm upto)) at _ (λ none.
    subst (λ (book : List Move). IsLawful (record s { book = book; confirmed = upto })) (sym (append-nil s.book)) (record {
      stocked = law.stocked;
      covered = law.covered;
      within = law.within;
      declarations = law.declarations;
      expectations = law.expectations;
      moves = all_map _ _ (λ m l. record { pair = l.pair; some = l.some; not_more = l.not_more; declared = l.declared; noted_from = noted_under s (record s { confirmed = upto }) (λ k h. h) m.from l.noted_from; noted_to = noted_under s (record s { confirmed = upto }) (λ k h. h) m.to l.noted_to; names_from = l.names_from; names_to = l.names_to }) s.book law.moves;
      trail = law.trail;
      used = law.used;
      closed = law.closed;
      departed = law.departed;
      empty = law.empty;
      room = law.room;
      outbound = law.outbound;
      mark = ltb-false _ _ (either_false _ _ none.0);
    }))

-- a waybill with a new declaration
abbrev with_declared : Cargo → ℕ → Declared → Cargo
with_declared s w d = record s { declared = λ q. if q == w then Some d else s.declared q }

chosen : (P : Declared → Type 0) (b : Bool) (d : Declared) (o : Option Declared) → P d → IfSome o P → IfSome (if b then Some d else o) P
chosen P true d o new old = new
chosen P false d o new old = old

still_some : (b : Bool) (d : Declared) (o : Option Declared) → IsSome o → IsSome (if b then Some d else o)
still_some true d o h = refl
still_some false d o h = h

still_expected : (o : Option Expected) (P Q : Type 0) → (P → Q) → IfSome o (λ e. IsLawfulAmount e.pieces e.tenths × P) → IfSome o (λ e. IsLawfulAmount e.pieces e.tenths × Q)
still_expected None P Q f h = tt
still_expected (Some e) P Q f h = (h.0, f h.1)

-- a lawful amount may be declared
pub declares : (s : Cargo) (w : ℕ) (d : Declared) → IsLawfulAmount d.pieces d.tenths → IsLawful s → IsLawful (with_declared s w d)
declares s w d fine law = record {
  stocked = law.stocked;
  covered = law.covered;
  within = law.within;
  declarations = λ q. chosen (λ d. IsLawfulAmount d.pieces d.tenths) (q == w) d (s.declared q) fine (law.declarations q);
  expectations = λ k q. still_expected (s.expected k q) _ _ (still_some (q == w) d (s.declared q)) (law.expectations k q);
  moves = all_map _ _ (λ m l. record { pair = l.pair; some = l.some; not_more = l.not_more; declared = still_some (m.awb == w) d (s.declared m.awb) l.declared; noted_from = noted_under s (with_declared s w d) (λ k h. h) m.from l.noted_from; noted_to = noted_under s (with_declared s w d) (λ k h. h) m.to l.noted_to; names_from = l.names_from; names_to = l.names_to }) s.book law.moves;
  trail = all_map _ _ (λ (row : ℕ × List ℕ) h. (still_some (row.0 == w) d (s.declared row.0) h.0, h.1)) s.trail law.trail;
  used = λ q e. still_some (q == w) d (s.declared q) (law.used q e);
  closed = law.closed;
  departed = law.departed;
  empty = law.empty;
  room = law.room;
  outbound = law.outbound;
  mark = law.mark;
}

known : (P : Declared → Type 0) (o : Option Declared) → is_none o ≡ false → IfSome o P → P (unwrap_or o undeclared)
known P None e h = absurd (true≢false e)
known P (Some d) e h = h

pub keeps_notify : (s : Cargo) (w : ℕ) (name : List ℕ) (at : LocalMinute) (text : List ℕ) → IsLawful s → IfOk (effect s (order.Desk (desk.Notify w name)) at) (λ done. IsLawful (carried_out text done s))
keeps_notify s w name at text law = by_refusals s (order.Desk (desk.Notify w name)) at _ (λ none.
    subst (λ (book : List Move). IsLawful (with_declared (record s { book = book }) w (record (declaration s w) { notified = true }))) (sym (append-nil s.book))
    (declares s w (record (declaration s w) { notified = true }) (known (λ d. IsLawfulAmount d.pieces d.tenths) (s.declared w) none.0 (law.declarations w)) law))
