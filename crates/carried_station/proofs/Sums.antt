-- Sums of the carried waybills, of those left out, and of all.
use Rattle.std.proofs.Common.{◌≡◌, ◌∙◌, refl, sym, ap, arith, ℕ, ◌+◌, ◌-◌, ◌==◌, Bool, true, false, true≢false, not, ◌&&◌, List, [], ◌∷◌}
use Rattle.std.specs.Bool.{if◌then◌else◌}
use Rattle.std.specs.List.{sum_by}
use Rattle.std.proofs.lemmas.Bool.{eqb-true}
use Rattle.std.proofs.lemmas.List.Sums.{sum_by-cons}
use Rattle.std.proofs.lemmas.List.Filters.{sum_by-filter_both}
use Rattle.shipment_machine.specs.declared.moves.Move.{Move}
use Rattle.shipment_machine.specs.declared.moves.Place.{Place}
use Rattle.shipment_machine.specs.declared.moves.Place.TheVariants.{Hand, Surplus, Free, Missing, Departed, Delivered, Transferred}
use Rattle.shipment_machine.specs.Book.{amount, balances_of, brings, drawn, held, moved_in, moved_out, pieces_of, plus, same_place, takes, taken_and_found, tenths_of}
use Rattle.carried_station.specs.Carried.{Choice, carried_moves}
use Rattle.carried_station.specs.Laws.{SumsAgree}

-- a waybill that is left out isn't one that is carried
pub differs : (c : Choice) (v w : ℕ) → c.waybill v ≡ false → c.waybill w ≡ true → (v == w) ≡ false
differs c v w off on = elim (v == w) as (λ b. (v == w) ≡ b → b ≡ false) [
  | true ↦ λ e. absurd (true≢false (sym on ∙ ap c.waybill (sym (eqb-true v w e)) ∙ off))
  | false ↦ λ _. refl
] refl

differs_too : (c : Choice) (v w : ℕ) → c.waybill v ≡ true → c.waybill w ≡ false → (v == w) ≡ false
differs_too c v w on off = elim (v == w) as (λ b. (v == w) ≡ b → b ≡ false) [
  | true ↦ λ e. absurd (true≢false (sym on ∙ ap c.waybill (eqb-true v w e) ∙ off))
  | false ↦ λ _. refl
] refl

-- a sum in which the left out count nothing is that of the carried
sum_kept : (c : Choice) (f : Move → ℕ) → ((m : Move) → c.waybill m.awb ≡ false → f m ≡ 0) → (book : List Move) → sum_by f (carried_moves c book) ≡ sum_by f book
sum_kept c f nothing [] = refl
sum_kept c f nothing (m ∷ book) =
    let rest = sum_kept c f nothing book in
    elim (c.waybill m.awb) as (λ b. c.waybill m.awb ≡ b → sum_by f (if b then m ∷ carried_moves c book else carried_moves c book) ≡ sum_by f (m ∷ book)) [
      | true ↦ λ _. sum_by-cons f m (carried_moves c book) ∙ ap (λ n. f m + n) rest ∙ sym (sum_by-cons f m book)
      | false ↦ λ off. rest ∙ without (f m) (sum_by f book) (nothing m off) ∙ sym (sum_by-cons f m book)
    ] refl
  where
    without : (n sum : ℕ) → n ≡ 0 → sum ≡ n + sum
    without n sum e = omega arith

-- a sum in which the carried count nothing is nothing in the carried
sum_gone : (c : Choice) (f : Move → ℕ) → ((m : Move) → c.waybill m.awb ≡ true → f m ≡ 0) → (book : List Move) → sum_by f (carried_moves c book) ≡ 0
sum_gone c f nothing [] = refl
sum_gone c f nothing (m ∷ book) =
    let rest = sum_gone c f nothing book in
    elim (c.waybill m.awb) as (λ b. c.waybill m.awb ≡ b → sum_by f (if b then m ∷ carried_moves c book else carried_moves c book) ≡ 0) [
      | true ↦ λ on. sum_by-cons f m (carried_moves c book) ∙ both (f m) (sum_by f (carried_moves c book)) (nothing m on) rest
      | false ↦ λ _. rest
    ] refl
  where
    both : (n sum : ℕ) → n ≡ 0 → sum ≡ 0 → n + sum ≡ 0
    both n sum e f = omega arith

nothing_of : (own there : Bool) (n : ℕ) → own ≡ false → (if own && there then n else 0) ≡ 0
nothing_of true there n e = absurd (true≢false e)
nothing_of false there n e = refl

-- What moved of a carried waybill is what moved of it in the carried moves.
module _ (c : Choice) (book : List Move) (w : ℕ) (on : c.waybill w ≡ true) where
  pub same_in : (measure : Move → ℕ) (there : Place → Bool) → moved_in measure (carried_moves c book) w there ≡ moved_in measure book w there
  same_in measure there = sum_kept c (brings measure w there) (λ m off. nothing_of (m.awb == w) (there m.to) (measure m) (differs c m.awb w off on)) book

  pub same_out : (measure : Move → ℕ) (there : Place → Bool) → moved_out measure (carried_moves c book) w there ≡ moved_out measure book w there
  same_out measure there = sum_kept c (takes measure w there) (λ m off. nothing_of (m.awb == w) (there m.from) (measure m) (differs c m.awb w off on)) book

  pub same_held : (there : Place → Bool) → held (carried_moves c book) w there ≡ held book w there
  same_held there = λ i. amount (same_in pieces_of there i - same_out pieces_of there i) (same_in tenths_of there i - same_out tenths_of there i)

  pub same_drawn : (there : Place → Bool) → drawn (carried_moves c book) w there ≡ drawn book w there
  same_drawn there = λ i. amount (same_out pieces_of there i - same_in pieces_of there i) (same_out tenths_of there i - same_in tenths_of there i)

  pub same_taken_and_found : taken_and_found (carried_moves c book) w ≡ taken_and_found book w
  same_taken_and_found = λ i. plus (same_drawn (same_place Hand) i) (same_drawn (same_place Surplus) i)

  pub same_balances : balances_of (carried_moves c book) w ≡ balances_of book w
  same_balances = λ i. record {
    taken = same_drawn (same_place Hand) i;
    found = same_drawn (same_place Surplus) i;
    free = same_held (same_place Free) i;
    missing = same_held (same_place Missing) i;
    departed = same_held (same_place Departed) i;
    delivered = same_held (same_place Delivered) i;
    transferred = same_held (same_place Transferred) i;
  }

-- Nothing of a waybill that is left out moved in the carried moves.
module _ (c : Choice) (book : List Move) (w : ℕ) (off : c.waybill w ≡ false) where
  pub nothing_in : (measure : Move → ℕ) (there : Place → Bool) → moved_in measure (carried_moves c book) w there ≡ 0
  nothing_in measure there = sum_gone c (brings measure w there) (λ m on. nothing_of (m.awb == w) (there m.to) (measure m) (differs_too c m.awb w on off)) book

  pub nothing_out : (measure : Move → ℕ) (there : Place → Bool) → moved_out measure (carried_moves c book) w there ≡ 0
  nothing_out measure there = sum_gone c (takes measure w there) (λ m on. nothing_of (m.awb == w) (there m.from) (measure m) (differs_too c m.awb w on off)) book

  pub nothing_held : (there : Place → Bool) → held (carried_moves c book) w there ≡ amount 0 0
  nothing_held there = λ i. amount (nothing_in pieces_of there i - nothing_out pieces_of there i) (nothing_in tenths_of there i - nothing_out tenths_of there i)

  pub nothing_drawn : (there : Place → Bool) → drawn (carried_moves c book) w there ≡ amount 0 0
  nothing_drawn there = λ i. amount (nothing_out pieces_of there i - nothing_in pieces_of there i) (nothing_out tenths_of there i - nothing_in tenths_of there i)

  pub nothing_taken_and_found : taken_and_found (carried_moves c book) w ≡ amount 0 0
  nothing_taken_and_found = λ i. plus (nothing_drawn (same_place Hand) i) (nothing_drawn (same_place Surplus) i)

-- the sums of all are those of the carried and of the left out
pub sums_agree : (measure : Move → ℕ) (c : Choice) (book : List Move) (there : Place → Bool) → SumsAgree measure c book there
sums_agree measure c book there = record {
  came = sym (sum_by-filter_both (λ (m : Move). c.waybill m.awb) (λ m. not (c.waybill m.awb)) (λ _. refl) (λ m. if there m.to then measure m else 0) book);
  went = sym (sum_by-filter_both (λ (m : Move). c.waybill m.awb) (λ m. not (c.waybill m.awb)) (λ _. refl) (λ m. if there m.from then measure m else 0) book);
}
