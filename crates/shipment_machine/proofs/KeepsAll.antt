-- Whatever is done, a lawful state stays lawful. The commands that take up few lines are here, the others in files of their own.
use Rattle.shipment_machine.proofs.Common.{Amount, Bool, Built, Cargo, Delivered, FlightDate, Free, Hand, HasPieces, IfOk, IsLawful, IsNoted, IsSome, KeepsLawful, List, LocalMinute, Missing, Move, NamesFlight, None, Option, Place, Some, Surplus, Transferred, amount, append_assoc, arith, built, carried_out, effect, false, free, is_pair, ltb-false, max, min, missing, move_of, nat_lt, part, pieces_of, plus, recursion_from_All, refl, same_place, subst, suc, surplus, taken, taken_and_found, tenths_of, true, true≢false, zero, ℕ, ◌+◌, ◌-◌, ◌||◌, ◌≡◌, ◌≤◌}
use Rattle.shipment_machine.specs.declared.command.DeskCommand.{DeskCommand}
use Rattle.shipment_machine.specs.declared.command.DeskCommand.TheVariants as desk
use Rattle.shipment_machine.specs.declared.command.ShipmentCommand.TheVariants as order
use Rattle.shipment_machine.proofs.Places.{is_built}
use Rattle.shipment_machine.proofs.Conserved.{came, held_free, held_built, held_missing}
use Rattle.shipment_machine.proofs.Keeps.{by_refusals, keeps_confirm, keeps_notify}
use Rattle.shipment_machine.proofs.SoundBook.{there_are}
use Rattle.shipment_machine.proofs.PlainMoves.{lawful_after}
use Rattle.shipment_machine.proofs.FlightMoves.{offloaded}
use Rattle.shipment_machine.proofs.Departed.{noted_load}
use Rattle.shipment_machine.proofs.KeepsMoves.{is_known, with_moves, may_move, inside_back, inside_fits, outside_fits, came_inside, fits_parts}
use Rattle.shipment_machine.proofs.KeepsFlights.{keeps_check_in, keeps_strike, keeps_manifest, keeps_reroute, keeps_depart}
use Rattle.shipment_machine.proofs.KeepsRows.{keeps_book, keeps_amend, keeps_fwb, keeps_ffm, keeps_fsu, here_have_pieces}

-- what a command of the desk makes of a lawful state is lawful
abbrev Keeps : Cargo → DeskCommand → Type 0
Keeps s command = (at : LocalMinute) (text : List ℕ) → IsLawful s → IfOk (effect s (order.Desk command) at) (λ done. IsLawful (carried_out text done s))

-- a part of the free cargo may go to a place that isn't built
free_to : (s : Cargo) (w p : ℕ) (to : Place) (flight : Option FlightDate) (at : LocalMinute) → is_pair Free to ≡ true → same_place Hand to ≡ false → is_built to ≡ false → IsNoted s to → NamesFlight to flight
    → IsSome (s.declared w) → p ≤ there_are pieces_of s.book w Free → IsLawful s → IsLawful (with_moves s (move_of w Free to (part (free s.book w) p) flight at))
free_to s w p to flight at pair stays plain noted names known within law =
    let held = held_free s w law in
    may_move s w Free to (part (free s.book w) p) flight at (λ some.
    lawful_after s _ (inside_fits s w p Free to flight at refl pair stays some within known tt noted tt names held.pieces law) refl plain law) law

-- Receive.

keeps_receive : (s : Cargo) (w p t : ℕ) (name : List ℕ) → Keeps s (desk.Receive w p t name)
keeps_receive s w p t name at text law = by_refusals s (order.Desk (desk.Receive w p t name)) at _ (λ none.
    let a : Amount = amount p (max t p) in
    let room = fits_parts (plus (taken_and_found s.book w) a) none.1.1.1.0 in
    may_move s w Hand Free a None at (λ some.
    lawful_after s _ (outside_fits s w p (max t p) Hand Free None at refl refl refl some (heavier t p) (is_known (s.declared w) none.0) tt tt tt tt room.0 room.1) refl refl law) law)
  where
    heavier : (t p : ℕ) → p ≤ max t p
    heavier t p = omega arith

-- Withdraw.

keeps_withdraw : (s : Cargo) (w p : ℕ) (name : List ℕ) → Keeps s (desk.Withdraw w p name)
keeps_withdraw s w p name at text law = by_refusals s (order.Desk (desk.Withdraw w p name)) at _ (λ none.
    let held = held_free s w law in
    let a : Amount = part (free s.book w) p in
    let most = both_false (nat_lt (taken s.book w).pieces p) (nat_lt (taken s.book w).tenths a.tenths) none.1.1.1.0 in
    let within : p ≤ there_are pieces_of s.book w Free = ltb-false _ _ none.1.1.0 in
    may_move s w Free Hand a None at (λ some.
    lawful_after s _ (inside_back s w p Free Hand None at refl refl (λ _. (ltb-false _ _ most.0, ltb-false _ _ most.1)) some within (is_known (s.declared w) none.0) tt tt tt tt held.pieces law) refl refl law) law)
  where
    both_false : (a b : Bool) → (a || b) ≡ false → (a ≡ false) × (b ≡ false)
    both_false true b e = absurd (true≢false e)
    both_false false b e = (refl, e)

-- Deliver, transfer and missing.

keeps_deliver : (s : Cargo) (w p : ℕ) (name : List ℕ) → Keeps s (desk.Deliver w p name)
keeps_deliver s w p name at text law = by_refusals s (order.Desk (desk.Deliver w p name)) at _ (λ none.
    free_to s w p Delivered None at refl refl refl tt tt (is_known (s.declared w) none.0) (ltb-false _ _ none.1.1.1.0) law)

keeps_transfer : (s : Cargo) (w p : ℕ) (airline : List ℕ) → Keeps s (desk.Transfer w p airline)
keeps_transfer s w p airline at text law = by_refusals s (order.Desk (desk.Transfer w p airline)) at _ (λ none.
    free_to s w p Transferred None at refl refl refl tt tt (is_known (s.declared w) none.0) (ltb-false _ _ none.1.1.0) law)

keeps_missing : (s : Cargo) (w p : ℕ) (flight : Option FlightDate) → Keeps s (desk.Missing w p flight)
keeps_missing s w p flight at text law = by_refusals s (order.Desk (desk.Missing w p flight)) at _ (λ none.
    free_to s w p Missing flight at refl refl refl tt tt (is_known (s.declared w) none.0) (ltb-false _ _ none.1.0) law)

-- Offload.

keeps_offload : (s : Cargo) (w p : ℕ) (flight : FlightDate) → Keeps s (desk.Offload w flight p)
keeps_offload s w p flight at text law = by_refusals s (order.Desk (desk.Offload w flight p)) at _ (λ none.
    may_move s w (Built flight) Free (part (built s.book w flight) p) (Some flight) at (λ some.
    let held = held_built s w flight law in
    let within : p ≤ there_are pieces_of s.book w (Built flight) = ltb-false _ _ none.1.1.0 in
    offloaded s w p _ flight (Some flight) at
    (inside_fits s w p (Built flight) Free (Some flight) at refl refl refl some within (is_known (s.declared w) none.0) (noted_load s w flight law (omega arith)) tt refl tt held.pieces law) law) law)

-- Found.

back_held : (s : Cargo) (w p : ℕ) → min p (there_are pieces_of s.book w Missing) ≤ there_are pieces_of s.book w Missing
back_held s w p = omega arith

surplus_heavy : (n t : ℕ) → (surplus n t).pieces ≤ (surplus n t).tenths
surplus_heavy zero t = omega arith
surplus_heavy (suc n) t = omega arith

keeps_found : (s : Cargo) (w p t : ℕ) (flight : Option FlightDate) → Keeps s (desk.Found w p t flight)
keeps_found s w p t flight at text law = by_refusals s (order.Desk (desk.Found w p t flight)) at _ (λ none.
    let known : IsSome (s.declared w) = is_known (s.declared w) none.0 in
    let held = held_missing s w law in
    let back : Amount = part (missing s.book w) (min p (missing s.book w).pieces) in
    let more : Amount = surplus (p - (missing s.book w).pieces) t in
    let room = fits_parts (plus (taken_and_found s.book w) more) none.1.0 in
    let s1 : Cargo = with_moves s (move_of w Missing Free back flight at) in
    let law1 : IsLawful s1 = may_move s w Missing Free back flight at (λ some.
    lawful_after s _ (inside_fits s w (min p (missing s.book w).pieces) Missing Free flight at refl refl refl some (back_held s w p) known tt tt tt tt held.pieces law) refl refl law) law in
    let pieces1 : came pieces_of s1.book w ≤ came pieces_of s.book w = came_inside s pieces_of w Missing Free back flight at refl refl law in
    let tenths1 : came tenths_of s1.book w ≤ came tenths_of s.book w = came_inside s tenths_of w Missing Free back flight at refl refl law in
    let all : came pieces_of s.book w + more.pieces ≤ 9999 = room.0 in
    let heavy : came tenths_of s.book w + more.tenths ≤ 999999 = room.1 in
    let law2 : IsLawful (with_moves s1 (move_of w Surplus Free more flight at)) = may_move s1 w Surplus Free more flight at (λ some.
    lawful_after s1 _ (outside_fits s1 w more.pieces more.tenths Surplus Free flight at refl refl refl some (surplus_heavy (p - (missing s.book w).pieces) t) known tt tt tt tt (omega arith) (omega arith)) refl refl law1) law1 in
    subst (λ (book : List Move). IsLawful (record s { book = book })) (append_assoc {A = Move} s.book (move_of w Missing Free back flight at) (move_of w Surplus Free more flight at)) law2)

pub keeps_lawful : KeepsLawful
keeps_lawful s (order.Desk (desk.Book w origin destination p t goods)) at text law proper = keeps_book s w origin destination p t goods at text proper law
keeps_lawful s (order.Desk (desk.Amend w origin destination p t goods)) at text law proper = keeps_amend s w origin destination p t goods at text proper law
keeps_lawful s (order.Desk (desk.Receive w p t name)) at text law proper = keeps_receive s w p t name at text law
keeps_lawful s (order.Desk (desk.Withdraw w p name)) at text law proper = keeps_withdraw s w p name at text law
keeps_lawful s (order.Desk (desk.Manifest w flight unload p)) at text law proper = keeps_manifest s w p flight unload at text law
keeps_lawful s (order.Desk (desk.Offload w flight p)) at text law proper = keeps_offload s w p flight at text law
keeps_lawful s (order.Desk (desk.Reroute flight unload)) at text law proper = keeps_reroute s flight unload at text law
keeps_lawful s (order.Desk (desk.Depart flight)) at text law proper = keeps_depart s flight at text law
keeps_lawful s (order.Desk (desk.CheckIn w flight counted)) at text law proper = keeps_check_in s w flight counted at text law
keeps_lawful s (order.Desk (desk.Strike w flight p)) at text law proper = keeps_strike s w flight p at text law
keeps_lawful s (order.Desk (desk.Notify w name)) at text law proper = keeps_notify s w name at text law
keeps_lawful s (order.Desk (desk.Deliver w p name)) at text law proper = keeps_deliver s w p name at text law
keeps_lawful s (order.Desk (desk.Transfer w p airline)) at text law proper = keeps_transfer s w p airline at text law
keeps_lawful s (order.Desk (desk.Missing w p flight)) at text law proper = keeps_missing s w p flight at text law
keeps_lawful s (order.Desk (desk.Found w p t flight)) at text law proper = keeps_found s w p t flight at text law
keeps_lawful s (order.Desk (desk.Confirm upto)) at text law proper = keeps_confirm s upto at text law
keeps_lawful s (order.Fwb c) at text law proper = keeps_fwb s c at text proper law
keeps_lawful s (order.Ffm f) at text law proper = keeps_ffm s f at text (here_have_pieces s.here f.lines (recursion_from_All HasPieces f.lines proper)) law
keeps_lawful s (order.Fsu f) at text law proper = keeps_fsu s f at text proper law
