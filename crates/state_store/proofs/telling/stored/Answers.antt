use Rattle.state_store.proofs.Common.{Amount, ap, arith, delivered, departed, missing, store, sym, taken_and_found, transferred, ℕ, ◌+◌, ◌∙◌, ◌≡◌}
use Rattle.shipment_machine.specs.declared.moves.Balances.{Balances}
use Rattle.state_store.proofs.telling.stored.Goals as goal

-- the same sum in another order
resummed : (came stored m d e f : ℕ) → came ≡ stored + (m + (d + (e + (f + 0)))) → came ≡ stored + d + e + m + f
resummed came stored m d e f h = omega (arith, h)

pub returns-clause-lawful : goal.returns-clause-lawful
returns-clause-lawful c = λ s w law is.
    let all = c.conservation_law.ensures s w law in
    let gone = missing s.book w in
    let left = departed s.book w in
    let there = delivered s.book w in
    let further = transferred s.book w in
    let pieces = ap (λ (b : Balances). b.taken.pieces + b.found.pieces) is
    ∙ resummed (taken_and_found s.book w).pieces (store s.book w).pieces gone.pieces left.pieces there.pieces further.pieces (ap (λ (a : Amount). a.pieces) all)
    ∙ ap (λ (b : Balances). (store s.book w).pieces + b.departed.pieces + b.delivered.pieces + b.missing.pieces + b.transferred.pieces) (sym is) in
    let tenths = ap (λ (b : Balances). b.taken.tenths + b.found.tenths) is
    ∙ resummed (taken_and_found s.book w).tenths (store s.book w).tenths gone.tenths left.tenths there.tenths further.tenths (ap (λ (a : Amount). a.tenths) all)
    ∙ ap (λ (b : Balances). (store s.book w).tenths + b.departed.tenths + b.delivered.tenths + b.missing.tenths + b.transferred.tenths) (sym is) in
    λ i. record { pieces = c.in_ok-left.ensures.same (store s.book w).pieces pieces i; tenths = c.in_ok-left-2.ensures.same (store s.book w).tenths tenths i }
