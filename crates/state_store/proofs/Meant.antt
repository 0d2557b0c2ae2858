-- The day that a date means.
use Rattle.state_store.proofs.Common.{Cargo, Option, Some, [], ap, cond-false, cond-true, false, is_day, part_rows_on, sym, true, unwrap_or, ℕ, ◌∙◌, ◌≡◌}
use Rattle.station_days.specs.Date.{LocalMinute, resolved}
use Rattle.shipment_machine.specs.declared.command.InboundPart.{InboundPart}
use Rattle.shipment_machine.specs.declared.command.ShipmentCommand.TheVariants as order
use Rattle.shipment_machine.specs.declared.view.Rows.TheVariants as rows
use Rattle.shipment_machine.specs.Lawful.{rows_for}

-- the rows of a part whose date means a day
pub on_day : (s : Cargo) (f : InboundPart) (at : LocalMinute) (day : ℕ) → resolved f.date at.day ≡ Some day → is_day (resolved f.date at.day) ≡ true → part_rows_on s f day ≡ rows_for s (order.Ffm f) at
on_day s f at day is real = ap (λ (o : Option ℕ). part_rows_on s f (unwrap_or o 0)) (sym is) ∙ sym (cond-true (is_day (resolved f.date at.day)) _ _ real)

-- and of a part whose date means none
pub no_day : (s : Cargo) (f : InboundPart) (at : LocalMinute) → is_day (resolved f.date at.day) ≡ false → rows.Lines false [] ≡ rows_for s (order.Ffm f) at
no_day s f at none = sym (cond-false (is_day (resolved f.date at.day)) _ _ none)
