-- What is open after a line is written: it is put in if it wasn't checked in, and taken out if it was.
use Rattle.table_state.proofs.Common.{FlightDate, Lines, None, Open, Option, Some, ap, asked_of, cond, expected_for, false, refl, same_flight_date, sym, true, with_line, ℕ, ◌&&◌, ◌==◌, ◌≡◌}
use Rattle.shipment_machine.specs.declared.moves.Expected.{Expected}

module _ (lines : Lines) (flight : FlightDate) (w : ℕ) (e : Expected) where
  -- a line that is written is open as it is asked for
  written_open : (line : Option Expected) → asked_of Open flight (Some e) ≡ line → with_line (expected_for Open lines) flight w line ≡ expected_for Open (with_line lines flight w (Some e))
  written_open line is i f q = (elim (same_flight_date f flight && (q == w)) as (λ b. cond b line (asked_of Open f (lines f q)) ≡ asked_of Open f (cond b (Some e) (lines f q))) [
    | true ↦ sym is
    | false ↦ refl
  ]) i

  pub closed : e.checked ≡ true → with_line (expected_for Open lines) flight w None ≡ expected_for Open (with_line lines flight w (Some e))
  closed checked = written_open None (ap (λ b. cond b None (Some e)) checked)

  pub opened : e.checked ≡ false → with_line (expected_for Open lines) flight w (Some e) ≡ expected_for Open (with_line lines flight w (Some e))
  opened checked = written_open (Some e) (ap (λ b. cond b None (Some e)) checked)
