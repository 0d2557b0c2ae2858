-- A part of a manifest, answered from the rows of its lines' waybills.
use Rattle.std.specs.Prelude.{◌≡◌, ℕ, Bool, false, not, length, ◌==◌, if◌then◌else◌, Option, Some, None, is_none, Result, Ok, Err, List, [], ◌∷◌}
use Rattle.shipment_machine.specs.Common.{unwrap_or, Holder, FlightDate, Expected, LineView, CargoLine, Part, InboundPart, Change, Refusal, PlanFault, Declared}
use Rattle.imp_fields.specs.declared.fault.Why.TheVariants as why
use Rattle.shipment_machine.specs.declared.plans.Detail.TheVariants as detail
use Rattle.shipment_machine.specs.declared.plans.PlanFault.TheVariants as fault
use Rattle.shipment_machine.specs.Effect.{Outcome, first_refusal, declare, announced, is_day, lines_for, unless_refused, then_write, row_refusals, row_changes, expected_after}

-- the expectations of the waybills of earlier lines
abbrev pub Earlier : Type 0
Earlier = ℕ → Option Expected

abbrev pub no_earlier : Earlier
no_earlier _ = None

abbrev pub with_line : Earlier → ℕ → Expected → Earlier
with_line earlier w e = λ q. if q == w then Some e else earlier q

-- true if a line declares its waybill
abbrev pub is_new : Option Expected → LineView → Bool
is_new None row = is_none row.declared
is_new (Some e) row = false

abbrev pub expected_so_far : Option Expected → LineView → Option Expected
expected_so_far None row = row.expected
expected_so_far (Some e) row = Some e

abbrev pub refusal_now : Option Expected → CargoLine → LineView → Option Refusal
refusal_now before c row =
    first_refusal (row_refusals (is_new before row) row.holder (expected_so_far before row) c)

abbrev pub changes_now : Option Expected → FlightDate → ℕ → CargoLine → LineView → List Change
changes_now before flight today c row =
    row_changes (is_new before row) row.holder (expected_so_far before row) flight today c

abbrev pub expected_now : Option Expected → CargoLine → LineView → Expected
expected_now before c row = expected_after (expected_so_far before row) c

-- the rows that all lines write, each tested after those before it; or the first refusal
abbrev pub announced_changes : Earlier → FlightDate → ℕ → List CargoLine → List LineView
    → Result (List Change) Refusal
announced_changes earlier flight today [] rows = Ok []
announced_changes earlier flight today (c ∷ cs) [] = Ok []
announced_changes earlier flight today (c ∷ cs) (row ∷ rows) =
    unless_refused (refusal_now (earlier c.awb) c row)
    (then_write (changes_now (earlier c.awb) flight today c row)
    (announced_changes (with_line earlier c.awb (expected_now (earlier c.awb) c row)) flight today
    cs rows))

-- the key of a part whose date means the day `meant`
abbrev pub part_key : InboundPart → Option ℕ → Part
part_key f meant =
    record {
      flight = record { flight = f.flight; day = unwrap_or meant 0 };
      airport = f.loaded;
      number = f.number;
    }

abbrev pub part_tests : Bool → InboundPart → Option ℕ → List (Bool × Refusal)
part_tests taken f meant =
    (not (is_day meant), record { number = 301; detail = detail.Line 2 why.Date })
    ∷ (taken, record { number = 213; detail = detail.Part (part_key f meant) }) ∷ []

-- the answer to a part, from the rows of its lines for here; `taken` says whether the part was
-- taken before
abbrev pub part_answer : List ℕ → ℕ → Bool → List LineView → InboundPart → Option ℕ
    → Result Outcome Refusal
part_answer here today taken rows f meant =
    unless_refused (first_refusal (part_tests taken f meant))
    (announced (part_key f meant) (length (lines_for here f.lines))
    (announced_changes no_earlier (part_key f meant).flight today (lines_for here f.lines) rows))

-- the rows of the declaration, if the line makes one
abbrev pub first_rows : Option Declared → Option Holder → ℕ → List Change
first_rows None who w = []
first_rows (Some d) who w = declare who w d

-- a fault is the refusal that is due, or memory ran out
abbrev pub IsRefusal : Option Refusal → PlanFault → Type 0
IsRefusal due (fault.Refused refusal) = due ≡ Some refusal
IsRefusal due fault.Memory = Unit {0}
IsRefusal due fault.Unfit = ⊥

abbrev pub IsPartFault : Result (List Change) Refusal → PlanFault → Type 0
IsPartFault answer (fault.Refused refusal) = answer ≡ Err refusal
IsPartFault answer fault.Memory = Unit {0}
IsPartFault answer fault.Unfit = ⊥
