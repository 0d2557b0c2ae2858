-- Two lists of rows, walked through side by side.
use Rattle.std.proofs.Common.{◌≡◌, ◌∙◌, sym, ap, arith, ℕ, ◌+◌, ◌≤◌, ◌<◌, true, List, [], ◌∷◌, ◌++◌, length, drop, get_or, Option, Some, None}
use Rattle.std.specs.Bool.{if◌then◌else◌}
use Rattle.std.proofs.lemmas.List.{drop_more, drop_all}
use Rattle.carried_station.specs.Walk.{and_left, left_of, same_row}
use Rattle.carried_station.specs.declared.waybills.WaybillRow.{WaybillRow}

abbrev pub with_left : List ℕ → Option (List ℕ) → Option (List ℕ)
with_left left None = None
with_left left (Some more) = Some (left ++ more)

-- One step.

here : (new : List WaybillRow) (at : ℕ) (row : WaybillRow) → at < length new → drop at new ≡ get_or new at row ∷ drop (at + 1) new
here new at row low = drop_more new at row low

pub passed : (rows rest more : List WaybillRow) (row next : WaybillRow) → rest ≡ next ∷ more → same_row next row ≡ true → left_of (row ∷ rows) rest ≡ left_of rows more
passed rows rest more row next is same = ap (left_of (row ∷ rows)) is ∙ ap (λ b. if b then left_of rows more else and_left row.awb (left_of rows (next ∷ more))) same

-- the rows before an index are taken into account
abbrev pub Walks : List WaybillRow → List WaybillRow → ℕ → ℕ → List ℕ → Type 0
Walks old new i at left = with_left left (left_of (drop i old) (drop at new)) ≡ left_of old new

pub unended : (old new : List WaybillRow) (i at : ℕ) (left : List ℕ) → length old ≤ i → at < length new → Walks old new i at left → None ≡ left_of old new
unended old [] i at left past low so = absurd (omega arith)
unended old (x ∷ xs) i at left past low so =
    (λ j. with_left left (left_of (sym (drop_all i old past) j) (sym (here (x ∷ xs) at x low) j))) ∙ so
