-- The audit of a table whose rows are added one after another.
use Rattle.std.specs.Prelude.{◌≡◌, ◌≤◌, ◌<◌, ◌↔◌, ◌++◌, ◌∷◌, [], ℕ, ℤ, Bool, true, false, nat_le, if◌then◌else◌, IsTrue, Option, Some, None, List, length, map}
use Rattle.std.specs.List.{AllWithin, HoldsAt}
use Rattle.std.specs.List.Sorted.{IsSorted}
use Rattle.table_audits.specs.Common.{AllByRecursion, IsAscending, Less, eq_by_cmp, list_all, list_any, is_kept_text_row, kept_text_cmp, kept_text_entry, part_entry, FlightDate, StaysDeparted, move_meant, waybill_meant, trail_meant, message_meant, MoveRow, MessageRow, TrailRow, Tables, Kept, Waybill, move_id, trail_id, message_id, running, move_by, AreNumbered, is_kept_row, IsRequest, flight_entry, kept_key_entry, KeptKeyEntry, Posting}
use Rattle.station_schema.specs.Tables.{Move}
use Rattle.table_audits.specs.Moves.{marks_of, RisesByNumber, AreBeside, IsGoodRow, listed_in, is_lawful_line, AreSums, IsPosting}
use Rattle.table_audits.specs.declared.book.BookAudit.{BookAudit}
use Rattle.table_audits.specs.declared.book.BookBeside.{BookBeside}
use Rattle.table_audits.specs.declared.kept_key.KeptKeys.{KeptKeys}
use Rattle.table_audits.specs.declared.kept_text.KeptTexts.{KeptTexts}
use Rattle.table_audits.specs.declared.lookups.NumberedRows.{NumberedRows}
use Rattle.table_load.specs.declared.kept_text.KeptTextEntry.{KeptTextEntry}
use Rattle.table_load.specs.declared.part.PartEntry.{PartEntry}

-- ---- numbered rows, each with whether it is lawful by itself

-- the rows are numbered from 1, and each is lawful
pub record AreSound (rows : List (ℤ × Bool)) : Type 0 where
  pub numbers : AreNumbered (λ (row : ℤ × Bool). row.0) rows
  pub each : IsTrue (list_all (λ (row : ℤ × Bool). row.1) rows)

-- the number of rows, all of them sound; or not all of them are
abbrev pub AreSoundOr : List (ℤ × Bool) → Option ℕ → Type 0
AreSoundOr rows None = AreSound rows → ⊥
AreSoundOr rows (Some count) = AreSound rows × (count ≡ length rows)

abbrev pub AreCounted : NumberedRows → List (ℤ × Bool) → Type 0
AreCounted counted rows = AreSoundOr rows counted.count

-- the lines added so far, with these waybills
abbrev pub AreLinesTaken : List Waybill → NumberedRows → List TrailRow → Type 0
AreLinesTaken waybills lines rows = RisesByNumber waybills
    → AreCounted lines (map (λ row. (trail_id (trail_meant row), is_lawful_line waybills (trail_meant row))) rows)

-- the messages added so far
abbrev pub AreMessagesTaken : NumberedRows → List MessageRow → Type 0
AreMessagesTaken messages rows = AreCounted messages (map (λ row. (message_id (message_meant row), true)) rows)

-- the number of messages, if at least `confirmed` exist
abbrev pub if_confirmed : ℕ → Option ℕ → Option ℕ
if_confirmed confirmed None = None
if_confirmed confirmed (Some count) = if nat_le confirmed count then Some count else None

-- ---- rows of `kept_key`

pub record IsLawfulKept (row : List ℕ × Kept) : Type 0 where
  pub within : IsTrue (is_kept_row row)
  pub request : IsRequest row.1.command

-- true if each of the added rows is lawful
abbrev pub AreKeysTaken : KeptKeys → List KeptKeyEntry → Type 0
AreKeysTaken keys rows = IsTrue keys.are_lawful ↔ AllByRecursion IsLawfulKept (map kept_key_entry rows)

-- ---- rows of `kept_text`

-- the parts are in the order of their texts
abbrev pub AreByText : List PartEntry → Type 0
AreByText = IsSorted (λ (a b : PartEntry). kept_text_cmp (part_entry a).1 (part_entry b).1)

-- true if one of the rows has the text
abbrev pub is_among : List KeptTextEntry → List ℕ → Bool
is_among rows text = list_any (λ (row : KeptTextEntry). eq_by_cmp kept_text_cmp (kept_text_entry row).0 text) rows

-- the parts whose texts were found are those before the first whose text isn't among the rows
pub record AreTextsTaken (parts : List PartEntry) (texts : KeptTexts) (rows : List KeptTextEntry) : Type 0 where
  pub counts : texts.are_in_range ≡ list_all is_kept_text_row (map kept_text_entry rows)
  pub bound : texts.found ≤ length parts
  pub found : AllWithin (λ (part : PartEntry). IsTrue (is_among rows (part_entry part).1)) parts 0 texts.found
  pub next : texts.found < length parts
      → HoldsAt (λ (part : PartEntry). is_among rows (part_entry part).1 ≡ false) parts texts.found

-- the same of rows in the order of their texts, with parts in the order of theirs
abbrev pub AreTextsSought : List PartEntry → KeptTexts → List KeptTextEntry → Type 0
AreTextsSought parts texts rows = AreByText parts
    → IsAscending (λ (a b : List ℕ × ℤ). kept_text_cmp a.0 b.0 ≡ Less) (map kept_text_entry rows)
    → AreTextsTaken parts texts rows

-- ---- the book

-- moves numbered from 1, each lawful by itself, of which none builds on a departed flight
pub record AreGoodMoves (t : Tables) (moves : List Move) : Type 0 where
  pub numbers : AreNumbered move_id moves
  pub each : AllByRecursion (IsGoodRow t) moves
  pub stays : (flight : FlightDate) → StaysDeparted flight (map move_by moves)

-- the sums of these good moves, and the flights with which one departs
pub record IsBookOf (t : Tables) (moves : List Move) (audit : BookAudit) : Type 0 where
  pub good : AreGoodMoves t moves
  pub counted : audit.count ≡ length moves
  pub sums : AreSums (listed_in t) audit.sums (running (map move_by moves))
  pub departed : audit.departed.items ≡ marks_of (listed_in t) (map move_by moves)

-- these are their sums; or not all of them are good
abbrev pub IsBookAs : Tables → List Move → BookAudit → Bool → Type 0
IsBookAs t moves audit true = IsBookOf t moves audit
IsBookAs t moves audit false = AreGoodMoves t moves → ⊥

-- the row is good after these moves, with this posting; or it isn't
abbrev pub IsNextOr : Tables → List Move → Move → Option Posting → Type 0
IsNextOr t moves row None = AreGoodMoves t (moves ++ row ∷ []) → ⊥
IsNextOr t moves row (Some posting) = AreGoodMoves t (moves ++ row ∷ []) × IsPosting (listed_in t) posting (move_by row)

-- the tables have the waybills and the flights that were read
abbrev pub AreRead : Tables → BookBeside → Type 0
AreRead t beside = AreBeside t (map waybill_meant beside.waybills.items) (map flight_entry beside.flights.items)

-- the moves added so far
abbrev pub AreMovesTaken : BookBeside → BookAudit → List MoveRow → Type 0
AreMovesTaken beside audit rows = (t : Tables) → AreRead t beside → IsBookAs t (map move_meant rows) audit audit.are_good
