-- What a row within range holds as a text is one.
use Rattle.table_audits.proofs.Common.{AllByRecursion, AreBuilds, Bool, Build, BuildKey, Expected, ExpectedKey, FinMap, Flight, FlightKey, HasBuildTexts, HasExpectedTexts, HasFlightTexts, HasKeptKeyTexts, HasKeptTextTexts, HasMovesTexts, HasOutboxTexts, HasPartTexts, HasStockTexts, HasTrailTexts, HasWaybillTexts, IsAscii, IsAscii-airport, IsAscii-flight, IsAscii-goods, IsText, IsUtf8-from_ascii, Kept, List, Message, None, PartKey, Some, Stock, StockKey, TrailLine, Waybill, [], and_parts, arith, build_cmp, build_here, build_in, build_total, each_entry, entries, false, flight_of, if◌then◌else◌, int_eq, is_agent_code, is_airport, is_day, is_expected_row, is_flight_row, is_flight_text, is_kept_row, is_kept_text_row, is_key_byte, is_letter_or_digit, is_message_row, is_move_row, is_one, is_part_row, is_printable, is_some, is_stock_row, is_trail_row, is_utf8-from_IsUtf8, is_waybill_row, length, nat_tests, pos, refl, running, subst, sym, true, unnamed_holder, ℕ, ℤ, ◌&&◌, ◌<◌, ◌==◌, ◌||◌, ◌∙◌, ◌∷◌, ◌≡◌}
use Rattle.std.proofs.lemmas.Str.Ascii.{IsAscii-nil}
use Rattle.awb_number.proofs.Ascii.{IsAscii-tested, ascii-letter_or_digit}
use Rattle.agent_stock.specs.declared.stock.Holder.TheVariants as holder
use Rattle.shipment_machine.specs.declared.moves.Move as cargo
use Rattle.station_schema.specs.Tables.{Move}
use Rattle.table_audits.proofs.FlightRows.{text_of}

-- ---- texts of ASCII

ascii : (text : List ℕ) → IsAscii text → IsText text
ascii text h = is_utf8-from_IsUtf8 _ (IsUtf8-from_ascii text h)

airport : (code : List ℕ) → is_airport code ≡ true → IsText code
airport code h = ascii code (IsAscii-airport code h)

flight : (text : List ℕ) → is_flight_text text ≡ true → IsText text
flight text h = let f = text_of text h in subst IsText f.2 (ascii _ (IsAscii-flight f.0 (is_one f.0 f.1)))

printable : (b : ℕ) → is_printable b ≡ true → b < 128
printable b h = grind (arith, nat_tests)

key_byte : (b : ℕ) → is_key_byte b ≡ true → b < 128
key_byte b h = grind (arith, nat_tests)

nothing : (text : List ℕ) → (length text == 0) ≡ true → IsText text
nothing [] h = ascii [] IsAscii-nil
nothing (b ∷ text) h = absurd (grind (arith, nat_tests))

either : (a b : Bool) (text : List ℕ) → (a ≡ true → IsText text) → (b ≡ true → IsText text) → (a || b) ≡ true → IsText text
either true b text by_one by_other h = by_one refl
either false b text by_one by_other h = by_other h

-- ---- row by row

pub waybill_texts : (row : Waybill) → is_waybill_row row ≡ true → HasWaybillTexts row
waybill_texts row h =
    let since = and_parts _ _ h in
    let a = and_parts _ _ since.0 in
    let b = and_parts _ _ a.0 in
    let c = and_parts _ _ b.0 in
    let d = and_parts _ _ c.0 in
    let e = and_parts _ _ d.0 in
    let f = and_parts _ _ e.0 in
    (airport row.origin f.1, airport row.destination e.1, ascii row.goods (IsAscii-goods row.goods b.1))

agent : (n : ℤ) (text : List ℕ) (one code empty : Bool) → int_eq n (pos 1) ≡ one → is_agent_code text ≡ code → (length text == 0) ≡ empty
    → is_some (if one then (if code then Some (holder.Agent text) else None) else if empty then unnamed_holder n else None) ≡ true → IsText text
agent n text true true empty is_one is_code is_empty h = ascii text (IsAscii-tested is_letter_or_digit ascii-letter_or_digit text (and_parts _ _ is_code).1)
agent n text false code true is_one is_code is_empty h = nothing text is_empty
agent n text _ _ _ is_one is_code is_empty h = absurd (cc)

pub stock_texts : (row : StockKey × Stock) → is_stock_row row ≡ true → HasStockTexts row
stock_texts row h = agent row.1.holder row.1.agent (int_eq row.1.holder (pos 1)) (is_agent_code row.1.agent) (length row.1.agent == 0) refl refl refl (and_parts _ _ h).1

pub flight_texts : (row : FlightKey × Flight) → is_flight_row row ≡ true → HasFlightTexts row
flight_texts row h =
    let a = and_parts _ _ h in
    let b = and_parts _ _ a.0 in
    (flight row.0.0 (and_parts _ _ b.0).0, airport row.1.unload b.1)

pub moves_texts : (row : Move) → is_move_row row ≡ true → HasMovesTexts row
moves_texts row h =
    let columns = (and_parts _ _ (and_parts _ _ (and_parts _ _ h).0).0).1 in
    either ((length row.flight == 0) && int_eq row.fday (pos 0)) (is_flight_text row.flight && is_day row.fday) row.flight
    (λ empty. nothing row.flight (and_parts _ _ empty).0) (λ named. flight row.flight (and_parts _ _ named).0) columns

pub expected_texts : (row : ExpectedKey × Expected) → is_expected_row row ≡ true → HasExpectedTexts row
expected_texts row h = flight row.0.0 (and_parts _ _ (and_parts _ _ (and_parts _ _ (and_parts _ _ (and_parts _ _ h).0).0).0).0).0

pub part_texts : (row : PartKey × List ℕ) → is_part_row row ≡ true → HasPartTexts row
part_texts row h =
    let a = and_parts _ _ h in
    let b = and_parts _ _ (and_parts _ _ a.0).0 in
    (flight row.0.0 (and_parts _ _ b.0).0, airport row.0.1.1.0 b.1, a.1)

pub trail_texts : (row : TrailLine) → is_trail_row row ≡ true → HasTrailTexts row
trail_texts row h = ascii row.line (IsAscii-tested is_printable printable row.line (and_parts _ _ (and_parts _ _ h).1).0)

pub outbox_texts : (row : Message) → is_message_row row ≡ true → HasOutboxTexts row
outbox_texts row h = h

pub kept_key_texts : (row : List ℕ × Kept) → is_kept_row row ≡ true → HasKeptKeyTexts row
kept_key_texts row h =
    let a = and_parts _ _ (and_parts _ _ h).0 in
    (ascii row.0 (IsAscii-tested is_key_byte key_byte row.0 (and_parts _ _ a.0).1), a.1)

pub kept_text_texts : (row : List ℕ × ℤ) → is_kept_text_row row ≡ true → HasKeptTextTexts row
kept_text_texts row h = (and_parts _ _ h).0

-- a load is of a flight in written form
module _ (builds : FinMap build_cmp Build) (book : List cargo.Move) (are : AreBuilds builds book) where
  written : (text : List ℕ) (b : Bool) (day w : ℕ) (row : Build) → is_flight_text text ≡ b → build_here (running book) day w (if b then flight_of text else None) ≡ Some row → IsText text
  written text true day w row is has = flight text is
  written text false day w row is has = absurd (cc)

  load : (key : BuildKey) (row : Build) → build_in (running book) key ≡ Some row → IsText key.0
  load (text, (pos day, pos w)) row has = written text (is_flight_text text) day w row refl has
  load _ row has = absurd (cc)

  pub build_texts : AllByRecursion HasBuildTexts (entries builds)
  build_texts = each_entry build_cmp build_total HasBuildTexts builds (λ key row has. load key row (sym (are key) ∙ has))
