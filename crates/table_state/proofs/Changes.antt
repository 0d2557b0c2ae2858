-- What a row that was written makes of the state that is shown.
use Rattle.table_state.proofs.Common.{AreBoarded, AreBuilds, AreCounts, AreKnown, AreNumbered, Bool, Build, Cargo, Count, Declared, Err, FinMap, FlightDate, HasOpen, HaveAsked, HaveSpans, Holders, IfErr, IsCounted, IsReadable, IsRequest, IsShowing, IsTrue, KnownCounts, Knows, Lines, List, Means, Move, None, Ok, OpenLines, Option, Part, Restocked, Result, Shows, Sizes, Some, State, Stock, Stocked, Tables, Tells, View, WereThere, [], after_order, ap, at_rest, book_in, book_told, build_cmp, confirming, count_cmp, count_fits, expected_key, expected_row, false, flight_key, flight_text, get_by, holders_in, if◌then◌else◌, is_count, is_designator, is_expected_row, is_flight_row, is_message_row, is_move_row, is_part_row, is_run, is_trail_row, is_utf8, is_waybill_row, kept_row, length, length-append, line_row, list_all, lowest_failing, meaning_of, message_row, move_id, on_cargo, order_refusal, outbound_row, part_key, pos, put_over, putting_waybill, refl, refusal_number, refused_by, restocked, run_of, running, sizes_of, stock_cmp, subst, sym, test_of, true, using_up, waybill_id, waybill_row, with_expected, with_flight, with_kept, with_kept_text, with_key, with_line, with_message, with_messages, with_move, with_moves, with_order, with_part, with_text, with_trail_line, written, ℕ, ℤ, ◌++◌, ◌+◌, ◌<◌, ◌∙◌, ◌∷◌, ◌≡◌}
use Rattle.agent_stock.specs.Stock.{OnRefused, RefusesBy}
use Rattle.agent_stock.specs.declared.stock.Order.{Order}
use Rattle.agent_stock.specs.declared.stock.StockFault.{StockFault}
use Rattle.agent_stock.specs.declared.stock.StockFault.TheVariants as fault
use Rattle.shipment_machine.specs.declared.moves.Outbound.{Outbound}
use Rattle.shipment_machine.specs.declared.moves.Expected.{Expected}
use Rattle.shipment_machine.specs.declared.plans.Change.TheVariants.{Declare, UseUp, NoteFlight, Expect, NotePart, Trail, Confirm}
use Rattle.station_core.specs.Readers.{is_key}
use Rattle.station_core.specs.Step as step
use Rattle.station_schema.specs.Store as row
use Rattle.station_schema.specs.Tables as table
use Rattle.row_codec.proofs.Moving.{HasMove}
use Rattle.row_codec.proofs.Written.{waybill_written, waybill_changed, flight_written, expected_written, part_written, key_kept, text_kept, line_written, message_written, mark_written, move_written}
use Rattle.state_store.specs.Store.{inside}
use Rattle.table_state.specs.Shown.{Declarations, Recorded, declaring}
use Rattle.table_state.proofs.Lifting.{writes_on, reached}

put_means : (t : Tables) (s : State) (text : List ℕ) (w : ℕ) (d : Declared) (new : table.Waybill) → new ≡ waybill_row w d → is_waybill_row (waybill_row w d) ≡ true → Means t (Some s)
    → (o : Option table.Waybill) → get_by waybill_id t.waybills (pos w) ≡ o → Means (put_over o new t) (Some (on_cargo (written text (Declare w d)) s))
put_means t s text w d new is fits means None has = waybill_written t s means text w d new is fits
put_means t s text w d new is fits means (Some was) has = waybill_changed t s means text w d new was is fits has

putting_means : (t : Tables) (s : State) (text : List ℕ) (is_missing : Bool) (w : ℕ) (d : Declared) (new : table.Waybill) → new ≡ waybill_row w d → is_waybill_row (waybill_row w d) ≡ true → Means t (Some s)
    → Means (putting_waybill is_missing new t) (Some (on_cargo (written text (Declare w d)) s))
putting_means t s text true w d new is fits means = waybill_written t s means text w d new is fits
putting_means t s text false w d new is fits means =
    put_means t s text w d new is fits means (get_by waybill_id t.waybills new.awb) (ap (λ (r : table.Waybill). get_by waybill_id t.waybills r.awb) (sym is))

module _ (old new : View) (here : List ℕ) (counted : KnownCounts) (confirmed : ℕ) (before s : State) (was : Shows old here counted confirmed (inside before s)) (survives : row.Survives old new) where
  same_rest : (after : State) → s.cargo.here ≡ after.cargo.here → sizes_of s.cargo ≡ sizes_of after.cargo → s.cargo.confirmed ≡ after.cargo.confirmed
      → Knows here counted.sizes confirmed (inside before s) → Knows here counted.sizes confirmed (inside before after)
  same_rest after place counts mark k = record { here_is = k.here_is ∙ place; sizes_are = k.sizes_are ∙ counts; confirmed_is = k.confirmed_is ∙ mark }

  pub declares_on : (text : List ℕ) (is_missing : Bool) (w : ℕ) (d : Declared) (row_is : table.Waybill) → row_is ≡ waybill_row w d → IsTrue (is_waybill_row (waybill_row w d))
      → (later : KnownCounts) → later.sizes ≡ counted.sizes → later.boarded ≡ counted.boarded → later.known ≡ counted.known → later.open_lines ≡ counted.open_lines → later.spans ≡ counted.spans
      → ((book : List Move) (declared : Declarations) → HaveAsked counted.waybills book declared → HaveAsked later.waybills book (declaring w d declared))
      → (IsShowing old (row.inside old.committed old.now) → IsShowing new (row.inside old.committed (putting_waybill is_missing row_is old.now)))
      → Shows new here later confirmed (inside before (on_cargo (written text (Declare w d)) s))
  declares_on text is_missing w d row_is is fits later sizes_later same_boarded same_known same_open same_spans declares done =
      writes_on old new here counted confirmed (putting_waybill is_missing row_is) later confirmed before s (on_cargo (written text (Declare w d)) s) was survives done
      (λ _ means. putting_means old.now s text is_missing w d row_is is fits means)
      (λ k. record { here_is = k.here_is; sizes_are = sizes_later ∙ k.sizes_are; confirmed_is = k.confirmed_is })
      (λ kept. record {
        boarded = subst (λ o. AreBoarded o s.cargo.book) (sym same_boarded) kept.boarded;
        known = subst (λ o. AreKnown o (running s.cargo.book)) (sym same_known) kept.known;
        waybills = declares s.cargo.book s.cargo.declared kept.waybills;
        open_lines = subst (λ (o : OpenLines). HasOpen o.kept s.cargo.expected) (sym same_open) kept.open_lines;
        spans = subst (λ o. HaveSpans o s.cargo.book s.cargo.outbox) (sym same_spans) kept.spans;
      })

  pub notes_flight_on : (text name : List ℕ) (day : ℤ) (f : FlightDate) (o : Outbound) (row_is : table.Flight) → name ≡ flight_text f.flight → day ≡ pos f.day → row_is ≡ outbound_row o
      → IsTrue (is_designator f.flight) → IsTrue (is_flight_row (flight_key f, outbound_row o))
      → (IsShowing old (row.inside old.committed old.now) → IsShowing new (row.inside old.committed (with_flight (name, day) row_is old.now)))
      → Shows new here counted confirmed (inside before (on_cargo (written text (NoteFlight f o)) s))
  notes_flight_on text name day f o row_is is_name is_day is may fits done =
      writes_on old new here counted confirmed (with_flight (name, day) row_is) counted confirmed before s (on_cargo (written text (NoteFlight f o)) s) was survives done
      (λ _ means. flight_written old.now s means text name day f o row_is is_name is_day is may fits)
      (same_rest (on_cargo (written text (NoteFlight f o)) s) refl refl refl) (λ b. b)

  pub expects_on : (text name : List ℕ) (day awb : ℤ) (f : FlightDate) (w : ℕ) (e : Expected) (row_is : table.Expected) → name ≡ flight_text f.flight → day ≡ pos f.day → awb ≡ pos w → row_is ≡ expected_row e
      → IsTrue (is_designator f.flight) → IsTrue (is_expected_row (expected_key f w, expected_row e))
      → (later : KnownCounts) → later.sizes ≡ counted.sizes → later.boarded ≡ counted.boarded → later.known ≡ counted.known → later.waybills ≡ counted.waybills → later.spans ≡ counted.spans
      → ((lines : Lines) → HasOpen counted.open_lines.kept lines → HasOpen later.open_lines.kept (with_line lines f w (Some e)))
      → (IsShowing old (row.inside old.committed old.now) → IsShowing new (row.inside old.committed (with_expected (name, (day, awb)) row_is old.now)))
      → Shows new here later confirmed (inside before (on_cargo (written text (Expect f w e)) s))
  expects_on text name day awb f w e row_is is_name is_day is_awb is may fits later sizes_later same_boarded same_known same_waybills same_spans posts done =
      writes_on old new here counted confirmed (with_expected (name, (day, awb)) row_is) later confirmed before s (on_cargo (written text (Expect f w e)) s) was survives done
      (λ _ means. expected_written old.now s means text name day awb f w e row_is is_name is_day is_awb is may fits)
      (λ k. record { here_is = k.here_is; sizes_are = sizes_later ∙ k.sizes_are; confirmed_is = k.confirmed_is })
      (λ kept. record {
        boarded = subst (λ o. AreBoarded o s.cargo.book) (sym same_boarded) kept.boarded;
        known = subst (λ o. AreKnown o (running s.cargo.book)) (sym same_known) kept.known;
        waybills = subst (λ o. HaveAsked o s.cargo.book s.cargo.declared) (sym same_waybills) kept.waybills;
        open_lines = posts s.cargo.expected kept.open_lines;
        spans = subst (λ o. HaveSpans o s.cargo.book s.cargo.outbox) (sym same_spans) kept.spans;
      })

  pub notes_part_on : (text name airport body : List ℕ) (day number : ℤ) (p : Part) → name ≡ flight_text p.flight.flight → day ≡ pos p.flight.day → airport ≡ p.airport → number ≡ pos p.number → body ≡ text
      → IsTrue (is_designator p.flight.flight) → IsTrue (is_part_row (part_key p, text))
      → (IsShowing old (row.inside old.committed old.now) → IsShowing new (row.inside old.committed (with_part (name, (day, (airport, number))) body old.now)))
      → Shows new here counted confirmed (inside before (on_cargo (written text (NotePart p)) s))
  notes_part_on text name airport body day number p is_name is_day is_airport is_number is may fits done =
      writes_on old new here counted confirmed (with_part (name, (day, (airport, number))) body) counted confirmed before s (on_cargo (written text (NotePart p)) s) was survives done
      (λ _ means. part_written old.now s means text name airport body day number p is_name is_day is_airport is_number is may fits)
      (same_rest (on_cargo (written text (NotePart p)) s) refl refl refl) (λ b. b)

  -- a list that got one more

  same_counted : (later : KnownCounts) (c : Cargo) → later.boarded ≡ counted.boarded → later.known ≡ counted.known → later.waybills ≡ counted.waybills → later.open_lines ≡ counted.open_lines → later.spans ≡ counted.spans
      → IsCounted counted c.book c.expected c.declared c.outbox → IsCounted later c.book c.expected c.declared c.outbox
  same_counted later c same_boarded same_known same_waybills same_open same_spans kept = record {
    boarded = subst (λ o. AreBoarded o c.book) (sym same_boarded) kept.boarded;
    known = subst (λ o. AreKnown o (running c.book)) (sym same_known) kept.known;
    waybills = subst (λ o. HaveAsked o c.book c.declared) (sym same_waybills) kept.waybills;
    open_lines = subst (λ (o : OpenLines). HasOpen o.kept c.expected) (sym same_open) kept.open_lines;
    spans = subst (λ o. HaveSpans o c.book c.outbox) (sym same_spans) kept.spans;
  }

  pub adds_line_on : (text : List ℕ) (n w : ℕ) (line : List ℕ) (row_is : table.TrailLine) → row_is ≡ line_row n w line → IsTrue (is_trail_row (line_row n w line)) → n ≡ counted.sizes.lines + 1 → (later : KnownCounts) → later.sizes ≡ record { moves = counted.sizes.moves; lines = n; messages = counted.sizes.messages } → later.boarded ≡ counted.boarded → later.known ≡ counted.known → later.waybills ≡ counted.waybills → later.open_lines ≡ counted.open_lines → later.spans ≡ counted.spans
      → (IsShowing old (row.inside old.committed old.now) → IsShowing new (row.inside old.committed (with_trail_line row_is old.now)))
      → Shows new here later confirmed (inside before (on_cargo (written text (Trail w line)) s))
  adds_line_on text n w line row_is is fits next later sizes_later same_boarded same_known same_waybills same_open same_spans done sound =
      let had : counted.sizes.lines ≡ length s.cargo.trail = ap (λ (z : Sizes). z.lines) (was (survives.sound sound)).knows.sizes_are in
      let one_more : n ≡ length s.cargo.trail + 1 = next ∙ ap (λ k. k + 1) had in
      writes_on old new here counted confirmed (with_trail_line row_is) later confirmed before s (on_cargo (written text (Trail w line)) s) was survives done
      (λ _ means. line_written old.now s means n w line text row_is is fits one_more)
      (λ k. record {
        here_is = k.here_is;
        sizes_are = sizes_later ∙ (λ i. record { moves = (k.sizes_are i).moves; lines = (one_more ∙ sym (length-append s.cargo.trail ((w, line) ∷ []))) i; messages = (k.sizes_are i).messages });
        confirmed_is = k.confirmed_is;
      }) (λ kept. same_counted later s.cargo same_boarded same_known same_waybills same_open same_spans kept) sound

  pub adds_message_on : (n : ℕ) (text : List ℕ) (row_is : table.Message) → row_is ≡ message_row n text → IsTrue (is_message_row (message_row n text)) → n ≡ counted.sizes.messages + 1 → (later : KnownCounts) → later.sizes ≡ record { moves = counted.sizes.moves; lines = counted.sizes.lines; messages = n } → later.boarded ≡ counted.boarded → later.known ≡ counted.known → later.waybills ≡ counted.waybills → later.open_lines ≡ counted.open_lines
      → ((book : List Move) (outbox : List (List ℕ)) → n ≡ length outbox + 1 → HaveSpans counted.spans book outbox → HaveSpans later.spans book (outbox ++ text ∷ []))
      → (IsShowing old (row.inside old.committed old.now) → IsShowing new (row.inside old.committed (with_message row_is old.now)))
      → Shows new here later confirmed (inside before (with_messages (text ∷ []) s))
  adds_message_on n text row_is is fits next later sizes_later same_boarded same_known same_waybills same_open told done sound =
      let had : counted.sizes.messages ≡ length s.cargo.outbox = ap (λ (z : Sizes). z.messages) (was (survives.sound sound)).knows.sizes_are in
      let one_more : n ≡ length s.cargo.outbox + 1 = next ∙ ap (λ k. k + 1) had in
      writes_on old new here counted confirmed (with_message row_is) later confirmed before s (with_messages (text ∷ []) s) was survives done
      (λ _ means. message_written old.now s means n text row_is is fits one_more)
      (λ k. record {
        here_is = k.here_is;
        sizes_are = sizes_later ∙ (λ i. record { moves = (k.sizes_are i).moves; lines = (k.sizes_are i).lines; messages = (one_more ∙ sym (length-append s.cargo.outbox (text ∷ []))) i });
        confirmed_is = k.confirmed_is;
      }) (λ kept. record {
        boarded = subst (λ o. AreBoarded o s.cargo.book) (sym same_boarded) kept.boarded;
        known = subst (λ o. AreKnown o (running s.cargo.book)) (sym same_known) kept.known;
        waybills = subst (λ o. HaveAsked o s.cargo.book s.cargo.declared) (sym same_waybills) kept.waybills;
        open_lines = subst (λ (o : OpenLines). HasOpen o.kept s.cargo.expected) (sym same_open) kept.open_lines;
        spans = told s.cargo.book s.cargo.outbox one_more kept.spans;
      }) sound

  pub confirms_on : (text : List ℕ) (number : ℤ) (upto : ℕ) → number ≡ pos upto → IsTrue (is_count (pos upto))
      → (IsShowing old (row.inside old.committed old.now) → IsShowing new (row.inside old.committed (confirming number old.now)))
      → Shows new here counted upto (inside before (on_cargo (written text (Confirm upto)) s))
  confirms_on text number upto is counts done =
      writes_on old new here counted confirmed (confirming number) counted upto before s (on_cargo (written text (Confirm upto)) s) was survives done
      (λ _ means. mark_written old.now s means text number upto is counts)
      (λ k. record { here_is = k.here_is; sizes_are = k.sizes_are; confirmed_is = refl }) (λ b. b)

  pub keeps_text_on : (body text : List ℕ) (number : ℤ) (count : ℕ) → body ≡ text → number ≡ pos count → IsTrue (is_utf8 text) → IsTrue (is_count (pos count))
      → (IsShowing old (row.inside old.committed old.now) → IsShowing new (row.inside old.committed (with_kept_text body number old.now)))
      → Shows new here counted confirmed (inside before (with_text text count s))
  keeps_text_on body text number count is_body is_number is counts done =
      writes_on old new here counted confirmed (with_kept_text body number) counted confirmed before s (with_text text count s) was survives done
      (λ _ means. text_kept old.now s means body text number count is_body is_number is counts)
      (same_rest (with_text text count s) refl refl refl) (λ b. b)

  pub keeps_key_on : (id key : List ℕ) (one : step.Kept) (row_is : table.Kept) → id ≡ key → row_is ≡ kept_row one → IsTrue (is_key key) → IsTrue (is_utf8 one.request) → IsTrue (is_count (pos one.count)) → IsRequest one.request
      → (new.IsSound → row.Writes old new (with_kept id row_is old.now))
      → Shows new here counted confirmed (inside before (with_key key one s))
  keeps_key_on id key one row_is is_id is valid text counts asked done =
      reached old new here counted confirmed (λ _. with_kept id row_is old.now) counted confirmed before s (with_key key one s) was survives
      (λ sound. let d = done sound in record { is_open = d.is_open; now_is = d.now_is; committed_is = d.committed_is; mode = d.mode })
      (λ _ means. key_kept old.now s means id key one row_is is_id is valid text counts asked)
      (same_rest (with_key key one s) refl refl refl) (λ b. b)

  -- the stock

  stock_means : (stock : FinMap stock_cmp Stock) (holders : Holders) → Stocked (restocked stock old.now) → holders_in stock ≡ holders → Means old.now (Some s) → Means (restocked stock old.now) (Some (on_cargo (λ c. record c { holders = holders }) s))
  stock_means stock holders rows held means = (
    assumption (rows, means),
    (λ i. record (meaning_of old.now) { cargo = record (meaning_of old.now).cargo { holders = held i } }) ∙ ap (on_cargo (λ c. record c { holders = holders })) means.1,
  )

  pub uses_up_on : (text : List ℕ) (w : ℕ) → (IsShowing old (row.inside old.committed old.now) → Stocked old.now → new.IsSound → Restocked new old.committed old.now (using_up (holders_in old.now.stock) w))
      → Shows new here counted confirmed (inside before (on_cargo (written text (UseUp w)) s))
  uses_up_on text w done sound =
      let k = was (survives.sound sound) in
      let up = k.holds.inside refl in
      let m = k.holds.stands up in
      let d = done (λ _. record { is_open = up; now_is = refl; committed_is = refl; mode = m.mode }) m.now.0.stock sound in
      let held : holders_in d.stock ≡ using_up s.cargo.holders w = d.held ∙ ap (λ (x : State). using_up x.cargo.holders w) m.now.1 in
      reached old new here counted confirmed (λ _. restocked d.stock old.now) counted confirmed before s (on_cargo (written text (UseUp w)) s) was survives
      (λ _. d.shown)
      (λ _ means. stock_means d.stock (using_up s.cargo.holders w) d.rows held means)
      (same_rest (on_cargo (written text (UseUp w)) s) refl refl refl) (λ b. b) sound

-- a move that was added
module _ (t : Tables) (s : State) (m : Move) (book : List table.Move) (counts : FinMap count_cmp Count) (builds : FinMap build_cmp Build) (means : Means t (Some s)) where
  abbrev with_book : Tables
  with_book = record t { moves = book; counts = counts; builds = builds }

  still_readable : AreNumbered move_id book → IsTrue (list_all is_move_row book) → AreCounts counts (book_in book) → AreBuilds builds (book_in book) → IsReadable with_book
  still_readable numbered rows are_counts are_builds = record {
    station = means.0.station;
    old = means.0.old;
    waybills = means.0.waybills;
    stock = means.0.stock;
    flights = means.0.flights;
    moves = rows;
    book = numbered;
    expected = means.0.expected;
    parts = means.0.parts;
    trail = means.0.trail;
    lines = means.0.lines;
    messages = means.0.messages;
    outbox = means.0.outbox;
    kept = means.0.kept;
    requests = means.0.requests;
    kept_texts = means.0.kept_texts;
    counts = are_counts;
    builds = are_builds;
  }

  pub move_means : HasMove t (record t { moves = book }) m → AreCounts counts (book_in t.moves ++ m ∷ []) → AreBuilds builds (book_in t.moves ++ m ∷ []) → Means with_book (Some (with_moves (m ∷ []) s))
  move_means has are_counts are_builds = (
    still_readable has.numbered has.rows (subst (λ b. AreCounts counts b) (sym has.book) are_counts) (subst (λ b. AreBuilds builds b) (sym has.book) are_builds),
    (λ i. record (meaning_of t) { cargo = record (meaning_of t).cargo { book = has.book i } }) ∙ ap (with_moves (m ∷ [])) means.1,
  )

module _ (old new : View) (here : List ℕ) (counted : KnownCounts) (confirmed : ℕ) (before s : State) (was : Shows old here counted confirmed (inside before s)) (survives : row.Survives old new) where
  pub moves_on : (n : ℕ) (m : Move) → n ≡ counted.sizes.moves + 1 → (later : KnownCounts) → later.sizes ≡ record { moves = n; lines = counted.sizes.lines; messages = counted.sizes.messages }
      → (were : ℤ) → ((book : List Move) → AreBoarded counted.boarded book → WereThere book m were → AreBoarded later.boarded (book ++ m ∷ []))
      → ((book : List Move) → AreKnown counted.known (running book) → AreKnown later.known (running (book ++ m ∷ [])))
      → ((book : List Move) (declared : Declarations) → HaveAsked counted.waybills book declared → HaveAsked later.waybills (book ++ m ∷ []) declared) → later.open_lines ≡ counted.open_lines
      → ((book : List Move) (outbox : List (List ℕ)) → n ≡ length book + 1 → HaveSpans counted.spans book outbox → HaveSpans later.spans (book ++ m ∷ []) outbox)
      → (IsShowing old (row.inside old.committed old.now) → (book : List Move) → AreCounts old.now.counts book → AreBuilds old.now.builds book → AreKnown counted.known (running book) → new.IsSound → WereThere book m were)
      → (IsShowing old (row.inside old.committed old.now) → (book : List Move) → AreCounts old.now.counts book → AreBuilds old.now.builds book → AreKnown counted.known (running book) → Recorded new old.committed old.now n m (book ++ m ∷ []))
      → Shows new here later confirmed (inside before (with_moves (m ∷ []) s))
  moves_on n m next later sizes_later were after knows asked same_open covered there done sound =
      let k = was (survives.sound sound) in
      let up = k.holds.inside refl in
      let h = k.holds.stands up in
      let one_more : n ≡ length s.cargo.book + 1 = next ∙ ap (λ (z : Sizes). z.moves + 1) k.knows.sizes_are in
      let known : AreKnown counted.known (running (book_in old.now.moves)) = subst (λ b. AreKnown counted.known (running b)) (sym (book_told old.now s h.now)) k.kept.known in
      let r = done (λ _. record { is_open = up; now_is = refl; committed_is = refl; mode = h.mode }) (book_in old.now.moves) h.now.0.counts h.now.0.builds known in
      let has = move_written old.now s h.now n m r.row r.is one_more r.fits r.again in
      reached old new here counted confirmed (λ _. record (with_move r.row old.now) { counts = r.posted.counts; builds = r.posted.builds }) later confirmed
      before s (with_moves (m ∷ []) s) was survives
      (λ up_to. r.posted.shows up_to)
      (λ _ means. move_means old.now s m (with_move r.row old.now).moves r.posted.counts r.posted.builds means has r.posted.are_counts r.posted.are_builds)
      (λ known. record {
        here_is = known.here_is;
        sizes_are = sizes_later ∙ (λ i. record { moves = (one_more ∙ sym (length-append s.cargo.book (m ∷ []))) i; lines = (known.sizes_are i).lines; messages = (known.sizes_are i).messages });
        confirmed_is = known.confirmed_is;
      })
      (λ kept. record {
        boarded = after s.cargo.book kept.boarded (subst (λ book. WereThere book m were) (book_told old.now s h.now) (there (λ _. record { is_open = up; now_is = refl; committed_is = refl; mode = h.mode }) (book_in old.now.moves) h.now.0.counts h.now.0.builds known sound));
        known = knows s.cargo.book kept.known;
        waybills = asked s.cargo.book s.cargo.declared kept.waybills;
        open_lines = subst (λ (o : OpenLines). HasOpen o.kept s.cargo.expected) (sym same_open) kept.open_lines;
        spans = covered s.cargo.book s.cargo.outbox one_more kept.spans;
      }) sound

-- a mark of 32 bits
pub mark_fits : (upto : ℕ) → upto < 4_294_967_296 → is_count (pos upto) ≡ true
mark_fits = count_fits

-- an order that was carried out
module _ (old new : View) (here : List ℕ) (counted : KnownCounts) (confirmed : ℕ) (s : State) (was : Shows old here counted confirmed (at_rest s)) (survives : row.Survives old new) (up : new.IsSound → old.is_open ≡ true) where
  pub at_rest_now : new.IsSound → IsShowing old (row.at_rest old.now)
  at_rest_now sound _ =
      let m = (was (survives.sound sound)).holds.stands (up sound) in
      record { is_open = up sound; now_is = refl; committed_is = sym (m.rest refl); mode = m.mode }

  pub orders_on : (order : Order) → (IsShowing old (row.at_rest old.now) → Stocked old.now → new.IsSound → Restocked new old.now old.now (after_order (holders_in old.now.stock) order))
      → Shows new here counted confirmed (inside s (with_order order s))
  orders_on order done sound =
      let k = was (survives.sound sound) in
      let m = k.holds.stands (up sound) in
      let d = done (at_rest_now sound) m.now.0.stock sound in
      let held : holders_in d.stock ≡ after_order s.cargo.holders order = d.held ∙ ap (λ (x : State). after_order x.cargo.holders order) m.now.1 in
      let after : Means (restocked d.stock old.now) (Some (with_order order s)) = (
        assumption (d, m.now),
        (λ i. record (meaning_of old.now) { cargo = record (meaning_of old.now).cargo { holders = held i } }) ∙ ap (on_cargo (λ c. record c { holders = after_order s.cargo.holders order })) m.now.1,
      ) in
      record {
        holds = record {
          inside = λ _. d.shown.is_open;
          stands = λ _. record {
            mode = d.shown.mode;
            rest = λ e. absurd (cc);
            now = subst (λ t. Means t (Some (with_order order s))) (sym d.shown.now_is) after;
            committed = subst (λ t. Means t (Some s)) (sym d.shown.committed_is) m.now;
          };
          found = λ t left. k.holds.found t (survives.crash sound t left);
        };
        knows = record { here_is = k.knows.here_is; sizes_are = k.knows.sizes_are; confirmed_is = k.knows.confirmed_is };
        kept = k.kept;
      }

-- what is said of each refusal is said of the result
pub of_refusal : {A E : Type 0} (due : Option (ℕ × Option ℕ)) (r : Result A (StockFault E)) → ((number : ℕ) (lowest : Option ℕ) → r ≡ Err (fault.Refused number lowest) → due ≡ Some (number, lowest)) → IfErr r (RefusesBy due)
of_refusal due (Ok x) so = tt
of_refusal due (Err (fault.Refused number lowest)) so = so number lowest refl
of_refusal due (Err (fault.Rows e)) so = tt

pub on_refusal : {A E : Type 0} (P : Type 0) (r : Result A (StockFault E)) → ((number : ℕ) (lowest : Option ℕ) → r ≡ Err (fault.Refused number lowest) → P) → OnRefused r P
on_refusal P (Ok x) so = tt
on_refusal P (Err (fault.Refused number lowest)) so = so number lowest refl
on_refusal P (Err (fault.Rows e)) so = tt

size_refused : (h : Holders) (order : Order) → is_run (run_of order) ≡ false → order_refusal h order ≡ Some (105, None)
size_refused h order wrong = ap (λ b. if b then refused_by (lowest_failing h (run_of order) (test_of order)) (refusal_number order) else Some (105, None)) wrong

-- an order that was answered
module _ (old new : View) (here : List ℕ) (counted : KnownCounts) (confirmed : ℕ) (s : State) (was : Shows old here counted confirmed (at_rest s)) (survives : row.Survives old new) where
  pub due_on : (order : Order) (due : Option (ℕ × Option ℕ)) → (new.IsSound → old.is_open ≡ true) → (IsShowing old (row.at_rest old.now) → Stocked old.now → new.IsSound → order_refusal (holders_in old.now.stock) order ≡ due)
      → new.IsSound → order_refusal s.cargo.holders order ≡ due
  due_on order due up tells sound =
      let m = (was (survives.sound sound)).holds.stands (up sound) in
      ap (λ (x : State). order_refusal x.cargo.holders order) (sym m.now.1) ∙ tells (at_rest_now old new here counted confirmed s was survives up sound) m.now.0.stock sound

  pub refusal_on : (order : Order) (due : Option (ℕ × Option ℕ)) → (is_run (run_of order) ≡ true → new.IsSound → old.is_open ≡ true) → (is_run (run_of order) ≡ false → Some (105, None) ≡ due)
      → (IsShowing old (row.at_rest old.now) → Stocked old.now → new.IsSound → order_refusal (holders_in old.now.stock) order ≡ due) → new.IsSound → order_refusal s.cargo.holders order ≡ due
  refusal_on order due up size tells sound = go (is_run (run_of order)) refl
    where
      go : (b : Bool) → is_run (run_of order) ≡ b → order_refusal s.cargo.holders order ≡ due
      go true e = due_on order due (up e) tells sound
      go false e = size_refused s.cargo.holders order e ∙ size e

  pub stays_on : (order : Order) → (is_run (run_of order) ≡ true → new.IsSound → old.is_open ≡ true) → (is_run (run_of order) ≡ false → new ≡ old)
      → (IsShowing old (row.at_rest old.now) → IsShowing new (row.at_rest old.now)) → Shows new here counted confirmed (at_rest s)
  stays_on order up size same sound = go (is_run (run_of order)) refl
    where
      go : (b : Bool) → is_run (run_of order) ≡ b → Tells new here counted confirmed (at_rest s)
      go false e = subst (λ v. Tells v here counted confirmed (at_rest s)) (sym (size e)) (was (survives.sound sound))
      go true e =
          let k = was (survives.sound sound) in
          let m = k.holds.stands (up e sound) in
          let d = same (at_rest_now old new here counted confirmed s was survives (up e) sound) sound in
          record {
            holds = record {
              inside = λ f. absurd (cc);
              stands = λ _. record {
                mode = d.mode;
                rest = λ _. d.now_is ∙ sym d.committed_is;
                now = subst (λ t. Means t (Some s)) (sym d.now_is) m.now;
                committed = subst (λ t. Means t (Some s)) (sym d.committed_is) m.now;
              };
              found = λ t left. k.holds.found t (survives.crash sound t left);
            };
            knows = k.knows;
            kept = k.kept;
          }
