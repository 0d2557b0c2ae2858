-- The audit of one table after another, the row of `station`, and why a station's database is fit.
use Rattle.table_audits.proofs.Common.{AreGood, AreJudged, Err, Error, HasBefore, HasJudged, Held, HoldsStation, IsErr, IsFirstBad, IsLawfulTable, IsStationOf, IsTrue, JudgesOn, Known, Knows, List, MatchOption, None, Ok, Option, Reading, Result, Some, TableName, Tables, [], airport_in, ap, ap₂, arith, before, confirmed_in, damaged, false, inl, inr, length, natural, new_row, no_station, one_row, opening, other_version, read_as, state, station_read, subst, sym, true, ℕ, ℤ, ◌-◌, ◌∙◌, ◌∷◌, ◌≡◌, ◌≤◌}
use Rattle.sqlite.specs.State.{State, HasCleanDisk, IsUnchanged, Survives}
use Rattle.sqlite_trees.specs.declared.store.Store.{Ghosts}
use Rattle.sqlite.proofs.Callers.{unchanged_then}
use Rattle.sqlite.proofs.StreamLemmas.{rolled_back_since}
use Rattle.station_schema.specs.Schema.{Reads, Stops}
use Rattle.table_audits.specs.declared.name.TableName.TheVariants as table
use Rattle.table_audits.specs.declared.rows.Unfit.{Unfit}
use Rattle.table_audits.specs.declared.rows.Unfit.TheVariants as unfit
use Rattle.table_audits.specs.Verdict.{is_ours, IsUnfit}

-- ---- the tables before one are good too

pub through : (db : Reading) (t : Tables) → IsStationOf db t → (name : TableName) → AreGood db t (name ∷ before name)
through db t all table.Build = all
through db t all table.Counts = all.1
through db t all table.KeptText = all.1.1
through db t all table.KeptKey = all.1.1.1
through db t all table.Outbox = all.1.1.1.1
through db t all table.Trail = all.1.1.1.1.1
through db t all table.Part = all.1.1.1.1.1.1
through db t all table.Expected = all.1.1.1.1.1.1.1
through db t all table.Moves = all.1.1.1.1.1.1.1.1
through db t all table.Flight = all.1.1.1.1.1.1.1.1.1
through db t all table.Stock = all.1.1.1.1.1.1.1.1.1.1
through db t all table.Waybill2 = all.1.1.1.1.1.1.1.1.1.1.1
through db t all table.Waybill = all.1.1.1.1.1.1.1.1.1.1.1.1
through db t all table.Station = all.1.1.1.1.1.1.1.1.1.1.1.1.1

-- ---- one call after another

reads_back : {X : Type 0} (old mid new : State) (r : Result X Error) (P : X → Type 0) → IsUnchanged old mid → old.faults ≤ mid.faults → Reads mid new r P → Reads old new r P
reads_back old mid new (Ok x) P same counts (is, again) = (is, unchanged_then old mid new same again)
reads_back old mid new (Err e) P same counts (inl again) = inl (unchanged_then old mid new same again)
reads_back old mid new (Err e) P same counts (inr back) = inr (rolled_back_since old mid new same counts back)

pub reads_err : {X : Type 0} (old new : State) (r : Result X Error) (P : X → Type 0) → IsErr r → Stops old new → Reads old new r P
reads_err old new (Ok x) P is stops = absurd (let no : false ≡ true = is in cc)
reads_err old new (Err e) P is stops = stops

-- the tables before the next one, or all of them
abbrev pub ahead_of : Option TableName → List TableName
ahead_of None = table.Build ∷ before table.Build
ahead_of (Some name) = before name

-- these tables are good, with what is kept of them
abbrev HasGood : Known → Reading → List TableName → Type 0
HasGood known db names = ((t : Tables) × AreGood db t names) × ((db.version ≡ known.version) × Knows names known db)

-- nothing has changed, and the tables before the next one are good
pub record AreSoFar {S : Type 0} (g : Ghosts S) (old new : Held S) (start known : Known) (next : Option TableName) : Type 0 where
  pub survives : Survives (state g old) (state g new) (λ _. ⊥)
  pub said : HasCleanDisk (state g new) → IsTrue (state g old).is_open → Knows [] start (read_as start.version (state g old).now)
      → HasGood known (read_as start.version (state g old).now) (ahead_of next) × IsUnchanged (state g old) (state g new)

-- an audit of the next table
pub told : {S X : Type 0} (g : Ghosts S) (old mid new : Held S) (start known : Known) (name : TableName) (r : Result X Error) (Says : Reading → X → Type 0)
    → AreSoFar g old mid start known (Some name) → Survives (state g mid) (state g new) (λ _. ⊥) → JudgesOn g mid new r name known Says
    → HasCleanDisk (state g new) → IsTrue (state g old).is_open → Knows [] start (read_as start.version (state g old).now)
    → Reads (state g old) (state g new) r (Says (read_as start.version (state g old).now))
told g old mid new start known name r Says so_far survives judges clean up knows =
    let db = read_as start.version (state g old).now in
    let there = read_as known.version (state g mid).now in
    let first : HasCleanDisk (state g mid) = omega (arith, clean, survives.clean) in
    let so = so_far.said first up knows in
    let is : db ≡ there = λ i. record { database = sym so.1.0.now_is i; version = so.0.1.0 i } in
    reads_back (state g old) (state g mid) (state g new) r (Says db) so.1 so_far.survives.counts
    (subst (λ d. Reads (state g mid) (state g new) r (Says d)) (sym is) (judges clean so.1.0.is_open (subst (HasBefore name) is so.0.0) (subst (Knows (before name) known) is so.0.1.1)))

-- once the table is good
pub gone_on : (name : TableName) (known : Known) (db : Reading) (next : Option TableName) → MatchOption next (name ≡ table.Build) (λ one. before one ≡ name ∷ before name) → HasJudged name known db true → HasGood known db (ahead_of next)
gone_on name known db None last past = subst (λ n. HasGood known db (n ∷ before n)) last past
gone_on name known db (Some one) order past = subst (HasGood known db) (sym order) past

-- fewer tables are ahead
abbrev pub left : Option TableName → ℕ
left next = 14 - length (ahead_of next)

-- the findings, once the last table is audited
pub all_judged : (known : Known) (db : Reading) → HasGood known db (ahead_of None) → AreJudged db (Ok (record {
  here = known.here;
  confirmed = known.confirmed;
  sizes = record { moves = known.book.moves; lines = known.lines; messages = known.messages };
}))
all_judged known db past =
    let t = past.0.0 in
    let all = past.0.1 in
    let own = past.1.1.0 t (through db t all table.Station) in (
      t,
      all,
      record {
        here = sym own.0;
        confirmed = sym own.1;
        moves = (past.1.1.1 t (through db t all table.Moves)).1;
        lines = past.1.1.2 t (through db t all table.Trail);
        messages = past.1.1.3 t (through db t all table.Outbox);
      },
    )

-- ---- the row of `station`

pub same_words : {a b : List ℕ} {c d : ℤ} → one_row a c ≡ one_row b d → a ≡ b
same_words h = cc

pub same_mark : {a b : List ℕ} {c d : ℤ} → one_row a c ≡ one_row b d → c ≡ d
same_mark h = cc

pub airport_is : (db : Reading) (airport : List ℕ) (confirmed : ℤ) → station_read db ≡ one_row airport confirmed → (t : Tables) → HoldsStation db t → airport_in t.stations ≡ airport
airport_is db airport confirmed says t h = ap airport_in h.3 ∙ same_words (sym h.2 ∙ says)

pub mark_is : (db : Reading) (airport : List ℕ) (confirmed : ℤ) → station_read db ≡ one_row airport confirmed → (t : Tables) → HoldsStation db t → confirmed_in t.stations ≡ natural confirmed
mark_is db airport confirmed says t h = ap confirmed_in h.3 ∙ ap natural (same_mark (sym h.2 ∙ says))

-- ---- a station's database is fit

pub fit : (db : Reading) (t : Tables) → IsStationOf db t → (why : Unfit) → IsUnfit db why → ⊥
fit db t all unfit.NoStation h = let s = (through db t all table.Station).0.held in absurd (let e : one_row s.0 s.1 ≡ no_station = sym s.2 ∙ h in cc)
fit db t all (unfit.OtherVersion n) h = let s = (through db t all table.Station).0.held in absurd (let e : one_row s.0 s.1 ≡ other_version n = sym s.2 ∙ h in cc)
fit db t all (unfit.Unlawful name) h = h.1.no_further t (through db t all name)

-- ---- the table `station` alone

pub is_our_row : (db : Reading) (airport : List ℕ) (confirmed : ℤ) → station_read db ≡ one_row airport confirmed → IsTrue (is_ours (station_read db))
is_our_row db airport confirmed says = ap is_ours says

same_rows : (airport a : List ℕ) (confirmed c : ℤ) → a ≡ airport → c ≡ confirmed → new_row a c ∷ [] ≡ new_row airport confirmed ∷ []
same_rows airport a confirmed c one two = ap₂ (λ x y. new_row x y ∷ []) one two

-- the one row isn't lawful
pub row_stops : (db : Reading) (airport : List ℕ) (confirmed : ℤ) → station_read db ≡ one_row airport confirmed → ((t : Tables) → t.stations ≡ new_row airport confirmed ∷ [] → IsLawfulTable table.Station t → false ≡ true) → IsFirstBad db table.Station
row_stops db airport confirmed says unlawful = record {
  tables = opening airport;
  so_far = tt;
  no_further = λ t all.
      let h = all.0.held in
      let is = h.3 ∙ same_rows airport h.0 confirmed h.1 (same_words (sym h.2 ∙ says)) (same_mark (sym h.2 ∙ says)) in
      absurd (let e = unlawful t is all.0.lawful in cc);
}

pub damaged_stops : (db : Reading) → station_read db ≡ damaged → IsTrue (is_ours (station_read db)) × IsFirstBad db table.Station
damaged_stops db says = (
  ap is_ours says,
  record {
    tables = opening [];
    so_far = tt;
    no_further = λ t all. absurd (let e : one_row all.0.held.0 all.0.held.1 ≡ damaged = sym all.0.held.2 ∙ says in cc);
  },
)
