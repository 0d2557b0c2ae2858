-- Rows that a query gives one at a time, and the sink that takes them.
use Rattle.station_schema.proofs.Common.{Bool, Command, CompileError, Compiled, Database, EndsIn, Err, Error, Ghosts, HasCleanDisk, Held, IsErr, IsSourceOf, IsStatement, IsTrue, IsUnchanged, List, None, Ok, Query, Result, Row, Schema, Select, ShowsRows, Some, State, Stops, Survives, [], ap, append-nil, append_assoc, arith, begins_shown, command_of, false, given_begin, inl, inr, length, map, reads_listing, refl, state, subst, survives_then, sym, take, take-map, timed, true, unchanged_then, understood, ℕ, ◌++◌, ◌∙◌, ◌∷◌, ◌≡◌, ◌≤◌, ◌⊎◌}
use Rattle.std.proofs.Math.Seq.{take-append_seam}
use Rattle.sqlite.specs.Given.{HasGiven, IsPlain}
use Rattle.sqlite.specs.State.{FailsToQuery, Shown, Begins}
use Rattle.sqlite.proofs.StreamLemmas.{given_plain, rolled_back_since}
use Rattle.station_schema.proofs.Inside.{query_stops}
use Rattle.station_schema.proofs.AnyTexts.{asks}
use Rattle.station_schema.specs.Connection.{IsBeginning, Moves, Streams, StreamsRows, taking}
use Rattle.row_sinks.specs.Handed.{HandedOut}

module _ {K X : Type 0} (takes : K → X → Bool → K → Type 0) where
  -- these were taken in front of what is taken next
  abbrev pub TakenBefore : List X → K → K → Type 0
  TakenBefore given from at = (rest : List X) (to : K) → HandedOut takes rest at to → HandedOut takes (given ++ rest) from to

  nothing_before : (from : K) → TakenBefore [] from from
  nothing_before from rest to handed = handed

  one_more : (given : List X) (x : X) (from at new : K) → TakenBefore given from at → takes at x true new → TakenBefore (given ++ x ∷ []) from new
  one_more given x from at new before took rest to handed = subst (λ l. HandedOut takes l from to) (sym (append_assoc given (x ∷ []) rest)) (before (x ∷ rest) to (true, new, took, handed))

  the_last : (given : List X) (x : X) (from at new : K) → TakenBefore given from at → takes at x false new → (tail : List X) → HandedOut takes ((given ++ x ∷ []) ++ tail) from new
  the_last given x from at new before took tail = subst (λ l. HandedOut takes l from new) (sym (append_assoc given (x ∷ []) tail)) (before (x ∷ tail) new (false, new, took, refl))

  no_more : (given : List X) (from at : K) → TakenBefore given from at → HandedOut takes given from at
  no_more given from at before = subst (λ l. HandedOut takes l from at) (append-nil given) (before [] at refl)

unchanged_same : (s : State) → IsTrue s.is_open → IsUnchanged s s
unchanged_same s is = (record { was_open = is; is_open = is; now_is = refl; committed_is = refl; mode = refl }, record { changes = refl; last_rowid = refl }, refl)

survives_same : (s : State) → Survives s s (λ _. ⊥)
survives_same s = record { clean = omega arith; shield = λ h. h; counts = omega arith; limit = refl; closes = λ clean is. inl is; crash = λ clean db left. inl left }

stops_since : (old mid new : State) → IsUnchanged old mid → old.faults ≤ mid.faults → Stops mid new → Stops old new
stops_since old mid new same counts (inl again) = inl (unchanged_then old mid new same again)
stops_since old mid new same counts (inr back) = inr (rolled_back_since old mid new same counts back)

-- what a connection shows that wasn't changed
module _ (sql : List ℕ) (params : Row) (old mid new : State) (same : IsUnchanged old mid) (rows : List Row) where
  is_since : (c : Compiled) → IsStatement mid sql params c → IsStatement old sql params c
  is_since c h = record { is = subst (λ (d : Database). understood d.schema sql ≡ Ok c) same.0.now_is h.is; whole = h.whole; given = h.given; now = h.now }

  source_since : (db : Database) → IsSourceOf (reads_listing mid.now.schema sql) mid.now db → IsSourceOf (reads_listing old.now.schema sql) old.now db
  source_since db = subst (λ (d : Database). IsSourceOf (reads_listing d.schema sql) d db) same.0.now_is

  begins_since : Begins sql params mid rows → Begins sql params old rows
  unfolding Begins is_since
  begins_since h = (h.0, is_since h.0 h.1, h.2, h.3, source_since h.3 h.4, h.5)

  shown_since : ((c : Compiled) → understood old.now.schema sql ≡ Ok c → c.returning ≡ None) → Shown sql params mid new rows → Shown sql params old new rows
  unfolding Shown is_since
  shown_since plain h =
      let none = plain h.0 (is_since h.0 h.1).is in
      let full = timed params h.0.formats h.1.now in
      let it = subst (ShowsRows mid new sql h.0 full rows) none h.2 in
      (h.0, is_since h.0 h.1, subst (ShowsRows old new sql h.0 full rows) (sym none) (it.0, source_since it.0 it.1, it.2, unchanged_then old mid new same it.3))

module _ {S T K : Type 0} (g : Ghosts S) (reads : Row → T → Type 0) (takes : K → T → Bool → K → Type 0) (old : Held S) (from : K) where
  -- what a query has given, and what its sink has taken
  pub record IsOn (sql : List ℕ) (params : Row) (now : Held S) (at : K) : Type 0 where
    pub same : IsUnchanged (state g old) (state g now)
    pub given : List Row
    pub is_at : HasGiven g sql params now given
    pub before : TakenBefore (taking reads takes) given from at
    pub plain : (c : Compiled) → understood old.schema sql ≡ Ok c → c.returning ≡ None

  pub record HasCome (now : Held S) (at : K) : Type 0 where
    pub survives : Survives (state g old) (state g now) (λ _. ⊥)
    pub values : List T
    pub before : TakenBefore takes values from at
    pub on : HasCleanDisk (state g now) → (sql : List ℕ) (params : Row) → HasGiven g sql params old [] → IsTrue (state g old).is_open → IsOn sql params now at

  pub at_start : HasCome old from
  at_start = record {
    survives = survives_same (state g old);
    values = [];
    before = nothing_before takes from;
    on = λ clean sql params begun is_open. record { same = unchanged_same (state g old) is_open; given = []; is_at = begun; before = nothing_before (taking reads takes) from; plain = given_plain g sql params old [] begun };
  }

  pub came_with : (now : Held S) (at : K) → HasCome now at → (values : List T) × HandedOut takes values from at
  came_with now at come = (come.values, no_more takes come.values from at come.before)

  -- no further row is asked for
  pub cut_off : (now : Held S) (at : K) (come : HasCome now at) → HasCleanDisk (state g now) → (sql : List ℕ) (params : Row) → HasGiven g sql params old [] → IsTrue (state g old).is_open
      → Stops (state g old) (state g now) × (given : List Row) × ((given ≡ []) ⊎ IsBeginning sql params (state g old) given) × HandedOut (taking reads takes) given from at
  cut_off now at come clean sql params begun is_open =
      let was = come.on clean sql params begun is_open in
      (inl was.same, was.given, inr (was.same.0.was_open, begins_since sql params (state g old) (state g now) (state g now) was.same was.given (given_begin g sql params now was.given was.is_at)), no_more (taking reads takes) was.given from at was.before)

  module _ (now new : Held S) (at : K) (come : HasCome now at) (kept : Survives (state g now) (state g new) (λ _. ⊥)) where
    pub survived : Survives (state g old) (state g new) (λ _. ⊥)
    survived = survives_then (state g old) (state g now) (state g new) _ _ _ (λ _ db none. none) (λ _ db none. none) come.survives kept

    pub took_these : (values : List T) × HandedOut takes values from at
    took_these = (come.values, no_more takes come.values from at come.before)

    was_clean : HasCleanDisk (state g new) → HasCleanDisk (state g now)
    was_clean clean = omega (arith, kept.clean)

    -- one more row was given and taken
    pub one_on : (value : T) (next : K) → takes at value true next
        → (HasCleanDisk (state g new) → (sql : List ℕ) (params : Row) (given : List Row) → HasGiven g sql params now given → Moves g sql params reads now new given (Ok (Some value))) → HasCome new next
    one_on value next took moves = record {
      survives = survived;
      values = come.values ++ value ∷ [];
      before = one_more takes come.values value from at next come.before took;
      on = λ clean sql params begun is_open.
          let was = come.on (was_clean clean) sql params begun is_open in
          let moved = moves clean sql params was.given was.is_at in
          record {
            same = unchanged_then (state g old) (state g now) (state g new) was.same moved.0;
            given = was.given ++ moved.1 ∷ [];
            is_at = moved.3;
            before = one_more (taking reads takes) was.given moved.1 from at next was.before (value, moved.2, took);
            plain = was.plain;
          };
    }

    -- the sink wants no more
    pub stopped_took : (value : T) (next : K) → takes at value false next → (values : List T) × HandedOut takes values from next
    stopped_took value next took = (come.values ++ value ∷ [], subst (λ l. HandedOut takes l from next) (append-nil (come.values ++ value ∷ [])) (the_last takes come.values value from at next come.before took []))

    module _ (clean : HasCleanDisk (state g new)) (sql : List ℕ) (params : Row) (begun : HasGiven g sql params old []) (is_open : IsTrue (state g old).is_open) where
      pub was_on : IsOn sql params now at
      was_on = come.on (was_clean clean) sql params begun is_open

      pub stopped : (value : T) (next : K) → takes at value false next → ((given : List Row) → HasGiven g sql params now given → Moves g sql params reads now new given (Ok (Some value))) → Streams sql params (state g old) (state g new) (taking reads takes) from next (Ok tt)
      stopped value next took moves =
          let moved = moves was_on.given was_on.is_at in
          let same = unchanged_then (state g old) (state g now) (state g new) was_on.same moved.0 in
          let rows = was_on.given ++ moved.1 ∷ [] in (
            same,
            rows,
            inr (
              (same.0.was_open, begins_since sql params (state g old) (state g new) (state g new) same rows (given_begin g sql params new rows moved.3)),
              the_last (taking reads takes) was_on.given moved.1 from at next was_on.before (value, moved.2, took),
            ),
          )

      -- these are all
      pub ended : ((given : List Row) → HasGiven g sql params now given → Moves g sql params reads now new given (Ok None)) → Streams sql params (state g old) (state g new) (taking reads takes) from at (Ok tt)
      ended moves =
          let moved = moves was_on.given was_on.is_at in (
            unchanged_then (state g old) (state g now) (state g new) was_on.same moved.0,
            was_on.given,
            inl (shown_since sql params (state g old) (state g now) (state g new) was_on.same was_on.given was_on.plain moved.1, no_more (taking reads takes) was_on.given from at was_on.before),
          )

      -- an error
      pub failed : (r : Result (Unit {0}) Error) → IsErr r → ((given : List Row) → HasGiven g sql params now given → Stops (state g now) (state g new)) → Streams sql params (state g old) (state g new) (taking reads takes) from at r
      failed (Ok x) is stops = absurd (let e : false ≡ true = is in cc)
      failed (Err e) is stops = (
        stops_since (state g old) (state g now) (state g new) was_on.same come.survives.counts (stops was_on.given was_on.is_at),
        was_on.given,
        inr (was_on.same.0.was_open, begins_since sql params (state g old) (state g now) (state g now) was_on.same was_on.given (given_begin g sql params now was_on.given was_on.is_at)),
        no_more (taking reads takes) was_on.given from at was_on.before,
      )

-- a query that doesn't begin
pub not_begun : {K : Type 0} (takes : K → Row → Bool → K → Type 0) (sql : List ℕ) (params : Row) (old new : State) (at : K) (r : Result (Unit {0}) Error) → IsErr r → IsPlain (understood old.now.schema sql)
    → (e : Error) → FailsToQuery sql params old new e → Streams sql params old new takes at at r
not_begun takes sql params old new at (Ok x) is plain e fails = absurd (let no : false ≡ true = is in cc)
not_begun takes sql params old new at (Err e') is plain e fails = (query_stops sql params old new old.now.schema refl plain e fails, [], inl refl, refl)

-- one that did
pub begun_then : {K : Type 0} (takes : K → Row → Bool → K → Type 0) (sql : List ℕ) (params : Row) (old mid new : State) (from to : K) (r : Result (Unit {0}) Error) → IsUnchanged old mid → old.faults ≤ mid.faults
    → ((c : Compiled) → understood old.now.schema sql ≡ Ok c → c.returning ≡ None) → Streams sql params mid new takes from to r → Streams sql params old new takes from to r
begun_then takes sql params old mid new from to (Ok x) same counts plain (again, given, inl (shown, handed)) =
    (unchanged_then old mid new same again, given, inl (shown_since sql params old mid new same given plain shown, handed))
begun_then takes sql params old mid new from to (Ok x) same counts plain (again, given, inr (begins, handed)) =
    (unchanged_then old mid new same again, given, inr ((same.0.was_open, begins_since sql params old mid new same given begins.1), handed))
begun_then takes sql params old mid new from to (Err e) same counts plain (stops, given, inl none, handed) = (stops_since old mid new same counts stops, given, inl none, handed)
begun_then takes sql params old mid new from to (Err e) same counts plain (stops, given, inr begins, handed) = (stops_since old mid new same counts stops, given, inr (same.0.was_open, begins_since sql params old mid new same given begins.1), handed)

pub returns_nothing : (r : Result Compiled CompileError) → IsPlain r → (c : Compiled) → r ≡ Ok c → c.returning ≡ None
returns_nothing (Ok found) plain c is = let same : found ≡ c = cc in rw (← same) plain.0
returns_nothing (Err e) plain c is = absurd plain

-- ---- typed rows

abbrev EndsAt : Command → Type 0
EndsAt command = (db : Database) (params : Row) → EndsIn command db params

asks_ends : (command : Command) (query : Query) (names : List (List ℕ)) → command ≡ Select (asks query) names → EndsAt command
asks_ends command query names is = subst EndsAt (sym is) (λ db params. tt)

module _ {K X : Type 0} (takes : K → Row → Bool → K → Type 0) (typed : K → X → Bool → K → Type 0) (shown : X → Row) (step : (old : K) (x : X) (go : Bool) (new : K) → takes old (shown x) go new → typed old x go new) where
  handed : (xs : List X) (from to : K) → HandedOut takes (map shown xs) from to → HandedOut typed xs from to
  handed [] from to h = h
  handed (x ∷ xs) from to (true, mid, took, rest) = (true, mid, step from x true mid took, handed xs mid to rest)
  handed (x ∷ xs) from to (false, mid, took, rest) = (false, mid, step from x false mid took, rest)

  module _ (sql : List ℕ) (params : Row) (old new : State) (schema : Schema) (has : old.now.schema ≡ schema) (query : Query) (names : List (List ℕ)) (is : command_of (understood schema sql) ≡ Select (asks query) names) (xs : List X)
      (lists : (later : State) (rows : List Row) → Shown sql params old later rows → rows ≡ map shown xs) where
    whole : (given : List Row) → IsBeginning sql params old given → (tail : List Row) × (given ++ tail ≡ map shown xs)
    whole given (is_open, begins) =
        let all = begins_shown sql params old old given begins (unchanged_same old is_open) (λ c db it source. asks_ends c.command query names (ap command_of (sym it.is ∙ ap (λ s. understood s sql) has) ∙ is) db (timed params c.formats it.now)) in
        (all.0, lists old (given ++ all.0) all.1)

    beginning : (given tail : List Row) → given ++ tail ≡ map shown xs → given ≡ map shown (take (length given) xs)
    beginning given tail same = sym (take-append_seam given tail) ∙ ap (take (length given)) same ∙ take-map shown (length given) xs

    pub hands : (from to : K) (r : Result (Unit {0}) Error) → Streams sql params old new takes from to r → StreamsRows old new typed xs from to r
    hands from to (Ok x) (same, given, inl (all, took)) = (handed xs from to (subst (λ l. HandedOut takes l from to) (lists new given all) took), same)
    hands from to (Ok x) (same, given, inr (begun, took)) = let rest = whole given begun in (handed xs from to (subst (λ l. HandedOut takes l from to) rest.1 (took rest.0)), same)
    hands from to (Err e) (stops, given, inl none, took) = ((0, handed [] from to (subst (λ l. HandedOut takes l from to) none took)), stops)
    hands from to (Err e) (stops, given, inr begun, took) =
        let rest = whole given begun in
        ((length given, handed (take (length given) xs) from to (subst (λ l. HandedOut takes l from to) (beginning given rest.0 rest.1) took)), stops)
