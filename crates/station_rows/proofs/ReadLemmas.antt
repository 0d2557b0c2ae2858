-- What a query reads of a station's tables.
use Rattle.station_rows.proofs.Common.{Survives, Tables, tables_of, AreRead, Bool, Err, Error, Ghosts, Global, HasCleanDisk, Held, IfOk, IsErr, IsPlain, IsStation, IsUnchanged, List, None, Ok, Option, Queries, Query, Reads, Result, Row, Shown, Some, State, Stops, Vec, [], ap, false, get_or, inl, length, map, map_back, option_map, option_to_list, refl, state, station_schema, still_plain, subst, sym, take, true, understood, ℕ, ◌++◌, ◌+◌, ◌<◌, ◌∙◌, ◌∷◌, ◌≡◌}
use native.Mathlib.Numerals.{unary_clauses}
use Rattle.std.proofs.Math.Seq.{take-suc}
use Rattle.sqlite.specs.State.{CommitsShowing}
use Rattle.station_schema.proofs.Handing.{hands}
use Rattle.station_schema.proofs.Statements.{query_survives as plain_survives}
use Rattle.station_schema.specs.Connection.{Streams, StreamsRows}
use Rattle.station_rows.proofs.Terms.{IsQuery, Lists}

and_one : {X : Type 0} (reads : Row → X → Type 0) (rows : List Row) (xs : List X) (row : Row) (x : X) → AreRead reads rows xs → reads row x → AreRead reads (rows ++ row ∷ []) (xs ++ x ∷ [])
and_one reads [] [] row x are is = (is, tt)
and_one reads [] (y ∷ ys) row x are is = absurd are
and_one reads (r ∷ rows) [] row x are is = absurd are
and_one reads (r ∷ rows) (y ∷ ys) row x are is = (are.0, and_one reads rows ys row x are.1 is)

-- one row more
pub one_more_read : {X : Type 0} (reads : Row → X → Type 0) (rows : List Row) (i : ℕ) (row : Row) (xs : List X) (x : X) → i < length rows → row ≡ get_or rows i row → AreRead reads (take i rows) xs → reads row x
    → AreRead reads (take (i + 1) rows) (xs ++ x ∷ [])
one_more_read reads rows i row xs x within there are is =
    simp unary_clauses (subst (λ l. AreRead reads l (xs ++ x ∷ [])) (ap (λ r. take i rows ++ r ∷ []) there ∙ sym (take-suc rows i row within)) (and_one reads (take i rows) xs row x are is))

pub reads_each : {X : Type 0} (reads : Row → X → Type 0) (old new : State) (sql : List ℕ) (params : Row) (all : List Row) → ((rows : List Row) × Shown sql params old new rows × (all ≡ rows)) × IsUnchanged old new
    → (r : Result (Vec X Global) Error) → IfOk r (λ found. AreRead reads all found.items) → Reads old new r (λ found. (rows : List Row) × Shown sql params old new rows × AreRead reads rows found.items)
reads_each reads old new sql params all h (Ok found) are = ((h.0.0, h.0.1, subst (λ l. AreRead reads l found.items) h.0.2 are), h.1)
reads_each reads old new sql params all h (Err e) are = inl h.1

pub fails_to_read : {X : Type 0} (Is : X → Type 0) (old new : State) (r : Result X Error) → IsErr r → Stops old new → Reads old new r Is
fails_to_read Is old new (Ok x) fails stops = absurd (let no : false ≡ true = fails in cc)
fails_to_read Is old new (Err e) fails stops = stops

-- what was read, and what is so of the tables
pub read_where : {X So : Type 0} (Is : X → Type 0) (old new : State) (r : Result X Error) → So → Reads old new r Is → Reads old new r (λ x. Is x × So)
read_where Is old new (Ok x) so h = ((h.0, so), h.1)
read_where Is old new (Err e) so h = h

same_first : {X : Type 0} (a b : Option X) → option_to_list a ≡ option_to_list b → a ≡ b
same_first None None is = refl
same_first None (Some y) is = absurd cc
same_first (Some x) None is = absurd cc
same_first (Some x) (Some y) is = cc

option_list : {X Y : Type 0} (f : X → Y) (o : Option X) → option_to_list (option_map f o) ≡ map f (option_to_list o)
option_list f None = refl
option_list f (Some x) = refl

only : {X Y : Type 0} (f : X → Y) (o : Option X) → take 1 (map f (option_to_list o)) ≡ map f (option_to_list o)
only f None = refl
only f (Some x) = refl

module _ {A B : Type 0} (meant : A → B) (shown : B → Row) (read : Row → B) (back : (b : B) → read (shown b) ≡ b) where
  abbrev Stands : Row → A → Type 0
  Stands row x = meant x ≡ read row

  stand : (rows : List Row) (xs : List A) → AreRead Stands rows xs → map meant xs ≡ map read rows
  stand [] [] are = refl
  stand [] (x ∷ xs) are = absurd are
  stand (row ∷ rows) [] are = absurd are
  stand (row ∷ rows) (x ∷ xs) are = rw (are.0, stand rows xs are.1) refl

  module _ {S : Type 0} (g : Ghosts S) (old new : Held S) {sql : List ℕ} {query : Query} {is : IsQuery sql query} {params : Row} where
    -- all rows, which show these entries
    pub all_told : {wanted : Tables → List B} → Lists is params shown wanted → (r : Result (Vec A Global) Error) → (HasCleanDisk (state g new) → Queries sql params (state g old) (state g new) r (λ rows found. AreRead Stands rows found.items))
        → HasCleanDisk (state g new) → IsStation (state g old).now → Reads (state g old) (state g new) r (λ found. map meant found.items ≡ wanted (tables_of (state g old).now.trees))
    all_told {wanted = wanted} lists r asked clean was = go r (asked clean (still_plain sql params (state g old) (state g new) is.asks.1 was))
      where
        go : (r : Result (Vec A Global) Error) → Reads (state g old) (state g new) r (λ found. (rows : List Row) × Shown sql params (state g old) (state g new) rows × AreRead Stands rows found.items)
            → Reads (state g old) (state g new) r (λ found. map meant found.items ≡ wanted (tables_of (state g old).now.trees))
        go (Ok found) h = (stand h.0.0 found.items h.0.2 ∙ ap (map read) (lists.shows (state g old) (state g new) h.0.0 was h.0.1) ∙ map_back shown read back _, h.1)
        go (Err e) h = h

    -- the first row, which shows this entry
    pub first_told : (one : Tables → Option B) → Lists is params shown (λ tables. option_to_list (one tables)) → (r : Result (Option A) Error) → (HasCleanDisk (state g new) → Queries sql params (state g old) (state g new) r (λ rows found. AreRead Stands (take 1 rows) (option_to_list found)))
        → HasCleanDisk (state g new) → IsStation (state g old).now → Reads (state g old) (state g new) r (λ found. option_map meant found ≡ one (tables_of (state g old).now.trees))
    first_told one lists r asked clean was = go r (asked clean (still_plain sql params (state g old) (state g new) is.asks.1 was))
      where
        it : Option B
        it = one (tables_of (state g old).now.trees)

        go : (r : Result (Option A) Error) → Reads (state g old) (state g new) r (λ found. (rows : List Row) × Shown sql params (state g old) (state g new) rows × AreRead Stands (take 1 rows) (option_to_list found))
            → Reads (state g old) (state g new) r (λ found. option_map meant found ≡ it)
        go (Ok found) h = (
          same_first (option_map meant found) it
              (option_list meant found ∙ stand (take 1 h.0.0) (option_to_list found) h.0.2 ∙ ap (λ l. map read (take 1 l)) (lists.shows (state g old) (state g new) h.0.0 was h.0.1) ∙ ap (map read) (only shown it) ∙ map_back shown read back (option_to_list it)),
          h.1,
        )
        go (Err e) h = h

-- a query commits nothing
pub query_survives : {sql : List ℕ} {query : Query} (is : IsQuery sql query) (params : Row) (old new : State) → Survives old new (CommitsShowing sql params old) → Survives old new (λ _. ¬ IsStation old.now)
query_survives is params old new = plain_survives _ params old new is.asks.1

-- rows that are handed out, which show these entries
pub all_handed : {S K X : Type 0} (g : Ghosts S) (old new : Held S) (takes : K → Row → Bool → K → Type 0) (typed : K → X → Bool → K → Type 0) {shown : X → Row} → ((from : K) (x : X) (go : Bool) (to : K) → takes from (shown x) go to → typed from x go to)
    → {sql : List ℕ} {query : Query} {is : IsQuery sql query} {params : Row} {wanted : Tables → List X} → Lists is params shown wanted
    → (from to : K) (r : Result (Unit {0}) Error) → (HasCleanDisk (state g new) → IsPlain (understood (state g old).now.schema sql) → Streams sql params (state g old) (state g new) takes from to r)
    → HasCleanDisk (state g new) → IsStation (state g old).now → StreamsRows (state g old) (state g new) typed (wanted (tables_of (state g old).now.trees)) from to r
all_handed g old new takes typed {shown = shown} step {sql = sql} {query = query} {is = is} {params = params} lists from to r streams clean was =
    hands takes typed shown step sql params (state g old) (state g new) station_schema was.schema query is.names is.asks.0 _ (λ later rows. lists.shows (state g old) later rows was) from to r
    (streams clean (still_plain sql params (state g old) (state g new) is.asks.1 was))
