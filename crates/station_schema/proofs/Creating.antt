-- From no tables to those of a station.
use Rattle.station_schema.proofs.Common.{AllByRecursion, CommitsBy, DECLARATIONS, Database, Err, Error, Executes, IsInside, IsMade, IsTrue, KeepsCommit, KeepsRows, List, MOVES_AWB, Makes, Ok, Result, Schema, Shows, State, Survives, Table, Trees, [], ap, arith, build, counts, created, drop, expected, false, flight, get_or, kept_key, kept_text, lacks_sequence, length, length-map, map, moves, moves_index, next_tree, no_schema, outbox, part, refl, station, station_schema, stock, subst, suc, sym, trail, true, waybill, waybill2, zero, ℕ, ◌++◌, ◌+◌, ◌<◌, ◌∙◌, ◌∷◌, ◌≡◌}
use Rattle.std.specs.Borrow.{Bor}
use Rattle.std.specs.Fmt.{digits}
use Rattle.sqlite_tied.specs.Compute.{everything}
use Rattle.sqlite.specs.Listing.{understood}
use Rattle.station_schema.proofs.Making.{makes_it, create_survives, indexes_it, index_survives}
use Rattle.station_schema.proofs.AnyTexts.{IsCreate}
use Rattle.station_schema.proofs.Stored.{made_station}
use Rattle.station_schema.proofs.Texts.{made, moves_awb_is}

-- a text makes one schema of another, inside a transaction
pub record Step (sql : List ℕ) (from to : Schema) : Type 1 where
  pub makes : (old new : State) (r : Result ℕ Error) → IsMade from old → Executes sql [] old new r → Makes old new r to
  pub survives : (old new : State) → Survives old new (CommitsBy sql [] old) → Survives old new (λ _. ¬ IsMade from old)

abbrev AllEmpty : Trees → List Table → Type 0
AllEmpty db tables = AllByRecursion (λ (t : Table). db t.tree ≡ []) tables

with_last : (old new : Trees) (tables : List Table) (last : Table) → KeepsRows tables old new → AllEmpty old tables → new last.tree ≡ [] → AllEmpty new (tables ++ last ∷ [])
with_last old new [] last keep none here = (here, tt)
with_last old new (t ∷ ts) last keep none here = (keep.0 ∙ none.0, with_last old new ts last keep.1 none.1 here)

-- the schemas between the declarations
abbrev pub stages : List Schema
stages = made 0 0 ∷ made 1 0 ∷ made 2 0 ∷ made 3 1 ∷ made 4 2 ∷ made 5 2 ∷ made 5 3 ∷ made 6 4 ∷ made 7 5 ∷ made 8 5 ∷ made 9 5 ∷ made 10 6 ∷ made 11 7 ∷ made 12 8 ∷ made 13 9 ∷ made 14 9 ∷ []

abbrev pub texts : List (List ℕ)
texts = map (λ t. t.now) DECLARATIONS

-- the declaration at this place makes a table
table_step : (i : ℕ) (table : Table) → IsCreate (get_or texts i []) (get_or stages i no_schema) (record table { tree = 0 }) → created (get_or stages i no_schema) (record table { tree = 0 }) ≡ get_or stages (suc i) no_schema
    → lacks_sequence (get_or stages (suc i) no_schema) ≡ false → (get_or stages (suc i) no_schema).tables ≡ (get_or stages i no_schema).tables ++ table ∷ [] → table.tree ≡ next_tree (get_or stages i no_schema)
    → Step (get_or texts i []) (get_or stages i no_schema) (get_or stages (suc i) no_schema)
table_step i table is makes plain tables tree = record {
  makes = λ old new r was ran.
      makes_it _ _ _ is _ makes plain old new
      (λ it made. subst (AllEmpty new.now.trees) (sym tables) (with_last old.now.trees new.now.trees (get_or stages i no_schema).tables table it.others made.empty (ap new.now.trees tree ∙ it.empty))) r was ran;
  survives = λ old new s. create_survives _ _ _ is _ makes plain old new s;
}

moves_awb_step : Step MOVES_AWB.now (made 5 2) (made 5 3)
moves_awb_step = record {
  makes = λ old new r was ran. indexes_it MOVES_AWB.now (made 5 2) 4 moves (record moves_index { tree = 0 }) moves_awb_is (made 5 3) refl refl old new r was ran;
  survives = λ old new s. index_survives MOVES_AWB.now (made 5 2) 4 moves (record moves_index { tree = 0 }) moves_awb_is (made 5 3) refl refl old new s;
}

-- these are the declarations
abbrev AreDeclarations : List (Bor (List ℕ)) → Type 0
AreDeclarations given = map (λ (t : Bor (List ℕ)). t.now) given ≡ texts

text_at : (given : List (Bor (List ℕ))) (i : ℕ) → (get_or given i (record { ref_ptr = (0, 0); now = [] })).now ≡ get_or (map (λ (t : Bor (List ℕ)). t.now) given) i []
text_at [] i = refl
text_at (t ∷ ts) zero = refl
text_at (t ∷ ts) (suc i) = text_at ts i

pub item : (given : List (Bor (List ℕ))) → AreDeclarations given → (i : ℕ) → (get_or given i (record { ref_ptr = (0, 0); now = [] })).now ≡ get_or texts i []
item given are i = text_at given i ∙ ap (λ (l : List (List ℕ)). get_or l i []) are

pub fifteen : (given : List (Bor (List ℕ))) → AreDeclarations given → length given ≡ 15
fifteen given are = sym (length-map given (λ (t : Bor (List ℕ)). t.now)) ∙ ap length are

abbrev Steps : List (List ℕ) → List Schema → Type 1
Steps [] schemas = Unit {1}
Steps (sql ∷ rest) schemas = Step sql (get_or schemas 0 no_schema) (get_or schemas 1 no_schema) × Steps rest (drop 1 schemas)

one_and : {A B : Type 1} → A → B → A × B
one_and a b = (a, b)

-- each declaration, under the schema that the ones before it make
all_steps : Steps texts stages
unfolding understood everything digits
all_steps =
    one_and (table_step 0 station (record { command = refl; plain = (refl, refl); whole = refl; defined = refl }) refl refl refl refl)
    (one_and (table_step 1 waybill (record { command = refl; plain = (refl, refl); whole = refl; defined = refl }) refl refl refl refl)
    (one_and (table_step 2 stock (record { command = refl; plain = (refl, refl); whole = refl; defined = refl }) refl refl refl refl)
    (one_and (table_step 3 flight (record { command = refl; plain = (refl, refl); whole = refl; defined = refl }) refl refl refl refl)
    (one_and (table_step 4 moves (record { command = refl; plain = (refl, refl); whole = refl; defined = refl }) refl refl refl refl)
    (one_and moves_awb_step
    (one_and (table_step 6 expected (record { command = refl; plain = (refl, refl); whole = refl; defined = refl }) refl refl refl refl)
    (one_and (table_step 7 part (record { command = refl; plain = (refl, refl); whole = refl; defined = refl }) refl refl refl refl)
    (one_and (table_step 8 trail (record { command = refl; plain = (refl, refl); whole = refl; defined = refl }) refl refl refl refl)
    (one_and (table_step 9 outbox (record { command = refl; plain = (refl, refl); whole = refl; defined = refl }) refl refl refl refl)
    (one_and (table_step 10 kept_key (record { command = refl; plain = (refl, refl); whole = refl; defined = refl }) refl refl refl refl)
    (one_and (table_step 11 kept_text (record { command = refl; plain = (refl, refl); whole = refl; defined = refl }) refl refl refl refl)
    (one_and (table_step 12 counts (record { command = refl; plain = (refl, refl); whole = refl; defined = refl }) refl refl refl refl)
    (one_and (table_step 13 build (record { command = refl; plain = (refl, refl); whole = refl; defined = refl }) refl refl refl refl)
    (one_and (table_step 14 waybill2 (record { command = refl; plain = (refl, refl); whole = refl; defined = refl }) refl refl refl refl) tt))))))))))))))

step_in : (rest : List (List ℕ)) (schemas : List Schema) → Steps rest schemas → (i : ℕ) → i < length rest → Step (get_or rest i []) (get_or schemas i no_schema) (get_or schemas (suc i) no_schema)
step_in [] schemas steps i low = absurd (omega arith)
step_in (sql ∷ rest) schemas steps zero low = steps.0
step_in (sql ∷ rest) [] steps (suc i) low = step_in rest [] steps.1 i (omega arith)
step_in (sql ∷ rest) (s ∷ schemas) steps (suc i) low = step_in rest schemas steps.1 i (omega arith)

pub step_at : (i : ℕ) → i < 15 → Step (get_or texts i []) (get_or stages i no_schema) (get_or stages (suc i) no_schema)
step_at i low = step_in texts stages all_steps i low

-- after so many declarations
pub record HasComeTo (old new : State) (count : ℕ) : Type 0 where
  pub made : IsMade (get_or stages count no_schema) new
  pub keeps : KeepsCommit old new
  pub is_open : 0 < count → IsTrue new.is_open

pub come_next : (old now new : State) (i : ℕ) → i < 15 → HasComeTo old now i → (count : ℕ) → Executes (get_or texts i []) [] now new (Ok count) → HasComeTo old new (i + 1)
come_next old now new i low come count ran =
    let next : suc i ≡ i + 1 = omega arith in
    let it = (step_at i low).makes now new (Ok count) come.made ran in
    record {
      made = subst (λ n. IsMade (get_or stages n no_schema) new) next it.0;
      keeps = record { was_open = λ o. come.keeps.was_open it.1.was_open; committed = λ o. it.1.committed_is ∙ come.keeps.committed it.1.was_open };
      is_open = λ some. it.1.is_open;
    }

pub come_short : (old now new : State) (i : ℕ) → i < 15 → HasComeTo old now i → (e : Error) → Executes (get_or texts i []) [] now new (Err e) → KeepsCommit old new
come_short old now new i low come e ran =
    let it = (step_at i low).makes now new (Err e) come.made ran in
    record { was_open = λ o. come.keeps.was_open (it.was_open o); committed = λ o. it.committed o ∙ come.keeps.committed (it.was_open o) }

pub come_all : (old new : State) → HasComeTo old new 15 → IsMade station_schema new × Shows old new new.now old.committed true
come_all old new come =
    let opened : IsTrue new.is_open = come.is_open (omega arith) in
    (come.made, record { was_open = come.keeps.was_open opened; is_open = opened; now_is = refl; committed_is = come.keeps.committed opened; mode = come.made.begun })

pub made_inside : (s : State) → IsMade station_schema s → IsInside s
made_inside s h = record { begun = h.begun; station = made_station s.now h.made h.empty }

pub begun_blank : (old new : State) → old.now.schema ≡ no_schema → Shows old new old.now old.committed true → IsMade no_schema new
begun_blank old new vacant h = record { begun = h.mode; made = ap (λ (d : Database). d.schema) h.now_is ∙ vacant; empty = tt }
