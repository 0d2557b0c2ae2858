-- A query for columns of one table, under any schema that has the table.
use Rattle.table_load.proofs.Common.{AllByRecursion, AreShown, AreSorts, Binary, Bool, Checked, Compiled, Core, Err, Expr, Expr-F, IsPlainCore, IsPlainSelect, IsPlainSource, IsSelect, List, Mismatch, None, Ok, Option, Parsed, Query, Schema, Shown-F, Some, Sort, Source, Table, [], and_then, ap, arith, column_named, end, false, fresh, if◌then◌else◌, inner, length, length-map, map, max_budget, misses_table, nat_lt, negsuc, out-Core, out-Expr, out-Sort, place_of, pos, position_from, reads_listing, refl, slice_get, suc, sym, table_named, true, ℕ, ◌&&◌, ◌++◌, ◌+◌, ◌-◌, ◌<◌, ◌∙◌, ◌∷◌, ◌≡◌}
use Rattle.std.proofs.lemmas.Bool.Decides.{nat_tests}
use Rattle.sqlite_schema.specs.declared.schema.Column.{Column as Column'}
use Rattle.sqlite_sql.specs.Term.{Term, col, lit}
use Rattle.sqlite_value.specs.declared.keys.Key.{Key}
use Rattle.sqlite_ast.specs.declared.Shown.{Shown, out-Shown}
use Rattle.sqlite_resolve.specs.declared.scope.Bound.{Bound}
use Rattle.sqlite_resolve.specs.declared.scope.Output.{Output}
use Rattle.sqlite_resolve.specs.declared.scope.Found.TheVariants.{Column}
use Rattle.sqlite_resolve.specs.declared.state.State.{State}
use Rattle.sqlite_resolve.specs.Lowering.{alone, spend, begin, finish, take_slot}
use Rattle.sqlite_resolve.specs.Scope.{Context, column_in, find, in_level, only, hit, is_among, column_at, column, term_of, declared}
use Rattle.sqlite_resolve.specs.Expr.{lower_to, lower, node, opened, passes}
use Rattle.sqlite_resolve.specs.Body.{outputs_from, shown, heading, is_column, table_in, bound, bounds, outputs, result, tests, inner_join, join, joins, matching, body, shared}
use Rattle.sqlite_resolve.specs.Order.{sorts_from, sorts, sort, key, keys, alias_in, peeled, is_numeral, collation_of, written_on, placed}
use Rattle.sqlite_value.specs.declared.value.Value.TheVariants.{Int}
use Rattle.sqlite_schema.specs.declared.program.Program.{Program}
use Rattle.sqlite_schema.specs.declared.command.Command.{Command}
use Rattle.sqlite_schema.specs.declared.command.Command.TheVariants as command'
use Rattle.sqlite_typing.specs.Types.{accepts_program}
use Rattle.sqlite_resolve.specs.Program.{query, query_to, level, with, whole, alone as alone', single, sources, source, viewing, program}
use Rattle.sqlite_resolve.specs.Compile.{read, command, meaning, planned, compiled, first, timed, returning}
use Rattle.sqlite_resolve.specs.Select.{constant_or, outermost, having, parts, ungrouped, assembled, named as named', paging}
use Rattle.sqlite.specs.Listing.{understood}
use Rattle.sqlite_ast.specs.declared.Select.{Select, out-Select}
use Rattle.sqlite_draft.specs.declared.join.Step.TheVariants.{Inner}
use Rattle.sqlite_draft.specs.declared.query.Draft.{Draft}
use Rattle.sqlite_resolve.specs.declared.body.Joined.{Joined}
use Rattle.sqlite_resolve.specs.declared.select.Clauses.{Clauses}

no_alias : (cname : List ℕ) (from : ℕ) (outs : List Output) → AllByRecursion (λ o. o.is_alias ≡ false) outs → position_from (λ o. o.is_alias && Rattle.sqlite_schema.specs.Names.same_name o.name cname) from outs ≡ None
no_alias cname from [] all = refl
no_alias cname from (o ∷ outs) all = rw all.0 (no_alias cname (from + 1) outs all.1)

push_all : {X : Type 0} (P : X → Type 0) (xs : List X) (x : X) → AllByRecursion P xs → P x → AllByRecursion P (xs ++ x ∷ [])
push_all P [] x all h = (h, tt)
push_all P (y ∷ xs) x all h = (all.0, push_all P xs x all.1 h)

map_push : {A B : Type 0} (f : A → B) (xs : List A) (x : A) → map f (xs ++ x ∷ []) ≡ map f xs ++ f x ∷ []
map_push f [] x = refl
map_push f (y ∷ xs) x = ap (λ l. f y ∷ l) (map_push f xs x)

append_more : {A : Type 0} (xs : List A) (x : A) (ys : List A) → (xs ++ x ∷ []) ++ ys ≡ xs ++ x ∷ ys
append_more [] x ys = refl
append_more (z ∷ xs) x ys = ap (λ l. z ∷ l) (append_more xs x ys)

append_none : {A : Type 0} (xs : List A) → xs ++ [] ≡ xs
append_none [] = refl
append_none (x ∷ xs) = ap (λ l. x ∷ l) (append_none xs)

-- a column of the table, in the BINARY collation
pub record InTable (table : Table) : Type 0 where
  pub cname : List ℕ
  pub place : ℕ
  pub it : Column'
  pub found : column_named table cname ≡ Some place
  pub there : slice_get table.columns place ≡ Some it
  pub binary : it.collation ≡ Binary

abbrev pub term_in : (table : Table) → InTable table → Term
term_in table c = col 1 (place_of table c.place)

abbrev pub by_in : (table : Table) → InTable table → Term × Key
by_in table c = (col 1 (place_of table c.place), record { collation = alone (declared table c.place c.it); descending = false })

-- one more of so many reads of a column
pub record Went (s : State) (n : ℕ) (next : State) : Type 0 where
  pub slot : next.next ≡ s.next
  pub steps : next.steps ≡ s.steps
  pub aggregates : next.aggregates ≡ s.aggregates
  pub written : next.written ≡ None
  pub budget : next.budget + n ≡ s.budget

abbrev pub draft_of : (table : Table) → List (InTable table) → List (InTable table) → Draft
draft_of table cs ks = record { from = inner table.tree end; filter = []; group = None; project = map (term_in table) cs; distinct = false; collations = []; order = map (by_in table) ks; limit = lit (Int (negsuc 0)); offset = lit (Int (pos 0)) }

abbrev pub asks_of : (table : Table) → List (InTable table) → List (InTable table) → Query
asks_of table cs ks = record { from = inner table.tree end; filter = []; group = None; project = map (term_in table) cs; distinct = false; collations = []; order = map (by_in table) ks; limit = lit (Int (negsuc 0)); offset = lit (Int (pos 0)) }

abbrev pub program_of : (table : Table) → List (InTable table) → List (InTable table) → Program
program_of table cs ks = record { lets = []; body = asks_of table cs ks }

abbrev pub names_of : (table : Table) → List (InTable table) → List (List ℕ)
names_of table cs = map (λ c. c.cname) cs

-- ---- what it means

module _ (schema : Schema) (name : List ℕ) (at : ℕ) (table : Table) (named : table_named schema name ≡ Some at) (stands : slice_get schema.tables at ≡ Some table) where
  abbrev pub the_bound : Bound
  the_bound = record { name = name; table = at; slot = 1; shared = [] }

  abbrev pub scope_of : List Output → Bool → Context
  scope_of outs may_aggregate = record { schema = schema; levels = record { tables = the_bound ∷ []; shown = outs } ∷ []; may_aggregate = may_aggregate; may_alias = true }

  in_table : (c : InTable table) → column_in schema c.cname the_bound ≡ Some (Column 1 at c.place)
  unfolding column_in
  in_table c = rw (column_in, stands, c.found)

  hits : (c : InTable table) → hit schema None c.cname false the_bound ≡ Some (Column 1 at c.place)
  unfolding hit is_among
  hits c = in_table c

  finds : (outs : List Output) (agg : Bool) (c : InTable table) → find (scope_of outs agg) None c.cname ≡ Ok (Column 1 at c.place)
  unfolding find in_level only
  finds outs agg c = rw (find, in_level, only, hits c)

  columns_at : (c : InTable table) → column_at schema 1 at c.place ≡ Ok (term_in table c, declared table c.place c.it)
  unfolding column_at
  columns_at c = rw (column_at, stands, c.there)

  abbrev with_last : (c : InTable table) → State → State
  with_last c s = record s { last = declared table c.place c.it }

  meant : (outs : List Output) (agg : Bool) (c : InTable table) (s : State) → term_of (scope_of outs agg) (Column 1 at c.place) s ≡ Ok (term_in table c, with_last c s)
  unfolding term_of
  meant outs agg c s = rw (term_of, columns_at c)

  reads_column : (outs : List Output) (agg : Bool) (c : InTable table) (s : State) → column (scope_of outs agg) None c.cname s ≡ Ok (term_in table c, with_last c s)
  unfolding column
  reads_column outs agg c s = rw (column, finds outs agg c) (meant outs agg c s)

  opens : (d : ℕ) (outs : List Output) (agg : Bool) (c : InTable table) (e : Expr) → out-Expr e ≡ Expr-F.Column None c.cname → (s : State) → opened (lower_to d) (scope_of outs agg) e s ≡ Ok (term_in table c, with_last c s)
  unfolding opened
  opens d outs agg c e has s = rw (opened, has) (reads_column outs agg c s)

  abbrev after : (c : InTable table) → State → State
  after c s = record s { budget = s.budget - 1; written = None; last = declared table c.place c.it }

  lowers : (d : ℕ) (outs : List Output) (agg : Bool) (c : InTable table) (e : Expr) → out-Expr e ≡ Expr-F.Column None c.cname → (s : State) → s.written ≡ None → nat_lt 1 s.budget ≡ true
      → lower_to (suc d) (scope_of outs agg) e s ≡ Ok (term_in table c, after c s)
  unfolding lower_to node spend begin finish passes
  lowers d outs agg c e has s none room = rw (lower_to, node, spend, room, begin, opens d outs agg c e has, finish, passes, has, none)

  went_after : (c : InTable table) (s : State) → nat_lt 1 s.budget ≡ true → Went s 1 (after c s)
  went_after c s room = record { slot = refl; steps = refl; aggregates = refl; written = refl; budget = grind (arith, nat_tests) }

  -- one column of the result
  shows_one : (outs done : List Output) (agg : Bool) (sh : Shown) (c : InTable table) (e : Expr) (text : List ℕ) → out-Shown sh ≡ Shown-F.One e None text → out-Expr e ≡ Expr-F.Column None c.cname → (s : State) → s.written ≡ None → nat_lt 1 s.budget ≡ true
      → shown lower (scope_of outs agg) (the_bound ∷ []) done sh s ≡ Ok (done ++ record { name = heading (scope_of outs agg) e text; is_alias = false; is_column = is_column e; term = term_in table c; carried = declared table c.place c.it } ∷ [], after c s)
  unfolding shown
  shows_one outs done agg sh c e text has column s none room = rw (shown, has, lowers 699 outs agg c e column s none room)

  -- all columns of the result
  pub record Outs (s : State) (done : List Output) (cs : List (InTable table)) (r : Checked (List Output × State)) : Type 0 where
    pub outs : List Output
    pub next : State
    pub is : r ≡ Ok (outs, next)
    pub terms : map (λ o. o.term) outs ≡ map (λ o. o.term) done ++ map (term_in table) cs
    pub plain : AllByRecursion (λ o. o.is_alias ≡ false) outs
    pub went : Went s (length cs) next

  then_went : (s mid next : State) (n : ℕ) → Went s 1 mid → Went mid n next → Went s (suc n) next
  then_went s mid next n a b = record { slot = b.slot ∙ a.slot; steps = b.steps ∙ a.steps; aggregates = b.aggregates ∙ a.aggregates; written = b.written; budget = let x = a.budget in let y = b.budget in omega arith }

  room_now : (s : State) (n : ℕ) → suc n < s.budget → nat_lt 1 s.budget ≡ true
  room_now s n room = grind (arith, nat_tests)

  room_then : (s mid : State) (n : ℕ) → suc n < s.budget → Went s 1 mid → n < mid.budget
  room_then s mid n room w = let x = w.budget in omega arith

  pub outs_are : (outs done : List Output) (agg : Bool) (shs : List Shown) (cs : List (InTable table)) → AreShown shs (names_of table cs) → AllByRecursion (λ o. o.is_alias ≡ false) done → (s : State) → s.written ≡ None → length cs < s.budget
      → Outs s done cs (outputs_from lower (scope_of outs agg) (the_bound ∷ []) done shs s)
  outs_are outs done agg [] [] all plain s none room = record { outs = done; next = s; is = refl; terms = sym (append_none _); plain = plain; went = record { slot = refl; steps = refl; aggregates = refl; written = none; budget = omega arith } }
  outs_are outs done agg [] (c ∷ cs) all plain s none room = absurd all
  outs_are outs done agg (sh ∷ shs) [] all plain s none room = absurd all
  outs_are outs done agg (sh ∷ shs) (c ∷ cs) all plain s none room =
      let out : Output = record { name = heading (scope_of outs agg) all.0.0 all.0.1; is_alias = false; is_column = is_column all.0.0; term = term_in table c; carried = declared table c.place c.it } in
      let one = shows_one outs done agg sh c all.0.0 all.0.1 all.0.2 all.0.3 s none (room_now s (length cs) room) in
      let w = went_after c s (room_now s (length cs) room) in
      let more = outs_are outs (done ++ out ∷ []) agg shs cs all.1 (push_all _ done out plain refl) (after c s) refl (room_then s (after c s) (length cs) room w) in
      record {
        outs = more.outs;
        next = more.next;
        is = ap (λ r. and_then r (λ q. outputs_from lower (scope_of outs agg) (the_bound ∷ []) q.0 shs q.1)) one ∙ more.is;
        terms = more.terms ∙ ap (λ l. l ++ map (term_in table) cs) (map_push (λ (o : Output). o.term) done out) ∙ append_more _ _ _;
        plain = more.plain;
        went = then_went s (after c s) more.next (length cs) w more.went;
      }

  -- ORDER BY
  peels : (c : InTable table) (e : Expr) → out-Expr e ≡ Expr-F.Column None c.cname → peeled e ≡ e
  unfolding peeled
  peels c e has = rw (peeled, has)

  unaliased : (outs : List Output) → AllByRecursion (λ o. o.is_alias ≡ false) outs → (c : InTable table) (e : Expr) → out-Expr e ≡ Expr-F.Column None c.cname → alias_in outs e ≡ None
  unfolding alias_in
  unaliased outs plain c e has = rw (alias_in, has) (no_alias c.cname 0 outs plain)

  keyed_by : (outs : List Output) (agg : Bool) (c : InTable table) (e : Expr) → out-Expr e ≡ Expr-F.Column None c.cname → (s : State) → s.written ≡ None → nat_lt 1 s.budget ≡ true
      → key lower (scope_of outs agg) outs e s ≡ Ok (term_in table c, after c s)
  unfolding key is_numeral
  keyed_by outs agg c e has s none room = rw (key, lowers 699 outs agg c e has s none room, is_numeral, has)

  collates : (c : InTable table) (e : Expr) → out-Expr e ≡ Expr-F.Column None c.cname → (s : State) → collation_of e (after c s) ≡ Ok (alone (declared table c.place c.it), after c s)
  unfolding collation_of written_on
  collates c e has s = rw (collation_of, written_on, has)

  sorts_one : (outs : List Output) (agg : Bool) (done : List (Term × Key)) → AllByRecursion (λ o. o.is_alias ≡ false) outs → (c : InTable table) (so : Sort) → out-Expr (out-Sort so).key ≡ Expr-F.Column None c.cname → (out-Sort so).nulls_first ≡ None → (out-Sort so).descending ≡ false
      → (s : State) → s.written ≡ None → nat_lt 1 s.budget ≡ true → sort lower (scope_of outs agg) outs done so s ≡ Ok (done ++ by_in table c ∷ [], after c s)
  unfolding sort placed
  sorts_one outs agg done plain c so has nulls rising s none room =
      rw (sort, peels c (out-Sort so).key has, unaliased outs plain c (out-Sort so).key has, keyed_by outs agg c (out-Sort so).key has s none room, collates c (out-Sort so).key has s, placed, nulls, rising)

  pub record Sorted (s : State) (order : List (Term × Key)) (n : ℕ) (r : Checked (List (Term × Key) × State)) : Type 0 where
    pub next : State
    pub is : r ≡ Ok (order, next)
    pub went : Went s n next

  pub sorts_are : (outs : List Output) (agg : Bool) (done : List (Term × Key)) → AllByRecursion (λ o. o.is_alias ≡ false) outs → (sos : List Sort) (cs : List (InTable table)) → AreSorts sos (names_of table cs) → (s : State) → s.written ≡ None → length cs < s.budget
      → Sorted s (done ++ map (by_in table) cs) (length cs) (sorts_from lower (scope_of outs agg) outs done sos s)
  sorts_are outs agg done plain [] [] all s none room = record { next = s; is = ap (λ l. Ok (l, s)) (sym (append_none done)); went = record { slot = refl; steps = refl; aggregates = refl; written = none; budget = omega arith } }
  sorts_are outs agg done plain [] (c ∷ cs) all s none room = absurd all
  sorts_are outs agg done plain (so ∷ sos) [] all s none room = absurd all
  sorts_are outs agg done plain (so ∷ sos) (c ∷ cs) all s none room =
      let one = sorts_one outs agg done plain c so all.0.0 all.0.1 all.0.2 s none (room_now s (length cs) room) in
      let w = went_after c s (room_now s (length cs) room) in
      let more = sorts_are outs agg (done ++ by_in table c ∷ []) plain sos cs all.1 (after c s) refl (room_then s (after c s) (length cs) room w) in
      record {
        next = more.next;
        is = ap (λ r. and_then r (λ q. sorts_from lower (scope_of outs agg) outs q.0 sos q.1)) one ∙ more.is ∙ ap (λ l. Ok (l, more.next)) (append_more _ _ _);
        went = then_went s (after c s) more.next (length cs) w more.went;
      }

  -- FROM
  abbrev start : State
  start = fresh 1 max_budget

  abbrev begun : State
  begun = record start { next = 2 }

  bound_is : (src : Source) → IsPlainSource name src → bound schema src start ≡ Ok (the_bound, begun)
  unfolding bound take_slot table_in
  bound_is src h = rw (bound, take_slot, table_in, h.origin_is, named, h.alias_is, h.using_is)

  bounds_are : (src : Source) → IsPlainSource name src → bounds schema (src ∷ []) start ≡ Ok (the_bound ∷ [], begun)
  unfolding bounds
  bounds_are src h = rw (bounds, bound_is src h)

  abbrev scanned : Joined
  scanned = record { steps = Inner table.tree ∷ []; filter = [] }

  joins_one : (outs : List Output) (src : Source) → IsPlainSource name src → (s : State) → join lower (scope_of outs false) (the_bound ∷ []) (record { steps = []; filter = [] }) the_bound src s ≡ Ok (scanned, s)
  unfolding join shared inner_join tests
  joins_one outs src h s = rw (join, stands, shared, h.inner_is, inner_join, h.on_is, tests)

  joins_are : (outs : List Output) (src : Source) → IsPlainSource name src → (s : State) → joins lower (scope_of outs false) (the_bound ∷ []) (src ∷ []) s ≡ Ok (scanned, s)
  unfolding joins
  joins_are outs src h s = rw (joins, h.on_is, h.using_is, joins_one outs src h)

  matches_core : (outs : List Output) (core : Core) (cs : List (InTable table)) → IsPlainCore name (names_of table cs) core → (s : State) → matching lower (outermost schema) (record { tables = the_bound ∷ []; shown = outs }) core s ≡ Ok (scanned, s)
  unfolding matching tests
  matches_core outs core cs h s = rw (matching, h.from_is, joins_are outs h.source h.plain_source s, h.filter_is, tests)

  few_of : (cs : List (InTable table)) → length (names_of table cs) < 1000 → length cs < 100000
  few_of cs few = let e : length (names_of table cs) ≡ length cs = length-map cs (λ c. c.cname) in omega arith

  few_left : (cs ks : List (InTable table)) (s : State) → s.budget + length cs ≡ 100000 → length (names_of table cs) < 1000 → length (names_of table ks) < 1000 → length ks < s.budget
  few_left cs ks s w few few_keys =
      let e : length (names_of table cs) ≡ length cs = length-map cs (λ c. c.cname) in
      let d : length (names_of table ks) ≡ length ks = length-map ks (λ c. c.cname) in
      omega arith

  pub record IsBody (core : Core) (cs : List (InTable table)) : Type 0 where
    pub outs : List Output
    pub next : State
    pub ran : body lower (outermost schema) core start ≡ Ok (record { level = record { tables = the_bound ∷ []; shown = outs }; steps = Inner table.tree ∷ []; filter = [] }, next)
    pub terms : map (λ o. o.term) outs ≡ map (term_in table) cs
    pub plain : AllByRecursion (λ o. o.is_alias ≡ false) outs
    pub went : Went begun (length cs) next

  body_is : (core : Core) (cs : List (InTable table)) → IsPlainCore name (names_of table cs) core → length (names_of table cs) < 1000 → IsBody core cs
  unfolding body result outputs
  body_is core cs h few =
      let all = outs_are [] [] true (out-Core core).shown cs h.shown_is tt begun refl (few_of cs few) in
      record {
        outs = all.outs;
        next = all.next;
        ran = rw (body, h.from_is, bounds_are h.source h.plain_source, result, outputs, all.is, matches_core all.outs core cs h all.next);
        terms = all.terms;
        plain = all.plain;
        went = all.went;
      }

  -- the whole SELECT
  pub record IsParts (core : Core) (order : List Sort) (cs ks : List (InTable table)) : Type 0 where
    pub clauses : Clauses
    pub last : State
    pub ran : parts schema core order start ≡ Ok (clauses, last)
    pub drafted : assembled (out-Core core).distinct (lit (Int (negsuc 0))) (lit (Int (pos 0))) clauses last ≡ Ok (draft_of table cs ks)

  parts_are : (core : Core) (order : List Sort) (cs ks : List (InTable table)) → IsPlainCore name (names_of table cs) core → AreSorts order (names_of table ks) → length (names_of table cs) < 1000 → length (names_of table ks) < 1000 → IsParts core order cs ks
  unfolding parts keys having tests sorts assembled ungrouped
  parts_are core order cs ks h by few few_keys =
      let b = body_is core cs h few in
      let sorted = sorts_are b.outs false [] b.plain order ks by b.next b.went.written (few_left cs ks b.next b.went.budget few few_keys) in
      let clauses : Clauses = record { body = record { level = record { tables = the_bound ∷ []; shown = b.outs }; steps = Inner table.tree ∷ []; filter = [] }; is_grouped = false; keys = []; collations = []; having = []; order = map (by_in table) ks } in
      let steps : sorted.next.steps ≡ [] = sorted.went.steps ∙ b.went.steps in
      record {
        clauses = clauses;
        last = sorted.next;
        ran = rw (parts, b.ran, h.group_is, b.went.aggregates, keys, having, h.having_is, tests, sorts, sorted.is);
        drafted = rw (assembled, h.distinct_is, steps, ungrouped, b.terms);
      }

  pub record IsNamed (core : Core) (order : List Sort) (cs ks : List (InTable table)) : Type 0 where
    pub names : List (List ℕ)
    pub others : List (Option Rattle.sqlite_value.specs.declared.keys.Collation.Collation)
    pub ran : named' schema core order (lit (Int (negsuc 0)), lit (Int (pos 0))) ≡ Ok (draft_of table cs ks, names, others)

  named_is : (core : Core) (order : List Sort) (cs ks : List (InTable table)) → IsPlainCore name (names_of table cs) core → AreSorts order (names_of table ks) → length (names_of table cs) < 1000 → length (names_of table ks) < 1000 → IsNamed core order cs ks
  unfolding named'
  named_is core order cs ks h by few few_keys =
      let p = parts_are core order cs ks h by few few_keys in
      record {
        names = map (λ (o : Output). o.name) p.clauses.body.level.shown;
        others = map (λ (o : Output). o.carried.collation) p.clauses.body.level.shown;
        ran = rw (named', p.ran, p.drafted);
      }

  pages : (sel : Select) (cs ks : List (InTable table)) → IsPlainSelect name (names_of table cs) (names_of table ks) sel → paging schema sel ≡ Ok (lit (Int (negsuc 0)), lit (Int (pos 0)))
  unfolding paging constant_or
  pages sel cs ks h = rw (paging, constant_or, h.limit_is, h.offset_is)

  pub record IsAsked (sel : Select) (cs ks : List (InTable table)) : Type 0 where
    pub names : List (List ℕ)
    pub others : List (Option Rattle.sqlite_value.specs.declared.keys.Collation.Collation)
    pub ran : query schema sel ≡ Ok ((draft_of table cs ks, names, others), [])

  asked : (sel : Select) (cs ks : List (InTable table)) → IsPlainSelect name (names_of table cs) (names_of table ks) sel → length (names_of table cs) < 1000 → length (names_of table ks) < 1000 → IsAsked sel cs ks
  unfolding query query_to level with whole alone' single sources source viewing
  asked sel cs ks h few few_keys =
      let n = named_is (out-Select sel).first (out-Select sel).order cs ks h.core_is h.order_is few few_keys in
      record {
        names = n.names;
        others = n.others;
        ran = rw (query, query_to, level, h.with_is, with, whole, pages sel cs ks h, h.others_is, alone', single, sources, h.core_is.from_is, source, h.core_is.plain_source.origin_is, viewing, n.ran);
      }

  pub record IsRead (sel : Select) (cs ks : List (InTable table)) : Type 0 where
    pub names : List (List ℕ)
    pub ran : read schema sel ≡ (if accepts_program schema [] (asks_of table cs ks) [] then Ok (command'.Select (program_of table cs ks) names) else Err Mismatch)

  accepted : (b : Bool) (p : Program) (names : List (List ℕ)) → and_then (if b then Ok p else Err Mismatch) (λ q. Ok (command'.Select q names)) ≡ (if b then Ok (command'.Select p names) else Err Mismatch)
  accepted true p names = refl
  accepted false p names = refl

  reads_select : (sel : Select) (cs ks : List (InTable table)) → IsPlainSelect name (names_of table cs) (names_of table ks) sel → length (names_of table cs) < 1000 → length (names_of table ks) < 1000 → IsRead sel cs ks
  unfolding read program
  reads_select sel cs ks h few few_keys =
      let a = asked sel cs ks h few few_keys in
      record { names = a.names; ran = rw (read, a.ran, program) (accepted (accepts_program schema [] (asks_of table cs ks) []) (program_of table cs ks) a.names) }

  -- what the text means: this query, or a refusal for its types
  pub record Means (text : List ℕ) (cs ks : List (InTable table)) : Type 0 where
    pub it : Compiled
    pub names : List (List ℕ)
    pub asks_is : it.command ≡ command'.Select (program_of table cs ks) names
    pub shows_is : it.returning ≡ None
    pub times_is : it.formats ≡ []
    pub understood_is : understood schema text ≡ (if accepts_program schema [] (asks_of table cs ks) [] then Ok it else Err Mismatch)
    pub unlisted : reads_listing schema text ≡ false

  abbrev it_of : Parsed → List (InTable table) → List (InTable table) → List (List ℕ) → Compiled
  it_of p cs ks names = record { command = command'.Select (program_of table cs ks) names; returning = None; names = p.names; formats = []; start = p.start; end = p.end; tail = p.tail }

  carried_on : (b : Bool) (p : Parsed) (c : Command) → and_then (and_then (and_then (if b then Ok c else Err Mismatch) (λ k. Ok (k, None))) (λ found. Ok ([], found))) (λ plan. Ok (Rattle.sqlite_resolve.specs.Compile.with_command p plan))
      ≡ (if b then Ok (record { command = c; returning = None; names = p.names; formats = []; start = p.start; end = p.end; tail = p.tail }) else Err Mismatch)
  carried_on true p c = refl
  carried_on false p c = refl

  compiles : (text : List ℕ) (cs ks : List (InTable table)) (h : IsSelect text name (names_of table cs) (names_of table ks))
      → compiled schema text ≡ (if accepts_program schema [] (asks_of table cs ks) [] then Ok (it_of h.p cs ks (reads_select h.sel cs ks h.select_is h.few h.few_keys).names) else Err Mismatch)
  unfolding compiled planned meaning command timed returning
  compiles text cs ks h =
      let r = reads_select h.sel cs ks h.select_is h.few h.few_keys in
      rw (compiled, h.first_is, planned, timed, h.statement_is, h.formats_is, meaning, returning, command, r.ran) (carried_on (accepts_program schema [] (asks_of table cs ks) []) h.p (command'.Select (program_of table cs ks) r.names))

  never_missing : (b : Bool) (c : Compiled) → misses_table (if b then Ok c else Err Mismatch) ≡ false
  never_missing true c = refl
  never_missing false c = refl

  pub means : (text : List ℕ) (cs ks : List (InTable table)) → IsSelect text name (names_of table cs) (names_of table ks) → Means text cs ks
  unfolding understood
  means text cs ks h =
      let c = compiles text cs ks h in
      let names = (reads_select h.sel cs ks h.select_is h.few h.few_keys).names in
      let unlisted : reads_listing schema text ≡ false = ap misses_table c ∙ never_missing (accepts_program schema [] (asks_of table cs ks) []) (it_of h.p cs ks names) in
      record {
        it = it_of h.p cs ks names;
        names = names;
        asks_is = refl;
        shows_is = refl;
        times_is = refl;
        understood_is = rw (understood, unlisted) c;
        unlisted = unlisted;
      }
