-- The tables of a database that obeys the schema of a station are a station's.
use Rattle.station_schema.proofs.Common.{true, AllByRecursion, Ghosts, Held, Integer, IsListed, IsLive, IsOldStation, IsOrdered, IsShaped, IsStation, IsTrue, IsTyped, LiesInOrder, List, Schema, Table, View, [], ap, arith, build, catalog_tree, codes, counts, drop, expected, flight, kept_key, kept_text, key_column, moves, old_schema, outbox, part, refl, schema_with, state, station, station_schema, stock, subst, sym, trail, waybill, waybill2, ◌∙◌, ◌∷◌, ◌≡◌}
use Rattle.sqlite_schema.specs.Rules.{passes}
use Rattle.sqlite_schema.specs.declared.schema.Constraint.{Constraint}
use Rattle.sqlite_schema.specs.declared.schema.Constraint.TheVariants.{Datatype, NotNull, Unique}
use Rattle.sqlite_catalog.specs.Listing.{IsSound}
use Rattle.sqlite_catalog.proofs.LayoutLemmas.{laid_out, objects_rise}
use Rattle.sqlite_trees.specs.declared.store.Shape.TheVariants.{Table as Rows}
use Rattle.station_schema.specs.Tables as table
use Rattle.station_schema.proofs.ColumnKeys.{front_of}
use Rattle.station_schema.proofs.Keys.{stock_total, flight_total, expected_total, part_total, kept_total, kept_text_total, count_total, build_total}
use Rattle.station_schema.proofs.Compared.{numbers_compare, part_compares, text_compares, three_compare, word_compares}
use Rattle.station_schema.proofs.Typed.{wanted_of, rows_listed, rows_entered}

-- the tables of both versions, and more of them
module _ (more : List Table) (v : View) where
  abbrev Obeyed : Constraint → Table → Type 0
  Obeyed rule t = AllByRecursion (λ row. passes rule (schema_with more) v.trees t row ≡ true) (v.trees t.tree)

  -- rows that obey the rules of a table are typed
  abbrev IsReadable : Table → Type 0
  IsReadable t = IsShaped Rows (v.trees t.tree) → Obeyed Datatype t → Obeyed NotNull t → Obeyed Unique t → IsTyped t.tree (v.trees t.tree)

  one_and : {P Q : Type 0} → P → Q → P × Q
  one_and p q = (p, q)

  readable : AllByRecursion IsReadable station_schema.tables
  readable =
      one_and (λ s t p _. rows_listed table.station_id table.station_row table.station_in (λ _. refl) station (key_column (codes "id") Integer) (wanted_of (drop 1 station.columns)) (omega arith) (λ _. refl) _ s t p)
      (one_and (λ s t p _. rows_listed table.old_waybill_id table.old_waybill_row table.old_waybill_in (λ _. refl) waybill (key_column (codes "awb") Integer) (wanted_of (drop 1 waybill.columns)) (omega arith) (λ _. refl) _ s t p)
      (one_and (rows_entered table.stock_cmp stock_total table.stock_row table.stock_in (1 ∷ 2 ∷ []) (numbers_compare table.stock_row) stock (wanted_of stock.columns) (λ _. refl) _)
      (one_and (rows_entered table.flight_cmp flight_total table.flight_row table.flight_in (1 ∷ 2 ∷ []) (text_compares table.flight_row) flight (wanted_of flight.columns) (λ _. refl) _)
      (one_and (λ s t p _. rows_listed table.move_id table.move_row table.move_in (λ _. refl) moves (key_column (codes "number") Integer) (wanted_of (drop 1 moves.columns)) (omega arith) (λ _. refl) _ s t p)
      (one_and (rows_entered table.expected_cmp expected_total table.expected_row table.expected_in (1 ∷ 2 ∷ 3 ∷ []) (three_compare table.expected_row) expected (wanted_of expected.columns) (λ _. refl) _)
      (one_and (rows_entered table.part_cmp part_total table.part_row table.part_in (1 ∷ 2 ∷ 3 ∷ 4 ∷ []) (part_compares table.part_row) part (wanted_of part.columns) (λ _. refl) _)
      (one_and (λ s t p _. rows_listed table.trail_id table.trail_row table.trail_in (λ _. refl) trail (key_column (codes "number") Integer) (wanted_of (drop 1 trail.columns)) (omega arith) (λ _. refl) _ s t p)
      (one_and (λ s t p _. rows_listed table.message_id table.message_row table.message_in (λ _. refl) outbox (key_column (codes "number") Integer) (wanted_of (drop 1 outbox.columns)) (omega arith) (λ _. refl) _ s t p)
      (one_and (rows_entered table.kept_cmp kept_total table.kept_row table.kept_in (1 ∷ []) (word_compares table.kept_row) kept_key (wanted_of kept_key.columns) (λ _. refl) _)
      (one_and (rows_entered table.kept_text_cmp kept_text_total table.kept_text_row table.kept_text_in (1 ∷ []) (word_compares table.kept_text_row) kept_text (wanted_of kept_text.columns) (λ _. refl) _)
      (one_and (rows_entered table.count_cmp count_total table.count_row table.count_in (1 ∷ 2 ∷ []) (numbers_compare table.count_row) counts (wanted_of counts.columns) (λ _. refl) _)
      (one_and (rows_entered table.build_cmp build_total table.build_row table.build_in (1 ∷ 2 ∷ 3 ∷ []) (three_compare table.build_row) build (wanted_of build.columns) (λ _. refl) _)
      (one_and (λ s t p _. rows_listed table.waybill_id table.waybill_row table.waybill_in (λ _. refl) waybill2 (key_column (codes "awb") Integer) (wanted_of (drop 1 waybill2.columns)) (omega arith) (λ _. refl) _ s t p) tt)))))))))))))

  module _ (ordered : IsOrdered v.shape v.trees) where
    each_typed : (tables : List Table) → AllByRecursion (λ (t : Table). v.shape t.tree ≡ Rows) tables → AllByRecursion (Obeyed Datatype) tables → AllByRecursion (Obeyed NotNull) tables → AllByRecursion (Obeyed Unique) tables
        → AllByRecursion IsReadable tables → AllByRecursion (λ (t : Table). IsTyped t.tree (v.trees t.tree)) tables
    each_typed [] shapes typed present unique reads = tt
    each_typed (t ∷ ts) shapes typed present unique reads =
        (reads.0 (subst (λ s. IsShaped s (v.trees t.tree)) shapes.0 (ordered t.tree)) typed.0 present.0 unique.0, each_typed ts shapes.1 typed.1 present.1 unique.1 reads.1)

    -- the tables of a sound store that lies in order
    all_typed : IsListed (v.trees catalog_tree) v.shape v.reals → IsSound (schema_with more) v.trees → AllByRecursion IsReadable (schema_with more).tables → AllByRecursion (λ (t : Table). IsTyped t.tree (v.trees t.tree)) (schema_with more).tables
    all_typed listed sound = each_typed (schema_with more).tables (laid_out listed (objects_rise v listed ordered) sound.lists.listed).tables (sound.obeys.rules Datatype) (sound.obeys.rules NotNull) (sound.obeys.rules Unique)

-- a connection outside a transaction
module _ {S : Type 0} (g : Ghosts S) (h : Held S) (is_open : IsTrue (state g h).is_open) (settled : (state g h).now ≡ (state g h).committed) (live : IsLive (state g h)) where
  abbrev last : View
  last = record (g.view h.store) { trees = (g.view h.store).committed; shape = (g.view h.store).committed_shape; reals = (g.view h.store).committed_reals }

  sound_with : (schema : Schema) → (state g h).now.schema ≡ schema → IsSound schema last.trees
  sound_with schema has = subst (λ s. IsSound s last.trees) (sym (ap (λ d. d.schema) settled) ∙ has) (live is_open).1

  -- it shows the schema of a station
  pub found_again : (state g h).now.schema ≡ station_schema → LiesInOrder g → IsStation (state g h).now
  found_again has lies = record {
    schema = has;
    typed = subst (λ d. AllByRecursion (λ (t : Table). IsTyped t.tree (d.trees t.tree)) station_schema.tables) (sym settled)
        (all_typed (waybill2 ∷ []) last (lies h.store is_open).0 (lies h.store is_open).1 (sound_with station_schema has) (readable (waybill2 ∷ []) last));
  }

  -- the same of a file of version 1
  pub old_again : (state g h).now.schema ≡ old_schema → LiesInOrder g → IsOldStation (state g h).now
  old_again has lies = record {
    schema = has;
    typed = subst (λ d. AllByRecursion (λ (t : Table). IsTyped t.tree (d.trees t.tree)) old_schema.tables) (sym settled)
        (all_typed [] last (lies h.store is_open).0 (lies h.store is_open).1 (sound_with old_schema has) (front_of (IsReadable [] last) old_schema.tables waybill2 (readable [] last)));
  }
