-- The rows of all tables by tree, and that the rows of each table of a station are typed.
use Rattle.std.specs.Prelude.{List, map}
use Rattle.station_schema.specs.Common.{Row, Trees, Database, from_entries}
use Rattle.station_schema.specs.Tables.{AreEntries, AreListed, IsStation, Tables, build_cmp, build_in, build_row, count_cmp, count_in, count_row, expected_cmp, expected_in, expected_row, flight_cmp, flight_in, flight_row, kept_cmp, kept_in, kept_row, kept_text_cmp, kept_text_in, kept_text_row, message_id, message_in, message_row, move_id, move_in, move_row, old_waybill_id, old_waybill_in, old_waybill_row, part_cmp, part_in, part_row, station_id, station_in, station_row, stock_cmp, stock_in, stock_row, trail_id, trail_in, trail_row, waybill_id, waybill_in, waybill_row}

-- the rows of each table, as stored in its tree
pub record TreeRows : Type 0 where
  pub stations : List Row
  pub old_waybills : List Row
  pub waybills : List Row
  pub stock : List Row
  pub flights : List Row
  pub moves : List Row
  pub expected : List Row
  pub parts : List Row
  pub trail : List Row
  pub outbox : List Row
  pub kept : List Row
  pub kept_texts : List Row
  pub counts : List Row
  pub builds : List Row

abbrev pub rows_in : Trees → TreeRows
rows_in db = record {
  stations = db 0;
  old_waybills = db 1;
  waybills = db 22;
  stock = db 2;
  flights = db 4;
  moves = db 6;
  expected = db 8;
  parts = db 10;
  trail = db 12;
  outbox = db 13;
  kept = db 14;
  kept_texts = db 16;
  counts = db 18;
  builds = db 20;
}

abbrev pub tables_in : TreeRows → Tables
tables_in r = record {
  stations = map station_in r.stations;
  old_waybills = map old_waybill_in r.old_waybills;
  waybills = map waybill_in r.waybills;
  stock = from_entries (map stock_in r.stock);
  flights = from_entries (map flight_in r.flights);
  moves = map move_in r.moves;
  expected = from_entries (map expected_in r.expected);
  parts = from_entries (map part_in r.parts);
  trail = map trail_in r.trail;
  outbox = map message_in r.outbox;
  kept = from_entries (map kept_in r.kept);
  kept_texts = from_entries (map kept_text_in r.kept_texts);
  counts = from_entries (map count_in r.counts);
  builds = from_entries (map build_in r.builds);
}

module _ (db : Database) (was : IsStation db) where
  abbrev pub typed_stations : AreListed station_id station_row station_in (db.trees 0)
  typed_stations = was.typed.0

  abbrev pub typed_old_waybills : AreListed old_waybill_id old_waybill_row old_waybill_in (db.trees 1)
  typed_old_waybills = was.typed.1.0

  abbrev pub typed_stock : AreEntries stock_cmp stock_row stock_in (db.trees 2)
  typed_stock = was.typed.1.1.0

  abbrev pub typed_flights : AreEntries flight_cmp flight_row flight_in (db.trees 4)
  typed_flights = was.typed.1.1.1.0

  abbrev pub typed_moves : AreListed move_id move_row move_in (db.trees 6)
  typed_moves = was.typed.1.1.1.1.0

  abbrev pub typed_expected : AreEntries expected_cmp expected_row expected_in (db.trees 8)
  typed_expected = was.typed.1.1.1.1.1.0

  abbrev pub typed_parts : AreEntries part_cmp part_row part_in (db.trees 10)
  typed_parts = was.typed.1.1.1.1.1.1.0

  abbrev pub typed_trail : AreListed trail_id trail_row trail_in (db.trees 12)
  typed_trail = was.typed.1.1.1.1.1.1.1.0

  abbrev pub typed_outbox : AreListed message_id message_row message_in (db.trees 13)
  typed_outbox = was.typed.1.1.1.1.1.1.1.1.0

  abbrev pub typed_kept : AreEntries kept_cmp kept_row kept_in (db.trees 14)
  typed_kept = was.typed.1.1.1.1.1.1.1.1.1.0

  abbrev pub typed_kept_texts : AreEntries kept_text_cmp kept_text_row kept_text_in (db.trees 16)
  typed_kept_texts = was.typed.1.1.1.1.1.1.1.1.1.1.0

  abbrev pub typed_counts : AreEntries count_cmp count_row count_in (db.trees 18)
  typed_counts = was.typed.1.1.1.1.1.1.1.1.1.1.1.0

  abbrev pub typed_builds : AreEntries build_cmp build_row build_in (db.trees 20)
  typed_builds = was.typed.1.1.1.1.1.1.1.1.1.1.1.1.0

  abbrev pub typed_waybills : AreListed waybill_id waybill_row waybill_in (db.trees 22)
  typed_waybills = was.typed.1.1.1.1.1.1.1.1.1.1.1.1.1.0
