use Rattle.table_load.proofs.Declared.{station_old, old_waybill_old, stock_old, flight_old, moves_old, expected_old, part_old, trail_old, outbox_old, kept_key_old, kept_text_old, counts_old, build_old}
use Rattle.table_load.proofs.tables.held_is_old.Goals as goal

pub returns : goal.returns
returns c = record {
  station = station_old;
  old_waybill = old_waybill_old;
  stock = stock_old;
  flight = flight_old;
  moves = moves_old;
  expected = expected_old;
  part = part_old;
  trail = trail_old;
  outbox = outbox_old;
  kept_key = kept_key_old;
  kept_text = kept_text_old;
  counts = counts_old;
  build = build_old;
}
