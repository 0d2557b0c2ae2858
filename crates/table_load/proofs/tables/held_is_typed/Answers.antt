use Rattle.table_load.proofs.Declared.{station_typed, old_waybill_typed, waybill_typed, stock_typed, flight_typed, moves_typed, expected_typed, part_typed, trail_typed, outbox_typed, kept_key_typed, kept_text_typed, counts_typed, build_typed}
use Rattle.table_load.proofs.tables.held_is_typed.Goals as goal

pub returns : goal.returns
returns c = record {
  station = station_typed;
  old_waybill = old_waybill_typed;
  waybill = waybill_typed;
  stock = stock_typed;
  flight = flight_typed;
  moves = moves_typed;
  expected = expected_typed;
  part = part_typed;
  trail = trail_typed;
  outbox = outbox_typed;
  kept_key = kept_key_typed;
  kept_text = kept_text_typed;
  counts = counts_typed;
  build = build_typed;
}
