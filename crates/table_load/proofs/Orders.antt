-- SQL orders the rows of each table by its key columns as the keys are ordered.
use Rattle.table_load.proofs.Common.{Agrees, Build, BuildKey, Count, CountKey, Expected, ExpectedKey, Flight, FlightKey, Kept, List, Message, Move, OldWaybill, PartKey, Stock, StockKey, TrailLine, Waybill, build_cmp, build_row, by_key, by_number, count_cmp, count_row, expected_cmp, expected_row, flight_cmp, flight_row, kept_cmp, kept_row, kept_text_cmp, kept_text_row, last_key, message_id, message_shown, move_id, move_shown, old_waybill_id, old_waybill_shown, part_cmp, part_row, stock_cmp, stock_row, then_key, trail_id, trail_shown, value_cmp-Int, value_cmp-Text, waybill_id, waybill_shown, ℕ, ℤ}

pub old_waybill_agrees : Agrees {E = OldWaybill} 1 old_waybill_shown (by_number old_waybill_id)
old_waybill_agrees a b = last_key (value_cmp-Int (old_waybill_id a) (old_waybill_id b))

pub waybill_agrees : Agrees {E = Waybill} 1 waybill_shown (by_number waybill_id)
waybill_agrees a b = last_key (value_cmp-Int (waybill_id a) (waybill_id b))

pub stock_agrees : Agrees {E = StockKey × Stock} 2 stock_row (by_key stock_cmp)
stock_agrees a b = then_key (value_cmp-Int a.0.0 b.0.0) (last_key (value_cmp-Int a.0.1 b.0.1))

pub flight_agrees : Agrees {E = FlightKey × Flight} 2 flight_row (by_key flight_cmp)
flight_agrees a b = then_key (value_cmp-Text a.0.0 b.0.0) (last_key (value_cmp-Int a.0.1 b.0.1))

pub moves_agrees : Agrees {E = Move} 1 move_shown (by_number move_id)
moves_agrees a b = last_key (value_cmp-Int (move_id a) (move_id b))

pub expected_agrees : Agrees {E = ExpectedKey × Expected} 3 expected_row (by_key expected_cmp)
expected_agrees a b = then_key (value_cmp-Text a.0.0 b.0.0) (then_key (value_cmp-Int a.0.1.0 b.0.1.0) (last_key (value_cmp-Int a.0.1.1 b.0.1.1)))

pub part_agrees : Agrees {E = PartKey × List ℕ} 4 part_row (by_key part_cmp)
part_agrees a b = then_key (value_cmp-Text a.0.0 b.0.0) (then_key (value_cmp-Int a.0.1.0 b.0.1.0) (then_key (value_cmp-Text a.0.1.1.0 b.0.1.1.0) (last_key (value_cmp-Int a.0.1.1.1 b.0.1.1.1))))

pub trail_agrees : Agrees {E = TrailLine} 1 trail_shown (by_number trail_id)
trail_agrees a b = last_key (value_cmp-Int (trail_id a) (trail_id b))

pub outbox_agrees : Agrees {E = Message} 1 message_shown (by_number message_id)
outbox_agrees a b = last_key (value_cmp-Int (message_id a) (message_id b))

pub kept_key_agrees : Agrees {E = List ℕ × Kept} 1 kept_row (by_key kept_cmp)
kept_key_agrees a b = last_key (value_cmp-Text a.0 b.0)

pub kept_text_agrees : Agrees {E = List ℕ × ℤ} 1 kept_text_row (by_key kept_text_cmp)
kept_text_agrees a b = last_key (value_cmp-Text a.0 b.0)

pub counts_agrees : Agrees {E = CountKey × Count} 2 count_row (by_key count_cmp)
counts_agrees a b = then_key (value_cmp-Int a.0.0 b.0.0) (last_key (value_cmp-Int a.0.1 b.0.1))

pub build_agrees : Agrees {E = BuildKey × Build} 3 build_row (by_key build_cmp)
build_agrees a b = then_key (value_cmp-Text a.0.0 b.0.0) (then_key (value_cmp-Int a.0.1.0 b.0.1.0) (last_key (value_cmp-Int a.0.1.1 b.0.1.1)))
