-- The waybills of a file of version 1, with no day, are those that it is to have.
use Rattle.table_audits.proofs.Common.{Database, First, HoldsOldWaybill, HoldsWaybills, List, OldWaybill, Waybill, WaybillRow, ap, map, map-map, old_waybill_entry, sym, undated, undated_row, waybill_meant, ◌∙◌, ◌≡◌}
use Rattle.table_load.specs.declared.old_waybill.OldWaybillEntry.{OldWaybillEntry}

same_rows : (olds : List OldWaybillEntry) → map waybill_meant (map undated_row olds) ≡ map undated (map old_waybill_entry olds)
same_rows olds = map-map waybill_meant undated_row olds ∙ sym (map-map undated old_waybill_entry olds)

pub some_told : (db : Database) (olds : List OldWaybillEntry) (rows : List WaybillRow) → HoldsOldWaybill db (map old_waybill_entry olds) → rows ≡ map undated_row olds → HoldsWaybills First db (map waybill_meant rows)
some_told db olds rows held is = (map old_waybill_entry olds, held, ap (map waybill_meant) is ∙ same_rows olds)

pub none_told : (db : Database) → ((olds : List OldWaybill) → ¬ HoldsOldWaybill db olds) → (waybills : List Waybill) → ¬ HoldsWaybills First db waybills
none_told db none waybills held = none held.0 held.1
