use Rattle.table_audits.proofs.Common.{RisesByNumber, is_lawful_line, map, rules, subst, to_z-of_z, trail_meant, w64, waybill_meant, ◌≡◌}
use Rattle.table_audits.proofs.Taken.{lines_more}
use Rattle.table_audits.proofs.trail.NumberedRowsRowFoldTrailRow.take.Goals as goal

pub returns : goal.returns
returns c = λ rows taken. lines_more (map waybill_meant c.args.waybills.now.items) rows c.args.row c.args.self.now c.add.new.self _ c.is_lawful-is_lawful.result c.add.result taken (to_z-of_z w64 c.args.row.number (search rules)) (subst (λ l. RisesByNumber (map waybill_meant l) → c.is_lawful-is_lawful.result ≡ is_lawful_line (map waybill_meant l) (trail_meant c.args.row)) c.deref.ensures.value c.is_lawful-is_lawful.ensures) c.add.ensures
