use Rattle.table_audits.proofs.Common.{rules, to_z-of_z, w64}
use Rattle.table_audits.proofs.Taken.{messages_more}
use Rattle.table_audits.proofs.outbox.NumberedRowsRowFoldMessageRow.take.Goals as goal

pub returns : goal.returns
returns c = λ rows taken. messages_more rows c.args.row c.args.self.now c.add.new.self _ c.add.result taken (to_z-of_z w64 c.args.row.number (search rules)) c.add.ensures
