use Rattle.table_audits.proofs.Common.{at_rest, refl, state}
use Rattle.table_audits.proofs.judge.is_good.Goals as goal

pub returns-in-Station-clause-read : goal.returns-in-Station-clause-read
returns-in-Station-clause-read g c = rw c.in-Station.is (λ clean up so_far knows. ((knows.0, (refl, knows.1)), at_rest (state g.S.Store c.args.conn.now) up))

pub returns-in-Waybill-clause-read : goal.returns-in-Waybill-clause-read
returns-in-Waybill-clause-read g c = rw c.in-Waybill.is c.is_good.ensures.read

pub returns-in-Waybill2-clause-read : goal.returns-in-Waybill2-clause-read
returns-in-Waybill2-clause-read g c = rw c.in-Waybill2.is c.is_good-in-Waybill2.ensures.read

pub returns-in-Stock-clause-read : goal.returns-in-Stock-clause-read
returns-in-Stock-clause-read g c = rw c.in-Stock.is c.is_good-in-Stock.ensures.read

pub returns-in-Flight-clause-read : goal.returns-in-Flight-clause-read
returns-in-Flight-clause-read g c = rw c.in-Flight.is c.is_good-in-Flight.ensures.read

pub returns-in-Moves-clause-read : goal.returns-in-Moves-clause-read
returns-in-Moves-clause-read g c = rw c.in-Moves.is c.is_good-in-Moves.ensures.read

pub returns-in-Expected-clause-read : goal.returns-in-Expected-clause-read
returns-in-Expected-clause-read g c = rw c.in-Expected.is c.is_good-in-Expected.ensures.read

pub returns-in-Part-clause-read : goal.returns-in-Part-clause-read
returns-in-Part-clause-read g c = rw c.in-Part.is c.is_good-in-Part.ensures.read

pub returns-in-Trail-clause-read : goal.returns-in-Trail-clause-read
returns-in-Trail-clause-read g c = rw c.in-Trail.is c.is_good-in-Trail.ensures.read

pub returns-in-Outbox-clause-read : goal.returns-in-Outbox-clause-read
returns-in-Outbox-clause-read g c = rw c.in-Outbox.is c.is_good-in-Outbox.ensures.read

pub returns-in-KeptKey-clause-read : goal.returns-in-KeptKey-clause-read
returns-in-KeptKey-clause-read g c = rw c.in-KeptKey.is c.is_good-in-KeptKey.ensures.read

pub returns-in-KeptText-clause-read : goal.returns-in-KeptText-clause-read
returns-in-KeptText-clause-read g c = rw c.in-KeptText.is c.is_good-in-KeptText.ensures.read

pub returns-in-Counts-clause-read : goal.returns-in-Counts-clause-read
returns-in-Counts-clause-read g c = rw c.in-Counts.is c.is_good-in-Counts.ensures.read

pub returns-in-Build-clause-read : goal.returns-in-Build-clause-read
returns-in-Build-clause-read g c = rw c.in-Build.is c.is_good-in-Build.ensures.read
