use Rattle.table_audits.proofs.Common.{answers_always, rules}
use Rattle.table_audits.proofs.Searches.{has_number}
use Rattle.table_audits.proofs.lookups.place_of.Goals as goal

pub returns : goal.returns
returns c = λ up. has_number c.args.waybills.now c.args.awb.now c.binary_search_by_key.result up c.binary_search_by_key.ensures.bound (c.binary_search_by_key.ensures.position (λ row. row.awb) (answers_always _ _ _ (λ f a r q k. search rules)))
