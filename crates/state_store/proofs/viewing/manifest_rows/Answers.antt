use Rattle.shipment_machine.specs.declared.view.Rows.TheVariants as rows
use Rattle.state_store.proofs.Walks.{reads_then}
use Rattle.state_store.proofs.viewing.manifest_rows.Goals as goal

pub returns : goal.returns
returns g c = reads_then g.S.StateStore.storing _ _ _ _ _ c.in_ok-waybill.ensures c.in_ok-beside.ensures (λ s waybill beside i. rows.Manifest (waybill i) (beside i))
