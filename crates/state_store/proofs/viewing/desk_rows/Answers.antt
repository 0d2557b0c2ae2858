use Rattle.state_store.proofs.viewing.desk_rows.Goals as goal

pub returns-in-Manifest : goal.returns-in-Manifest
returns-in-Manifest g c = rw c.in-Manifest.is c.manifest_rows.ensures

pub returns-in-Offload : goal.returns-in-Offload
returns-in-Offload g c = rw c.in-Offload.is c.offload_rows.ensures
