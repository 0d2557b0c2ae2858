use Rattle.station_files.proofs.Common.{IsTrue, Recovers, image, length, lt-ltb, recovers_once, refl, state_of, subst, sym}
use Rattle.sqlite_store.specs.FileStore.{state as store_state}
use Rattle.station_files.proofs.Opened.{opens_on}
use Rattle.station_files.proofs.beside.open_all.Goals as goal

pub returns-in-Ok-open_as-clause-numbered : goal.returns-in-Ok-open_as-clause-numbered
returns-in-Ok-open_as-clause-numbered g c low = c.in-Ok-open_as.ensures.numbered (subst IsTrue (sym (lt-ltb c.args.made (length c.args.objects.now) low)) refl)

pub returns-in-Ok-open_as-clause-found : goal.returns-in-Ok-open_as-clause-found
returns-in-Ok-open_as-clause-found g c now =
    let clean = c.in-Ok-open_as.ensures.honest now in
    let old = c.args.files in
    let size = (state_of old).page_size in
    let mid = c.list_trees.new.files in
    let first = c.in-Ok.ensures.kept clean in
    let listed = c.in-Ok.ensures.found clean in
    let last = (store_state c.in-Ok-open_as.it).committed in
    let same = recovers_once size (image mid) listed.0 last listed.2 (subst (λ n. Recovers n (image mid) last) first.size (c.in-Ok-open_as.ensures.found now)) in
    subst (Recovers size (image old)) same listed.1

pub returns-in-Ok-open_as-clause-kept : goal.returns-in-Ok-open_as-clause-kept
returns-in-Ok-open_as-clause-kept g c now =
    let clean = c.in-Ok-open_as.ensures.honest now in
    let listed = c.in-Ok.ensures.found clean in
    opens_on c.args.files c.list_trees.new.files (store_state c.in-Ok-open_as.it) listed.0 listed.1 listed.2 (c.in-Ok.ensures.kept clean) (c.in-Ok-open_as.ensures.kept now)

pub returns-in-Err-open_as-clause-unharmed : goal.returns-in-Err-open_as-clause-unharmed
returns-in-Err-open_as-clause-unharmed g c still =
    let e = c.in-Err-open_as.ensures in
    let clean = e.falls still in
    let listed = c.in-Ok.ensures.found clean in
    opens_on c.args.files c.list_trees.new.files (state_of c.in-Err-open_as.left.1) listed.0 listed.1 listed.2 (c.in-Ok.ensures.kept clean) (e.unharmed still)
