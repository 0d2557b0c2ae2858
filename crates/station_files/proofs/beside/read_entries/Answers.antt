use Rattle.station_files.proofs.Common.{Recovers, image, state_of, subst}
use Rattle.station_files.proofs.Opened.{reads_on}
use Rattle.station_files.proofs.beside.read_entries.Goals as goal

pub returns-in_err-roots-clause-kept : goal.returns-in_err-roots-clause-kept
returns-in_err-roots-clause-kept g c clean =
    let early = c.index_roots.ensures.kept.stays.clean clean in
    reads_on g.met.D.Disk.seen_may_stay c.args.files.now c.read_catalog.new.self _ (state_of c.index_roots.new.self) (c.read_catalog.ensures.kept early) (c.in_ok-entries.ensures.ok early) c.index_roots.ensures.kept

pub returns-clause-kept : goal.returns-clause-kept
returns-clause-kept g c clean =
    let early = c.index_roots.ensures.kept.stays.clean clean in
    reads_on g.met.D.Disk.seen_may_stay c.args.files.now c.read_catalog.new.self _ (state_of c.index_roots.new.self) (c.read_catalog.ensures.kept early) (c.in_ok-entries.ensures.ok early) c.index_roots.ensures.kept

pub returns-clause-found : goal.returns-clause-found
returns-clause-found g c clean =
    let early = c.index_roots.ensures.kept.stays.clean clean in
    let first = c.read_catalog.ensures.kept early in
    let cat = c.in_ok-entries.ensures.ok early in
    let found = c.in_ok-roots.ensures.ok clean cat.pages cat.shows in
    (cat.pages, cat.found, subst (λ n. Recovers n (image c.index_roots.new.self) cat.pages) first.size found.again)
