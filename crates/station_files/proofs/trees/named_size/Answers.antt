use Rattle.std.specs.Prelude.{None}
use Rattle.station_files.proofs.Common.{Some, image_of, rules, ◌≡◌}
use Rattle.station_files.proofs.ByList.{not_named, probe_pages}
use Rattle.station_files.proofs.trees.named_size.Goals as goal

pub returns-in-Ok-Some-clause-sized : goal.returns-in-Ok-Some-clause-sized
returns-in-Ok-Some-clause-sized g c clean n held =
    let is : c.in-Ok-Some.field-0 ≡ Some c.in-Ok-Some.size = search rules in
    probe_pages (image_of g.D.Disk c.args.files.now) c.in-Ok-Some.field-0 (c.in-Ok-Some.ensures.by_log clean) (c.in-Ok-Some.ensures.by_file clean) n held c.in-Ok-Some.size is

pub returns-in-Ok-None-clause-none : goal.returns-in-Ok-None-clause-none
returns-in-Ok-None-clause-none g c is clean n held =
    let none : c.in-Ok-None.field-0 ≡ None = search rules in
    not_named (image_of g.D.Disk c.args.files.now) c.in-Ok-None.field-0 (c.in-Ok-None.ensures.by_log clean) (c.in-Ok-None.ensures.by_file clean) n held none
