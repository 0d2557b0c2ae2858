use Rattle.station_files.proofs.Common.{AreClean, BeginsWell, HoldsPages, IsTrue, ap, are_clean, bytes_of, false, outcomes, pair, pool_files, reads_then, rules, same_image, seen_image, state_of, subst, sym, ◌∙◌, ◌≡◌}
use Rattle.sqlite_wal.proofs.CleanLemmas.{both_clean}
use Rattle.station_files.proofs.opening.unopened.Goals as goal

pub returns-in-Ok-with_list-clause-unopened : goal.returns-in-Ok-with_list-clause-unopened
returns-in-Ok-with_list-clause-unopened g c =
    let it = c.in-Ok-with_list.it in
    let made = c.in-Ok-with_list.ensures in
    let size = c.in-Ok.size in
    let named = c.named_size.ensures in
    let looked = c.begins_plain.ensures in
    let log = reads_then named.log looked.log in
    let db = reads_then named.db looked.db in
    let first = same_image named.log named.db in
    let begins : IsTrue c.in-Ok-true.field-0 = search rules in
    let first_page = c.in-Ok-true.ensures in
    let last : IsTrue (state_of it).is_clean → AreClean g.D.Disk c.begins_plain.new.files.log c.begins_plain.new.files.db =
    λ clean. sym ((pool_files it.pool).1 ∙ ap (λ f. are_clean g.D.Disk f.0 f.1) made.files) ∙ clean in
    record {
      usable = search rules;
      list = made.list;
      seen = ap (λ f. seen_image g.D.Disk f.0 f.1) made.files ∙ same_image log db;
      left = λ at may. let old = subst (λ f. outcomes g.D.Disk f.0 f.1 at) made.files ((pool_files it.pool).2 at may) in pair (log.crash _ old.0) (db.crash _ old.1);
      honest = λ clean. both_clean _ _ _ _ log.clean db.clean (last clean);
      size = size;
      sized = made.size;
      begins = λ clean. subst (BeginsWell (bytes_of size)) first (first_page.begins begins (last clean));
      only = λ clean n held.
          first_page.plain begins (last clean) n (subst (HoldsPages n) (sym first) held) (c.in-Ok.ensures.sized (both_clean _ _ _ _ looked.log.clean looked.db.clean (last clean)) n held);
    }

pub returns-in-Err-clause-honest : goal.returns-in-Err-clause-honest
returns-in-Err-clause-honest g c clean = let named = c.named_size.ensures in both_clean _ _ _ _ named.log.clean named.db.clean clean

pub returns-in-Ok-false-clause-honest : goal.returns-in-Ok-false-clause-honest
returns-in-Ok-false-clause-honest g c clean =
    let log = reads_then c.named_size.ensures.log c.begins_plain.ensures.log in
    let db = reads_then c.named_size.ensures.db c.begins_plain.ensures.db in
    both_clean _ _ _ _ log.clean db.clean clean

pub returns-in-Err-begins_plain-clause-honest : goal.returns-in-Err-begins_plain-clause-honest
returns-in-Err-begins_plain-clause-honest g c clean =
    let log = reads_then c.named_size.ensures.log c.begins_plain.ensures.log in
    let db = reads_then c.named_size.ensures.db c.begins_plain.ensures.db in
    both_clean _ _ _ _ log.clean db.clean clean

pub returns-in-Err-clause-refused : goal.returns-in-Err-clause-refused
returns-in-Err-clause-refused g c is clean n held = absurd (c.in-Err.ensures.none is clean n held)

pub returns-in-Ok-false-clause-refused : goal.returns-in-Ok-false-clause-refused
returns-in-Ok-false-clause-refused g c is clean n held =
    let named = c.named_size.ensures in
    let looked = c.begins_plain.ensures in
    let off : c.in-Ok-false.field-0 ≡ false = search rules in
    c.in-Ok-false.ensures.sums off clean n (subst (HoldsPages n) (sym (same_image named.log named.db)) held)
    (c.in-Ok.ensures.sized (both_clean _ _ _ _ looked.log.clean looked.db.clean clean) n held)

pub returns-in-Err-begins_plain-clause-refused : goal.returns-in-Err-begins_plain-clause-refused
returns-in-Err-begins_plain-clause-refused g c is clean n held =
    let named = c.named_size.ensures in
    let looked = c.begins_plain.ensures in
    absurd (c.in-Err-begins_plain.ensures.unread is clean n (subst (HoldsPages n) (sym (same_image named.log named.db)) held)
    (c.in-Ok.ensures.sized (both_clean _ _ _ _ looked.log.clean looked.db.clean clean) n held))
