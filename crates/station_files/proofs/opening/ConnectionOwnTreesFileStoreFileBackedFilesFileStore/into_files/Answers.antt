use Rattle.station_files.proofs.Common.{AreClean, HoldsOwn, Image, IsClean, IsHeldAlone, Trees, View, ap, arith, clean_is, may_leave_is, no_doubt, open_from, outcomes, over_files, own_trees, recovers_own, state, subst, view, ◌∙◌}
use Rattle.sqlite_trees.proofs.Doubt.{clean_of as sure}
use Rattle.station_files.proofs.OwnFiles.{copied_own}
use Rattle.station_files.proofs.opening.ConnectionOwnTreesFileStoreFileBackedFilesFileStore.into_files.Goals as goal

-- as the library closes its own connections
pub returns-in-Ok : goal.returns-in-Ok
returns-in-Ok g c = record {
  copied = λ honest.
      let r = c.file_inside-store.ensures.closed in
      let before = c.rollback.new.self in
      let last = c.checkpoint.new.self in
      let q = c.checkpoint.ensures.quiet in
      let stays = g.met.D.Disk.seen_may_stay in
      let sure_now = subst (λ p. AreClean g.D.Disk p.0 p.1) c.close.ensures honest in
      let none : IsClean (view last) = no_doubt _ (clean_is last.pool ∙ sure_now) in
      let clean : IsClean (view before) = omega (arith, q.clean) in
      let early : IsClean (view c.file_inside-store.result) = omega (arith, c.rollback.ensures.quiet.clean) in
      let h = open_from (state before) c.in-Ok.ensures.ready (sure (view before).is_clean clean) in
      let second = c.rollback.ensures.undone.kept clean in
      let first = c.file_inside-store.ensures.committed early (second.was_open h) in
      let on = c.in-Ok.ensures.open none in
      let committed = ap (own_trees r.numbers) (ap (λ (v : View). v.committed) (c.checkpoint.ensures.same on) ∙ second.committed h) ∙ first.1 in
      let sound = λ (db : Trees) (found : recovers_own over_files last r.numbers db).
      r.sound early db (found.0, c.rollback.ensures.quiet.outcomes found.0 (q.outcomes found.0 found.1), found.2) in
      let empty = c.in-Ok.ensures.moved (c.rollback.ensures.logged (second.was_open h)) in
      let each = λ (image : Image) (may : outcomes g.D.Disk c.close.result.log c.close.result.db image).
      subst (IsHeldAlone HoldsOwn image) committed
      (copied_own last r.numbers r.few r.low sound stays on empty image (may_leave_is last.pool image sure_now (subst (λ p. outcomes g.D.Disk p.0 p.1 image) c.close.ensures may))) in
      record { was_clean = r.clean early; was_open = first.0; seen = each _ (stays _, stays _); left = each };
  left = tt;
}

-- behind a checkpoint that failed a crash leaves no more than behind the rollbacks
pub returns-in-Err : goal.returns-in-Err
returns-in-Err g c =
    let r = c.file_inside-store.ensures.closed in
    let q = c.checkpoint.ensures.quiet in
    let back = c.rollback.ensures.quiet in
    let before : (db : Trees) → recovers_own over_files c.checkpoint.new.self r.numbers db → recovers_own over_files c.file_inside-store.result r.numbers db =
    λ db found. (found.0, back.outcomes found.0 (q.outcomes found.0 found.1), found.2) in
    record {
      copied = λ _. tt;
      left = record {
        numbers = r.numbers;
        few = r.few;
        low = r.low;
        clean = λ none. r.clean (omega (arith, back.clean, q.clean, none));
        outcomes = λ db found. r.outcomes db (before db found);
        sound = λ none db found. r.sound (omega (arith, back.clean, q.clean, none)) db (before db found);
      };
    }
