use Rattle.station_files.proofs.Common.{ap, arith, bytes_of, cases_eq, eq-eqb, image_of, inl, inr, ne_eqb, not, reserved, reserved_word, rules, subst, sym, true≢false, ◌%◌, ◌∙◌, ◌≡◌, ◌≤◌}
use Rattle.sqlite_wal.specs.Recovery as raw
use Rattle.sqlite_wal.specs.Recovery.{Replays}
use Rattle.station_files.proofs.ByList.{refuses_pages}
use Rattle.station_files.proofs.trees.begins_plain.Goals as goal

-- the header's word is that of pages with no sums
pub returns-then-first-eq83-clause-plain : goal.returns-then-first-eq83-clause-plain
returns-then-first-eq83-clause-plain g c off clean size held is =
    let few : reserved size ≤ 8 = grind arith in
    let found = held.found in
    let page = reserved_word size _ _ found (omega (arith, held.valid.0)) held.sound in
    let word = (c.in-Ok.ensures.value clean found.stored page.0 (subst (λ n. raw.Recovers n (image_of g.D.Disk c.args.files.now) found.stored) is found.found) page.1 (page.2 ∙ is)).1 ∙ page.3 in
    elim (cases_eq (size % 16) 8) [
      | inl on ↦
          let eight : reserved size ≡ 8 = rw (eq-eqb _ 8 on) in
          let same : c.in-Ok.reserved ≡ 0x0840_2020 = omega arith in
          absurd (true≢false (sym off ∙ ap not (eq-eqb _ _ same)))
      | inr plain ↦ let none : reserved size ≡ 0 = rw (ne_eqb _ 8 plain) in omega (arith, is)
    ]

pub returns-then-first-eq83-clause-begins : goal.returns-then-first-eq83-clause-begins
returns-then-first-eq83-clause-begins g c off clean pages first found is len =
    let letter : c.in-Ok.first ≡ 83 = search rules in
    sym (c.in-Ok.ensures.value clean pages first found is len).0 ∙ letter

pub returns-then-first-eq83-clause-sums : goal.returns-then-first-eq83-clause-sums
returns-then-first-eq83-clause-sums g c off clean n held is =
    let few : reserved n ≤ 8 = grind arith in
    let found = held.found in
    let page = reserved_word n _ _ found (omega (arith, held.valid.0)) held.sound in
    let word = (c.in-Ok.ensures.value clean found.stored page.0 (subst (λ m. raw.Recovers m (image_of g.D.Disk c.args.files.now) found.stored) is found.found) page.1 (page.2 ∙ is)).1 ∙ page.3 in
    elim (cases_eq (n % 16) 8) [
      | inl on ↦ on
      | inr plain ↦
          let none : reserved n ≡ 0 = rw (ne_eqb _ 8 plain) in
          absurd (true≢false (sym (ap not (ne_eqb c.in-Ok.reserved 0x0840_2020 (λ h. omega (arith, h, word, none)))) ∙ off))
    ]

pub returns-else-first-eq83-clause-sums : goal.returns-else-first-eq83-clause-sums
returns-else-first-eq83-clause-sums g c off clean n held is =
    let few : reserved n ≤ 8 = grind arith in
    let found = held.found in
    let page = reserved_word n _ _ found (omega (arith, held.valid.0)) held.sound in
    let letter = (c.in-Ok.ensures.value clean found.stored page.0 (subst (λ m. raw.Recovers m (image_of g.D.Disk c.args.files.now) found.stored) is found.found) page.1 (page.2 ∙ is)).0 ∙ page.4 in
    absurd (true≢false (sym (eq-eqb c.in-Ok.first 83 letter) ∙ off))

pub returns-in-Err-clause-unread : goal.returns-in-Err-clause-unread
returns-in-Err-clause-unread g c is clean n held same =
    let raw = held.found.found in
    let image = image_of g.D.Disk c.args.files.now in
    refuses_pages c.in-Err.error (c.unread.ensures is) _ _ (bytes_of c.args.size) image.log (c.in-Err.ensures.cause.0 clean) raw.frames (subst (λ m. Replays m image.log raw.frames) same raw.replays)
