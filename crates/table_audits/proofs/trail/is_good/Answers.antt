use Rattle.table_audits.proofs.Common.{None, Some, ap, length, length-map, refl, sym, true, ◌∙◌}
use Rattle.table_audits.proofs.TrailLaws.{lines_so}
use Rattle.table_audits.proofs.Tables.{are, bad, missing, tested, trail_table}
use Rattle.table_audits.proofs.trail.is_good.Goals as goal

pub returns-in_default-clause-read : goal.returns-in_default-clause-read
returns-in_default-clause-read g c = λ clean up so_far knows. missing (trail_table _) so_far (rw c.in_default.is at c.in_ok-lines.ensures.read clean up)

pub returns-in_default-count-clause-read : goal.returns-in_default-count-clause-read
returns-in_default-count-clause-read g c = λ clean up so_far knows.
    let read = c.in_ok-lines.ensures.read clean up in
    let lines = rw c.in-Some.is at read.0 in
    let sound = rw c.in_default-count.is at lines.2 knows.1.0 in
    (bad (trail_table _) so_far _ lines.1 (λ t so is. lines_so t lines.0 _ (knows.1.1 t so.1.1.1.1.1) is None sound), read.1)

pub returns-clause-read : goal.returns-clause-read
returns-clause-read g c = λ clean up so_far knows.
    let read = c.in_ok-lines.ensures.read clean up in
    let lines = rw c.in-Some.is at read.0 in
    let sound = rw c.in-Some-count.is at lines.2 knows.1.0 in (
      tested (trail_table _) so_far _ lines.1 true (λ t so is. lines_so t lines.0 _ (knows.1.1 t so.1.1.1.1.1) is (Some c.in-Some-count.count) sound)
          (refl, (knows.0, knows.2, knows.3, knows.4, λ t so. sound.1 ∙ length-map lines.0 _ ∙ sym (length-map lines.0 _) ∙ sym (ap length (are (trail_table _) so_far _ lines.1 t so.0.held)))),
      read.1,
    )
