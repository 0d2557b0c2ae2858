use Rattle.std.proofs.Common.{refl}
use Rattle.table_audits.proofs.KeptKeyLaws.{keys_so}
use Rattle.table_audits.proofs.Tables.{missing, tested, kept_key_table}
use Rattle.table_audits.proofs.kept_key.is_good.Goals as goal

pub returns-in_default-clause-read : goal.returns-in_default-clause-read
returns-in_default-clause-read g c = λ clean up so_far knows. missing (kept_key_table _) so_far (rw c.in_default.is at c.in_ok-keys.ensures.read clean up)

pub returns-clause-read : goal.returns-clause-read
returns-clause-read g c = λ clean up so_far knows.
    let read = c.in_ok-keys.ensures.read clean up in
    let keys = rw c.in-Some.is at read.0 in
    (tested (kept_key_table _) so_far _ keys.1 c.in-Some.keys.are_lawful (λ t so is. keys_so t keys.0 is c.in-Some.keys.are_lawful keys.2) (refl, knows), read.1)
