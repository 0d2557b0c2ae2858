use Rattle.http_desk.proofs.Common.{bytes_eq, codes, false, refl, rules, ◌≡◌}
use Rattle.http_desk.proofs.printout.rows_named.Goals as goal

pub returns-in_default : goal.returns-in_default
returns-in_default c =
    let reports : bytes_eq c.args.kind.now (codes "reports") ≡ false = search rules in
    let keys : bytes_eq c.args.kind.now (codes "keys") ≡ false = search rules in
    rw (reports, keys) refl
