use Rattle.std.proofs.Common.{[], ◌∷◌, arith}
use Rattle.stock_tables.proofs.near.without_first.Goals as goal

pub returns-in-Some : goal.returns-in-Some
returns-in-Some c = record {
  ahead = c.in-Some.row.now ∷ [];
  parted = c.in-Some.ensures.cases.0;
  ends = (omega (arith, c.end_key.ensures, c.key-first.ensures.value, c.if-end_key-first.true), tt);
}
