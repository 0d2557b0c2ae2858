use Rattle.std.proofs.Common.{refl}
use Rattle.row_codec.proofs.counting.balances_by.Goals as goal

pub returns : goal.returns
returns c counts book w rows are = λ i. record {
  taken = c.in_ok-taken.ensures counts book w rows are refl i;
  found = c.in_ok-found.ensures counts book w rows are refl i;
  free = c.in_ok-free.ensures counts book w rows are refl i;
  missing = c.in_ok-missing.ensures counts book w rows are refl i;
  departed = c.in_ok-departed.ensures counts book w rows are refl i;
  delivered = c.in_ok-delivered.ensures counts book w rows are refl i;
  transferred = c.in_ok-transferred.ensures counts book w rows are refl i;
}
