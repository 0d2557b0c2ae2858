use Rattle.std.proofs.Common.{length}
use Rattle.desk_client.proofs.ended.+before_digits.Given as goal

abbrev pub decreases-before_digits : goal.decreases-before_digits
decreases-before_digits l = length l.text.now
