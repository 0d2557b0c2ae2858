use Rattle.std.proofs.Common.{length}
use Rattle.http_desk.proofs.request.+values_of.Given as goal

abbrev pub decreases-values_of : goal.decreases-values_of
decreases-values_of l = length l.fields.now
