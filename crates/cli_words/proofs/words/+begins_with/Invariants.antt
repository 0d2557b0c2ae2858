use Rattle.std.proofs.Common.{length}
use Rattle.cli_words.proofs.words.+begins_with.Given as goal

abbrev pub decreases-begins_with : goal.decreases-begins_with
decreases-begins_with g l = length l.words.now
