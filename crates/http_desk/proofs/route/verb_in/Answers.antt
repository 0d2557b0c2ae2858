use Rattle.http_desk.proofs.Common.{ap, verb_called, ◌∙◌}
use Rattle.http_desk.proofs.NoVerb.{verb_read}
use Rattle.http_desk.proofs.route.verb_in.Goals as goal

pub returns : goal.returns
returns c = verb_read c.as_bytes.result.now c.read.result c.read.ensures.some c.read.ensures.only ∙ ap verb_called c.as_bytes.ensures.value
