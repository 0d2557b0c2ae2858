use Rattle.std.specs.Fmt.{digits}
use Rattle.serde_json.proofs.OnLiterals.{serde_json_on_literals}
use Rattle.http_desk.proofs.writing.unavailable.Goals as goal

pub returns : goal.returns
unfolding digits serde_json_on_literals
returns c = c.as_bytes.ensures.value
