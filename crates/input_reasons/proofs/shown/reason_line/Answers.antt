use Rattle.std.proofs.Common.{string_bytes}
use Rattle.input_reasons.proofs.Told.{made}
use Rattle.input_reasons.proofs.shown.reason_line.Goals as goal

pub returns : goal.returns
returns c = made string_bytes c.format.result c.args.head.now (string_bytes c.in_ok-words.words) c.in_ok-words.ensures c.format.ensures.ok
