use Rattle.state_store.proofs.Common.{line_of, same_line}
use Rattle.state_store.proofs.Keyed.{taken_out}
use Rattle.state_store.proofs.Tied.{by_line, by_line_keyed}
use Rattle.state_store.proofs.lines.ExpectedLines.remove.Goals as goal

pub returns : goal.returns
returns c i f w =
    taken_out by_line line_of same_line by_line_keyed c.args.self.now.entries.entries c.remove.new.self.entries (c.of.result, c.key.result) (c.args.flight.now, c.args.awb.now) (f, w)
    (λ j. (c.of.ensures j, c.key.ensures.value j)) c.remove.ensures.updates.1 c.remove.ensures.updates.3 i
