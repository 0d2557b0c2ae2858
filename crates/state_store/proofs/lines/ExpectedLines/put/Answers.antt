use Rattle.state_store.proofs.Common.{line_of, same_line}
use Rattle.state_store.proofs.Keyed.{put_in}
use Rattle.state_store.proofs.Tied.{by_line, by_line_keyed}
use Rattle.state_store.proofs.lines.ExpectedLines.put.Goals as goal

pub returns-clause-put : goal.returns-clause-put
returns-clause-put c i f w =
    put_in by_line line_of same_line by_line_keyed c.args.self.now.entries.entries c.insert.new.self.entries (c.of.result, c.key.result) c.args.expected.now (c.args.flight.now, c.args.awb.now) (f, w)
    (λ j. (c.of.ensures j, c.key.ensures.value j)) c.in_ok-insert.ensures.entries i
