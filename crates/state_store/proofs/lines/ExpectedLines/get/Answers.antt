use Rattle.state_store.proofs.Common.{get, line_of, rules, same_line, ◌∙◌, ◌≡◌}
use Rattle.state_store.proofs.Keyed.{found_by}
use Rattle.state_store.proofs.Tied.{by_line, by_line_keyed}
use Rattle.state_store.proofs.lines.ExpectedLines.get.Goals as goal

pub returns : goal.returns
returns c =
    let entries = c.args.self.now.entries in
    let found : c.copied.result ≡ get by_line entries (c.of.result, c.key.result) = search rules in
    found ∙ found_by by_line line_of same_line by_line_keyed entries.entries (c.of.result, c.key.result) (c.args.flight.now, c.args.awb.now) (λ i. (c.of.ensures i, c.key.ensures.value i))
