use Rattle.input_reasons.proofs.Common.{ap, arith, drop, lower_lines, ◌++◌, ◌+◌, ◌∙◌}
use Rattle.input_reasons.proofs.LowerLines.{lower_next, printable_at, texts}
use Rattle.input_reasons.proofs.seen.put_lower.Goals as goal

pub seen_line-requires : goal.seen_line-requires
seen_line-requires c = printable_at c.args.lower.now c.loop-line.line-index _ c.requires.printable c.loop-line-test.true

pub loop-line-preserved : goal.loop-line-preserved
loop-line-preserved c =
    let says = c.args.says.now in
    let tokens = c.args.lower.now in
    let i = c.loop-line.line-index in
    let number = c.loop-line.number in
    record {
      seen =
          ap (λ left. c.push.new.self.items ++ lower_lines says (i + 1 + 3) left (texts (drop (i + 1) tokens))) c.left_behind-left.ensures
          ∙ lower_next says c.loop-line.left.now tokens i number _ c.loop-line.seen.items c.push.new.self.items _ c.in_ok-seen_line.field-0 c.lower_part-part.result c.loop-line-test.true c.loop-line.invariant.number
          c.in_ok-push.ensures.items c.in_ok-seen_line.ensures c.lower_part-part.ensures c.loop-line.invariant.seen;
      number = omega (arith, c.loop-line.invariant.number);
    }
