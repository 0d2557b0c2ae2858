use Rattle.std.proofs.Common.{refl, ◌+◌, arith}
use Rattle.imp_fields.proofs.ScanLaws.{seen_to_step, rest_is, printable_so, newline_behind}
use Rattle.imp_fields.proofs.normal.Scan.of.Goals as goal

pub see-requires-clause-printable : goal.see-requires-clause-printable
see-requires-clause-printable c =
    let source = c.args.bytes.now in
    printable_so source _ _ c.loop-start.start (c.printable_in_front-printable.result + c.before_newline.result) c.line_len.result c.printable_in_front-printable.result c.new-line.result
    (rest_is source c.loop-start.start) refl c.line_len.ensures.bound c.printable_in_front-printable.ensures.run c.new-line.ensures.slice c.new-line.ensures.start c.new-line.ensures.end

pub loop-start-preserved : goal.loop-start-preserved
loop-start-preserved c =
    let source = c.args.bytes.now in
    let front = c.printable_in_front-printable in
    let place = newline_behind _ front.result c.before_newline.result front.ensures.run c.before_newline.ensures.place in
    let seen = seen_to_step source _ _ c.loop-start.start (front.result + c.before_newline.result) c.line_len.result c.new-line.result c.loop-start.scan c.see.new.self
    c.loop-start.invariant.0 c.loop-start-test.true (rest_is source c.loop-start.start) place refl c.line_len.ensures.bound c.line_len.ensures.text
    c.new-line.ensures.slice c.new-line.ensures.start c.new-line.ensures.end c.in_ok-see.ensures in
    (seen, omega (arith, front.ensures.bound, c.before_newline.ensures.bound), c.loop-start.invariant.2)
