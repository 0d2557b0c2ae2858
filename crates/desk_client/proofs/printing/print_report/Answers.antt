use Rattle.desk_client.proofs.Common.{Bool, arith, inr, most_reads, refl, ◌+◌, ◌≤◌}
use Rattle.desk_client.specs.declared.ask.AskFault.TheVariants as fault
use Rattle.desk_client.proofs.AsItComes.{begun, ended, read_stopped, reads, stopped, turn_ended, turns, unbegun}
use Rattle.desk_client.proofs.printing.print_report.Goals as goal

pub returns-in-Err : goal.returns-in-Err
returns-in-Err g c =
    unbegun c.args.form c.args.body.now c.args.end (g.I.ByteIn.given c.args.reader.now) (g.O.ByteOut.taken c.args.output.now) (g.O.ByteOut.taken c.send_part.new.writer)
    c.in-Err.ensures.sent c.in-Err.ensures.cause

pub returns-in_default : goal.returns-in_default
returns-in_default g c =
    stopped
    (begun c.args.form c.args.body.now _ c.args.end (g.I.ByteIn.given c.args.reader.now) (g.O.ByteOut.taken c.args.output.now) (g.O.ByteOut.taken c.send_part.new.writer)
    c.requires refl c.in-Ok.ensures.all c.in-Ok.ensures.untroubled) fault.Memory (λ text. tt)

pub loop-turn-init : goal.loop-turn-init
loop-turn-init g c = record {
  printed = begun c.args.form c.args.body.now c.in-Ok-from_slice.held.items c.args.end (g.I.ByteIn.given c.args.reader.now) (g.O.ByteOut.taken c.args.output.now)
      (g.O.ByteOut.taken c.send_part.new.writer) c.requires c.in-Ok-from_slice.ensures.items c.in-Ok.ensures.all c.in-Ok.ensures.untroubled;
  calls = omega arith;
}

pub returns-in-Ok-true : goal.returns-in-Ok-true
returns-in-Ok-true g c =
    let some = c.loop-turn.invariant.printed in
    ended (reads some c.in-Ok-true.ensures.come) (g.O.ByteOut.taken c.print_last.new.output) c.print_last.result
    (omega (arith, some.grown.idle, c.in-Ok-true.ensures.ended c.in-Ok-true.field-0-test)) (rw c.as_slice.ensures.value at c.print_last.ensures)

pub returns-in_err-print_more-in-Ok-false : goal.returns-in_err-print_more-in-Ok-false
returns-in_err-print_more-in-Ok-false g c =
    turn_ended (reads c.loop-turn.invariant.printed c.in-Ok-false.ensures.come) c.print_more.new.held.items (g.O.ByteOut.taken c.print_more.new.output)
    c.from_residual.result c.in_err-print_more-in-Ok-false.field-0.0 c.from_residual.ensures.1 c.in_err-print_more-in-Ok-false.ensures

pub returns-in-Err-read_more : goal.returns-in-Err-read_more
returns-in-Err-read_more g c =
    read_stopped c.loop-turn.invariant.printed {T = Bool} (g.I.ByteIn.given c.read_more.new.reader) c.in-Err-read_more.fault
    c.in-Err-read_more.ensures.given c.in-Err-read_more.ensures.fault c.in-Err-read_more.ensures.failed

pub loop-turn-preserved : goal.loop-turn-preserved
loop-turn-preserved g c = record {
  printed = turns (reads c.loop-turn.invariant.printed c.in-Ok-false.ensures.come) c.in_ok-print_more-in-Ok-false.ensures;
  calls = omega (arith, c.loop-turn.invariant.calls, c.in-Ok-false.ensures.calls);
}

pub returns : goal.returns
returns g c =
    let all : (g.I.ByteIn.given c.args.reader.now).calls + most_reads ≤ (g.I.ByteIn.given c.loop-turn.reader).calls =
    grind (arith, c.loop-turn.invariant.calls, c.loop-turn-test.false) in
    stopped c.loop-turn.invariant.printed fault.Read (λ text. inr all)
