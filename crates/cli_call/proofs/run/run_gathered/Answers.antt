use Rattle.station_core.specs.Ends.{taken_of}
use Rattle.cli_call.proofs.ByPrinted.{done_printed, reasons_printed}
use Rattle.cli_call.proofs.run.run_gathered.Goals as goal

pub returns : goal.returns
returns g c =
    let ran = c.run_over-ran in
    record {
      printed = taken_of g.W.ByteOut.taken ran.new.output;
      between = ran.new.errors;
      ran = ran.result;
      ended = c.flush_output-output.result.1;
      service = ran.ensures.service;
      done = rw (← c.new-gathered.ensures) (done_printed _ _ _ _ _ _ _ _ ran.ensures.done);
      explained = rw (← c.new-gathered.ensures) (reasons_printed _ _ _ _ _ _ _ ran.ensures.explained);
      flushed = c.flush_output-output.ensures;
      told = c.end_run.ensures;
    }
