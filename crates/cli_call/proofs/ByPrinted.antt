-- A run over an output is one over what the output took.
use Rattle.std.proofs.Common.{List, ℕ, Bool, Result}
use Rattle.station_days.specs.Date.{LocalMinute}
use Rattle.station_core.specs.Given.{Given}
use Rattle.station_core.specs.Keeping.{Keeping}
use Rattle.cli_run.specs.declared.telling.RunFault.{RunFault}
use Rattle.cli_words.specs.declared.line.LineCommand.{LineCommand}
use Rattle.cli_words.specs.declared.line.LineCommand.TheVariants as command
use Rattle.cli_run.specs.Done.{HasDone, HasGivenReasons}
use Rattle.cli_run.specs.Ends.{reached, Ends, Reached}
use Rattle.cli_call.specs.Ran.{by_printed}

-- where a run has come, by what its output took
abbrev pub printed_at : {K I W E : Type 0} → Ends I W E → K × Reached I W E → K × Reached I Given E
printed_at e at = (at.0, reached at.1.reader (e.printed at.1.output) at.1.errors)

pub done_printed : {K I W E : Type 0} (c : LineCommand) (here : List ℕ) (k : Keeping K) (e : Ends I W E) (at : LocalMinute)
    (old new : K × Reached I W E) (r : Result Bool RunFault) → HasDone c here k e at old new r
    → HasDone c here k (by_printed e) at (printed_at e old) (printed_at e new) r
done_printed command.Init here k e at old new r done = done
done_printed command.Migrate here k e at old new r done = done
done_printed command.Stock here k e at old new r done = done
done_printed (command.Take paths) here k e at old new r done = done
done_printed (command.Act verb key) here k e at old new r done = done
done_printed command.Acts here k e at old new r done = done
done_printed (command.Outbox f) here k e at old new r done = done
done_printed (command.Report l f) here k e at old new r done = done
done_printed (command.Waybill w) here k e at old new r done = done
done_printed (command.Holder w) here k e at old new r done = done
done_printed (command.History w) here k e at old new r done = done
done_printed (command.Read path) here k e at old new r done = done
done_printed (command.Serve port count) here k e at old new r done = done

pub reasons_printed : {K I W E : Type 0} (c : LineCommand) (k : Keeping K) (e : Ends I W E) (at : LocalMinute)
    (old new : K × Reached I W E) (r : Result Bool RunFault) → HasGivenReasons c k e at old new r
    → HasGivenReasons c k (by_printed e) at (printed_at e old) (printed_at e new) r
reasons_printed command.Init k e at old new r given = given
reasons_printed command.Migrate k e at old new r given = given
reasons_printed command.Stock k e at old new r given = given
reasons_printed (command.Take paths) k e at old new r given = given
reasons_printed (command.Act verb key) k e at old new r given = given
reasons_printed command.Acts k e at old new r given = given
reasons_printed (command.Outbox f) k e at old new r given = given
reasons_printed (command.Report l f) k e at old new r given = given
reasons_printed (command.Waybill w) k e at old new r given = given
reasons_printed (command.Holder w) k e at old new r given = given
reasons_printed (command.History w) k e at old new r given = given
reasons_printed (command.Read path) k e at old new r given = given
reasons_printed (command.Serve port count) k e at old new r given = given
