use Rattle.std.proofs.Common.{rules}
use Rattle.cli_call.proofs.run.close_file.Goals as goal

pub returns-in-Ok : goal.returns-in-Ok
returns-in-Ok g c = record {
  stopped = search rules;
  numbered = search rules;
  closed = search rules;
  ended = search rules;
  failed = search rules;
}
