use Rattle.input_reasons.proofs.LookLaws.{each_once, loaded_of, numbered, read_of}
use Rattle.input_reasons.proofs.tell.look_law.Goals as goal

pub returns-clause-once : goal.returns-clause-once
returns-clause-once c = each_once

pub returns-clause-numbered : goal.returns-clause-numbered
returns-clause-numbered c = numbered

pub returns-clause-read : goal.returns-clause-read
returns-clause-read c = read_of

pub returns-clause-loaded : goal.returns-clause-loaded
returns-clause-loaded c = loaded_of
