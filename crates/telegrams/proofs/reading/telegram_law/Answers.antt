use Rattle.telegrams.proofs.Meanings.{meant_has_no_fault, faultless_is_meant, one_meaning}
use Rattle.telegrams.proofs.reading.telegram_law.Goals as goal

pub returns-clause-read : goal.returns-clause-read
returns-clause-read c = meant_has_no_fault

pub returns-clause-faultless : goal.returns-clause-faultless
returns-clause-faultless c = faultless_is_meant

pub returns-clause-one : goal.returns-clause-one
returns-clause-one c = one_meaning
