use Rattle.carried_station.proofs.Unfinished.{same_shed, same_missing, same_expected}
use Rattle.carried_station.proofs.laws.unfinished_law.Goals as goal

pub returns-clause-shed : goal.returns-clause-shed
returns-clause-shed c = same_shed

pub returns-clause-missing : goal.returns-clause-missing
returns-clause-missing c = λ s day choice w may. same_missing s day choice may w

pub returns-clause-expected : goal.returns-clause-expected
returns-clause-expected c = λ s day choice f w may. same_expected s day choice may f w
