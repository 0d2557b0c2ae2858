use Rattle.imp_fields.proofs.ShareLemmas.{share_leaves, share_heavy, share_whole}
use Rattle.imp_fields.proofs.laws.share_law.Goals as goal

pub returns-clause-whole : goal.returns-clause-whole
returns-clause-whole c = share_whole

pub returns-clause-part : goal.returns-clause-part
returns-clause-part c = share_heavy

pub returns-clause-within : goal.returns-clause-within
returns-clause-within c = λ pieces tenths part heavy within. (share_leaves pieces tenths part heavy within).0

pub returns-clause-rest : goal.returns-clause-rest
returns-clause-rest c = λ pieces tenths part heavy within. (share_leaves pieces tenths part heavy within).1
