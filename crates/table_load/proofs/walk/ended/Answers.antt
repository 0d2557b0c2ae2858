use Rattle.table_load.proofs.WalkLemmas.{none_told}
use Rattle.table_load.proofs.walk.ended.Goals as goal

pub returns-then-not-is_held : goal.returns-then-not-is_held
returns-then-not-is_held g c = λ given was. let t = g.T.KeyedRow in none_told (g.F.RowFold.has c.args.beside.now) t.meant t.to_row t.cmp t.IsLawful given c.args.walk c.if-not-is_held.true was
