use Rattle.table_load.proofs.TableLemmas as lemmas
use Rattle.table_load.proofs.tables.held_once.Goals as goal

pub returns : goal.returns
returns g c = let t = g.T.KeyedRow in record { once = λ db name columns xs ys h k. lemmas.held_once c.args.keys t.to_row t.cmp c.requires.agrees t.IsLawful t.from_row g.met.T.KeyedRow.back db name columns xs ys h k }
