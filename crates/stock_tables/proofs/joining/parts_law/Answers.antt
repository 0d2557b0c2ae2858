use Rattle.stock_tables.proofs.Common.{and_parts, leb-true, ltb-true, serial_of}
use Rattle.stock_tables.proofs.Places.{run_parts}
use Rattle.stock_tables.proofs.Parted.{parted, around, near_holders, touched}
use Rattle.stock_tables.proofs.joining.parts_law.Goals as goal

pub returns-clause-parted : goal.returns-clause-parted
returns-clause-parted c = λ rows are.
    let run = c.args.run.now in
    let parts = run_parts run.count (serial_of run.first) c.requires in
    parted run parts.0 parts.1 0 rows are.stand are.each

pub returns-clause-around : goal.returns-clause-around
returns-clause-around c = λ rows are.
    let run = c.args.run.now in
    let parts = run_parts run.count (serial_of run.first) c.requires in
    around run parts.0 parts.1 rows are.each

pub returns-clause-near : goal.returns-clause-near
returns-clause-near c = λ rows. touched c.args.run.now rows

pub returns-clause-holders : goal.returns-clause-holders
returns-clause-holders c = λ rows are q covered.
    let run = c.args.run.now in
    let parts = run_parts run.count (serial_of run.first) c.requires in
    let within = and_parts _ _ covered in
    near_holders run parts.0 parts.1 rows are q (leb-true _ _ within.0) (ltb-true _ _ within.1)
