use Rattle.stock_tables.proofs.Common.{arith, pos, serial_of, ◌+◌, ◌-◌}
use Rattle.stock_tables.proofs.row.row_of.Goals as goal

pub returns-clause-writable : goal.returns-clause-writable
returns-clause-writable c =
    let run = c.args.run.now in
    record {
      number = omega (arith, c.prefix.ensures.value, c.prefix.ensures.bound);
      holder = c.stored-holder.ensures.back (pos (serial_of run.first + run.count - 1));
    }
