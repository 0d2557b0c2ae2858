use Rattle.station_rows.proofs.Common.{state}
use Rattle.station_rows.proofs.BuildLemmas.{reads_pieces}
use Rattle.station_rows.proofs.builds.PiecesOnRead.run.Goals as goal

pub returns-clause-read : goal.returns-clause-read
returns-clause-read g c clean was =
    reads_pieces (state g.S.Store c.args.conn.now) (state g.S.Store c.shown_pieces_on.new.conn) c.in_ok-rows.rows.items _
    (c.in_ok-rows.ensures.read clean was) c.read_all_pieces.result (rw c.deref.ensures.value at c.read_all_pieces.ensures)
