use Rattle.desk_client.proofs.Common.{most_row_bytes}
use Rattle.desk_client.proofs.Asking.{rows_read}
use Rattle.desk_client.proofs.Grown.{come_more}
use Rattle.desk_client.proofs.ask.read_rows.Goals as goal

pub returns-then-branch : goal.returns-then-branch
returns-then-branch g c =
    let old = g.I.ByteIn.given c.args.reader.now in
    let mid = g.I.ByteIn.given c.loop-turn.reader in
    let new = g.I.ByteIn.given c.read_more.new.reader in
    let came = c.read_more.new.bytes.items in
    rows_read c.args.form old new came c.understood.result
    (come_more most_row_bytes old mid new c.loop-turn.bytes.items came c.loop-turn.invariant.grown c.in_ok-read_more.ensures.come
    (c.in_ok-read_more.ensures.ended c.if-branch.true)) c.understood.ensures
