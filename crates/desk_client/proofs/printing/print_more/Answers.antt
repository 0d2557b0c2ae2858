use Rattle.desk_client.proofs.AsItComes.{turned, unturned}
use Rattle.desk_client.proofs.printing.print_more.Goals as goal

pub returns-in_default : goal.returns-in_default
returns-in_default g c = unturned c.args.form c.args.held.now.items (g.O.ByteOut.taken c.args.output.now) c.requires

pub returns : goal.returns
returns g c =
    turned c.args.form c.args.held.now.items c.in-Ok.rest.items c.in-Some.end (g.O.ByteOut.taken c.args.output.now) (g.O.ByteOut.taken c.send_part.new.writer) c.requires
    (rw c.as_slice.ensures.value at c.in-Some.ensures) (rw c.as_slice-2.ensures.value at c.in-Ok.ensures.items)
    (rw c.as_slice-3.ensures.value at c.in-Ok-send_part.ensures.all) c.in-Ok-send_part.ensures.untroubled
