use Rattle.std.proofs.Common.{sym, subst}
use Rattle.cli_call.specs.Ended.{HasTold}
use Rattle.cli_call.proofs.ended.tell.Goals as goal

-- the fault is the clock's
pub returns-in-Clock : goal.returns-in-Clock
returns-in-Clock g c = subst (λ e. HasTold e (g.E.ByteOut.taken c.args.errors.now) (g.E.ByteOut.taken c.tell_line.new.errors)) (sym c.in-Clock.is) c.tell_line.ensures
