use Rattle.http_desk.proofs.Common.{inl, refl, station_after}
use Rattle.http_desk.proofs.Joining.{told_bytes, shut_bytes}
use Rattle.http_desk.proofs.serve.told_for.Goals as goal

pub returns-in-Ok-clause-told : goal.returns-in-Ok-clause-told
returns-in-Ok-clause-told g c = λ s kept works sound.
    told_bytes c.args.bytes.now s c.args.at c.in-Ok.wanted c.ask.result (station_after g.K.Keeper.keeping c.ask.new.keeper) c.in-Ok.ensures (c.ask.ensures.asked s kept works sound)

pub returns-in-Ok-clause-shut : goal.returns-in-Ok-clause-shut
returns-in-Ok-clause-shut g c = λ broken.
    shut_bytes c.args.bytes.now c.args.at c.in-Ok.wanted c.ask.result c.in-Ok.ensures (c.ask.ensures.shut broken)

pub returns-in-Err-clause-shut : goal.returns-in-Err-clause-shut
returns-in-Err-clause-shut g c = λ broken. λ s. inl (refl, refl)
