use Rattle.std.proofs.Common.{Some, None, refl}
use Rattle.station_tables.proofs.Restarted.{finds, leaves_own, fits_on, none_after, opens_on, restored_on, sounds_on}
use Rattle.station_tables.proofs.restarting.act_and_restart.Goals as goal

pub returns-clause-restored : goal.returns-clause-restored
returns-clause-restored g c = λ s keeps works sound left.
    restored_on s _ _ _ _ _ _ _ _ _ _ c.attach-opened.ensures.works c.attach-opened.ensures.found c.attach-opened.ensures.own c.attach-opened.ensures.typed (leaves_own g.S.Store c.act_all-given.new.keeper sound _ left) (λ k clean declared. (clean, declared, sound.2))
    (λ it in_ typed. c.act_all-given.ensures.leaves s keeps works sound (Some it) (finds _ _ it (_, left, refl) in_ typed))

pub returns-clause-opens : goal.returns-clause-opens
returns-clause-opens g c = λ s keeps works sound left.
    opens_on _ _ _ _ (_, left, refl) (λ none. none_after s _ _ _ (c.act_all-given.ensures.leaves s keeps works sound None none))
    (fits_on _ _ _ _ _ c.attach-opened.ensures.own_fit (leaves_own g.S.Store c.act_all-given.new.keeper sound _ left) sound.2)

pub returns-clause-sound : goal.returns-clause-sound
returns-clause-sound g c = λ sound left.
    sounds_on _ _ _ _ _ c.attach-opened.ensures.own (leaves_own g.S.Store c.act_all-given.new.keeper sound _ left) (λ k clean declared. (clean, declared, sound.2))

pub returns-clause-still : goal.returns-clause-still
returns-clause-still g c = λ sound clean. c.act_all-given.ensures.premise.still sound clean
