use Rattle.std.proofs.Common.{Some, None, inl, refl}
use Rattle.station_engine.specs.Serving.{found_is}
use Rattle.table_state.specs.Shown.{finds_what_it_shows}
use Rattle.station_tables.proofs.Restarted.{finds, leaves_own, fits_on, settled_none, opens_on, restored_on, sounds_on}
use Rattle.station_tables.proofs.Looked.{either}
use Rattle.station_tables.proofs.restarting.release_and_restart.Goals as goal

pub returns-clause-restored : goal.returns-clause-restored
returns-clause-restored g c = λ s keeps sound clean left.
    let was = either (c.release-left.ensures.survives.crash clean _ left) in
    restored_on s _ _ _ _ _ _ _ _ _ _ c.attach-opened.ensures.works c.attach-opened.ensures.found c.attach-opened.ensures.own c.attach-opened.ensures.typed (leaves_own g.S.Store c.args.station sound _ was) (λ k clean declared. (clean, declared, sound.2))
    (λ it in_ typed. inl (found_is _ s keeps.0 (λ f seen. finds_what_it_shows _ s (keeps.1 sound).holds f seen) (Some it) (finds _ _ it (_, was, refl) in_ typed)))

pub returns-clause-opens : goal.returns-clause-opens
returns-clause-opens g c = λ s keeps sound clean left.
    let was = either (c.release-left.ensures.survives.crash clean _ left) in
    opens_on _ _ _ _ (_, was, refl) (λ none. settled_none (found_is _ s keeps.0 (λ f seen. finds_what_it_shows _ s (keeps.1 sound).holds f seen) None none))
    (fits_on _ _ _ _ _ c.attach-opened.ensures.own_fit (leaves_own g.S.Store c.args.station sound _ was) sound.2)

pub returns-clause-sound : goal.returns-clause-sound
returns-clause-sound g c = λ sound clean left.
    let was = either (c.release-left.ensures.survives.crash clean _ left) in
    sounds_on _ _ _ _ _ c.attach-opened.ensures.own (leaves_own g.S.Store c.args.station sound _ was) (λ k clean declared. (clean, declared, sound.2))
