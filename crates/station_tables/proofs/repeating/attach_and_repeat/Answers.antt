use Rattle.station_tables.proofs.Common.{Finds, HasCleanDisk, IsOwn, IsUndone, LiesInOrder, Survives, connection_in, connection_view, ghosts, inl, state}
use Rattle.station_tables.proofs.Again.{left_on, memory_on, named_other, never_named, never_named_clean, refuses_on, repeated_on, sound_on, spared_on, untouched_on}
use Rattle.station_tables.proofs.repeating.attach_and_repeat.Goals as goal

pub returns-in-Ok-clause-repeated : goal.returns-in-Ok-clause-repeated
returns-in-Ok-clause-repeated g c =
    repeated_on _ c.args.input.now c.args.at _ _ (λ k. HasCleanDisk (state g.S.Store (connection_in k))) c.in-Ok.station _ c.in-Ok.ensures.found _ (λ sound. sound.0) c.repeat_on.ensures.sound c.repeat_on.ensures.repeated

pub returns-in-Ok-clause-own : goal.returns-in-Ok-clause-own
returns-in-Ok-clause-own g c =
    let station = ghosts g.row.S g.S.Alter g.S.Alter-dict g.S.Store g.S.Store-dict in
    sound_on _ c.args.input.now c.args.at station.keeping.keeps station.keeping.is_sound (λ k. HasCleanDisk (state g.S.Store (connection_in k))) c.in-Ok.station _ c.in-Ok.ensures.found (IsOwn (state g.S.Store c.args.conn).now.trees) (LiesInOrder g.S.Store)
    (λ clean own lies. (clean, c.in-Ok.ensures.own clean own, lies)) c.repeat_on.ensures.clean c.repeat_on.ensures.still

pub returns-in-Ok-clause-refused : goal.returns-in-Ok-clause-refused
returns-in-Ok-clause-refused g c =
    let station = ghosts g.row.S g.S.Alter g.S.Alter-dict g.S.Store g.S.Store-dict in
    refuses_on _ c.args.input.now c.args.at station.keeping.keeps station.keeping.is_sound (λ k. HasCleanDisk (state g.S.Store (connection_in k))) c.in-Ok.station _ c.in-Ok.ensures.found (λ conn. HasCleanDisk (state g.S.Store conn)) c.repeat_on.ensures.fault

pub returns-in-Ok-clause-leaves : goal.returns-in-Ok-clause-leaves
returns-in-Ok-clause-leaves g c =
    let station = ghosts g.row.S g.S.Alter g.S.Alter-dict g.S.Store g.S.Store-dict in
    left_on _ c.args.input.now c.args.at station.keeping.keeps station.keeping.is_sound (λ k. HasCleanDisk (state g.S.Store (connection_in k))) c.in-Ok.station _ c.in-Ok.ensures.found (λ conn. HasCleanDisk (state g.S.Store conn)) (λ conn. Finds (connection_view g.S.Store conn)) _
    (IsOwn (state g.S.Store c.args.conn).now.trees) (LiesInOrder g.S.Store) (λ clean own lies. (clean, c.in-Ok.ensures.own clean own, lies)) c.repeat_on.ensures.left_clean c.repeat_on.ensures.leaves

pub returns-in-Ok-clause-spares : goal.returns-in-Ok-clause-spares
returns-in-Ok-clause-spares g c =
    let station = ghosts g.row.S g.S.Alter g.S.Alter-dict g.S.Store g.S.Store-dict in
    spared_on _ c.args.input.now c.args.at station.keeping.keeps station.keeping.is_sound (λ k. HasCleanDisk (state g.S.Store (connection_in k))) c.in-Ok.station _ c.in-Ok.ensures.found (λ conn. HasCleanDisk (state g.S.Store conn)) (λ conn. Finds (connection_view g.S.Store conn)) _ c.repeat_on.ensures.left_clean

pub returns-in-Err-clause-leaves : goal.returns-in-Err-clause-leaves
returns-in-Err-clause-leaves g c = λ clean own lies found finds. inl (c.in-Err.ensures.leaves clean found finds)

pub returns-in-Err-clause-spares : goal.returns-in-Err-clause-spares
returns-in-Err-clause-spares g c = λ clean none found finds. c.in-Err.ensures.leaves clean found finds

pub returns-in-Ok-clause-memory : goal.returns-in-Ok-clause-memory
returns-in-Ok-clause-memory g c =
    let station = ghosts g.row.S g.S.Alter g.S.Alter-dict g.S.Store g.S.Store-dict in
    memory_on _ c.args.input.now c.args.at station.keeping.keeps station.keeping.is_sound (λ k. HasCleanDisk (state g.S.Store (connection_in k))) c.in-Ok.station _ c.in-Ok.ensures.found (λ conn. HasCleanDisk (state g.S.Store conn)) (λ conn. Finds (connection_view g.S.Store conn)) _
    (IsOwn (state g.S.Store c.args.conn).now.trees) (LiesInOrder g.S.Store) (λ clean own lies. (clean, c.in-Ok.ensures.own clean own, lies)) c.repeat_on.ensures.left_clean c.repeat_on.ensures.memory

pub returns-in-Err-clause-memory : goal.returns-in-Err-clause-memory
returns-in-Err-clause-memory g c = λ is clean own lies found finds. inl (c.in-Err.ensures.leaves clean found finds)

pub returns-in-Ok-clause-untouched : goal.returns-in-Ok-clause-untouched
returns-in-Ok-clause-untouched g c =
    let station = ghosts g.row.S g.S.Alter g.S.Alter-dict g.S.Store g.S.Store-dict in
    untouched_on _ c.args.input.now c.args.at station.keeping.keeps station.keeping.is_sound (λ k. HasCleanDisk (state g.S.Store (connection_in k))) c.in-Ok.station _ c.in-Ok.ensures.found (λ conn. HasCleanDisk (state g.S.Store conn))
    (λ conn. Survives (state g.S.Store c.args.conn) (state g.S.Store conn) (λ _. ⊥)) c.repeat_on.ensures.left_clean

pub returns-in-Err-clause-untouched : goal.returns-in-Err-clause-untouched
returns-in-Err-clause-untouched g c = λ clean none. c.in-Err.ensures.unwritten_at_err

pub returns-in-Ok-clause-unwritten_at_err : goal.returns-in-Ok-clause-unwritten_at_err
returns-in-Ok-clause-unwritten_at_err g c = never_named (λ conn. Survives (state g.S.Store c.args.conn) (state g.S.Store conn) (λ _. ⊥)) _ c.repeat_on.ensures.fault

pub returns-in-Err-clause-unwritten_at_err : goal.returns-in-Err-clause-unwritten_at_err
returns-in-Err-clause-unwritten_at_err g c = λ named. c.in-Err.ensures.unwritten_at_err

pub returns-in-Ok-clause-unmoved : goal.returns-in-Ok-clause-unmoved
returns-in-Ok-clause-unmoved g c = λ outside. never_named_clean (λ conn. HasCleanDisk (state g.S.Store conn)) (λ conn. IsUndone (state g.S.Store c.args.conn) (state g.S.Store conn)) _ c.repeat_on.ensures.fault

pub returns-in-Err-clause-unmoved : goal.returns-in-Err-clause-unmoved
returns-in-Err-clause-unmoved g c = λ outside clean named. c.in-Err.ensures.unmoved outside clean (named_other _ named)
