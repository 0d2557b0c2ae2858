use Rattle.http_desk.proofs.Common.{Err, IsUnfinished, List, added, ap, false, inl, refl, station_after, subst, sym, ℕ, ◌++◌, ◌∙◌, ◌≡◌}
use Rattle.http_desk.specs.declared.asking.Response.TheVariants as told
use Rattle.http_desk.proofs.Answered.{served_all, unavailable_all, reopen_all, shut_all}
use Rattle.http_desk.proofs.Begun.{begun}
use Rattle.http_desk.proofs.Joining.{added_is}
use Rattle.http_desk.proofs.serve.serve_one.Goals as goal

pub returns-in-Ok-clause-served : goal.returns-in-Ok-clause-served
returns-in-Ok-clause-served g c = λ s kept works sound.
    let bytes : List ℕ = c.as_slice.result.now in
    let before = g.I.ByteIn.given c.args.reader.now in
    let now = g.I.ByteIn.given c.read_request.new.reader in
    let come : added before now ≡ bytes = added_is before now bytes (c.in-Ok.ensures.come ∙ ap (λ (b : List ℕ). before.bytes ++ b) (sym c.as_slice.ensures.value)) in
    served_all g.K.Keeper.keeping s c.args.at (added before now) bytes come c.told_for-told.new.keeper c.write_told.new.keeper c.write_told.ensures.reads sound (g.O.ByteOut.taken c.args.writer.now) (g.O.ByteOut.taken c.write_told.new.writer)
    c.told_for-told.result c.write_told.result (c.told_for-told.ensures.told s kept works (c.write_told.ensures.reads.premise.sound sound)) (c.write_told.ensures.written s)

pub returns-in-Ok-clause-told : goal.returns-in-Ok-clause-told
returns-in-Ok-clause-told g c = λ s kept works sound.
    let bytes : List ℕ = c.as_slice.result.now in
    let before = g.I.ByteIn.given c.args.reader.now in
    let now = g.I.ByteIn.given c.read_request.new.reader in
    let come : added before now ≡ bytes = added_is before now bytes (c.in-Ok.ensures.come ∙ ap (λ (b : List ℕ). before.bytes ++ b) (sym c.as_slice.ensures.value)) in
    reopen_all g.K.Keeper.keeping s c.args.at (added before now) bytes come c.told_for-told.new.keeper c.write_told.new.keeper c.write_told.ensures.reads sound (g.O.ByteOut.taken c.args.writer.now) (g.O.ByteOut.taken c.write_told.new.writer)
    c.told_for-told.result c.write_told.result (c.told_for-told.ensures.told s kept works (c.write_told.ensures.reads.premise.sound sound)) (c.write_told.ensures.written s)
    (c.told_for-told.ensures.tells works)

pub returns-in-Ok-clause-unavailable : goal.returns-in-Ok-clause-unavailable
returns-in-Ok-clause-unavailable g c = λ s kept works sound begins.
    let bytes : List ℕ = c.as_slice.result.now in
    let before = g.I.ByteIn.given c.args.reader.now in
    let now = g.I.ByteIn.given c.read_request.new.reader in
    let come : added before now ≡ bytes = added_is before now bytes (c.in-Ok.ensures.come ∙ ap (λ (b : List ℕ). before.bytes ++ b) (sym c.as_slice.ensures.value)) in
    unavailable_all g.K.Keeper.keeping s c.args.at (added before now) bytes come c.told_for-told.new.keeper c.write_told.new.keeper c.write_told.ensures.reads sound (g.O.ByteOut.taken c.args.writer.now) (g.O.ByteOut.taken c.write_told.new.writer)
    c.told_for-told.result c.write_told.result (c.told_for-told.ensures.told s kept works (c.write_told.ensures.reads.premise.sound sound)) (c.write_told.ensures.written s) begins

pub returns-in-Err-Memory-clause-served : goal.returns-in-Err-Memory-clause-served
returns-in-Err-Memory-clause-served g c = λ s kept works sound.
    let before = g.I.ByteIn.given c.args.reader.now in
    let now = g.I.ByteIn.given c.read_request.new.reader in
    served_all g.K.Keeper.keeping s c.args.at (added before now) (added before now) refl c.args.keeper.now c.write_told-in-Err-Memory.new.keeper c.write_told-in-Err-Memory.ensures.reads sound (g.O.ByteOut.taken c.args.writer.now) (g.O.ByteOut.taken c.write_told-in-Err-Memory.new.writer)
    (told.Unavailable false) c.write_told-in-Err-Memory.result (inl (works, kept)) (c.write_told-in-Err-Memory.ensures.written s)

pub returns-in-Err-Memory-clause-told : goal.returns-in-Err-Memory-clause-told
returns-in-Err-Memory-clause-told g c = λ s kept works sound.
    let before = g.I.ByteIn.given c.args.reader.now in
    let now = g.I.ByteIn.given c.read_request.new.reader in
    reopen_all g.K.Keeper.keeping s c.args.at (added before now) (added before now) refl c.args.keeper.now c.write_told-in-Err-Memory.new.keeper c.write_told-in-Err-Memory.ensures.reads sound (g.O.ByteOut.taken c.args.writer.now) (g.O.ByteOut.taken c.write_told-in-Err-Memory.new.writer)
    (told.Unavailable false) c.write_told-in-Err-Memory.result (inl (works, kept)) (c.write_told-in-Err-Memory.ensures.written s)
    (sym works)

pub returns-in-Err-Memory-clause-unavailable : goal.returns-in-Err-Memory-clause-unavailable
returns-in-Err-Memory-clause-unavailable g c = λ s kept works sound begins.
    let before = g.I.ByteIn.given c.args.reader.now in
    let now = g.I.ByteIn.given c.read_request.new.reader in
    unavailable_all g.K.Keeper.keeping s c.args.at (added before now) (added before now) refl c.args.keeper.now c.write_told-in-Err-Memory.new.keeper c.write_told-in-Err-Memory.ensures.reads sound (g.O.ByteOut.taken c.args.writer.now) (g.O.ByteOut.taken c.write_told-in-Err-Memory.new.writer)
    (told.Unavailable false) c.write_told-in-Err-Memory.result (inl (works, kept)) (c.write_told-in-Err-Memory.ensures.written s) begins

pub returns-in-Ok-clause-begun : goal.returns-in-Ok-clause-begun
returns-in-Ok-clause-begun g c = λ s kept works sound.
    let new = c.write_told.new.keeper in
    begun s c.args.at (added (g.I.ByteIn.given c.args.reader.now) (g.I.ByteIn.given c.read_request.new.reader)) (g.O.ByteOut.taken c.args.writer.now) (g.O.ByteOut.taken c.write_told.new.writer)
    (station_after g.K.Keeper.keeping new) (λ t is found finds. g.met.K.Keeper.settled new t is sound found finds)
    c.write_told.result (λ is. absurd (c.write_told.ensures.read is)) (returns-in-Ok-clause-served g c s kept works sound)

pub returns-in-Err-Memory-clause-begun : goal.returns-in-Err-Memory-clause-begun
returns-in-Err-Memory-clause-begun g c = λ s kept works sound.
    let new = c.write_told-in-Err-Memory.new.keeper in
    begun s c.args.at (added (g.I.ByteIn.given c.args.reader.now) (g.I.ByteIn.given c.read_request.new.reader)) (g.O.ByteOut.taken c.args.writer.now) (g.O.ByteOut.taken c.write_told-in-Err-Memory.new.writer)
    (station_after g.K.Keeper.keeping new) (λ t is found finds. g.met.K.Keeper.settled new t is sound found finds)
    c.write_told-in-Err-Memory.result (λ is. absurd (c.write_told-in-Err-Memory.ensures.read is)) (returns-in-Err-Memory-clause-served g c s kept works sound)

pub returns-in-Ok-clause-same : goal.returns-in-Ok-clause-same
returns-in-Ok-clause-same g c = λ broken.
    let same = c.told_for-told.ensures.same broken in
    c.write_told.ensures.same (ap g.K.Keeper.keeping.is_broken same ∙ broken) ∙ same

pub returns-in-Ok-clause-reopen : goal.returns-in-Ok-clause-reopen
returns-in-Ok-clause-reopen g c = λ broken.
    let bytes : List ℕ = c.as_slice.result.now in
    let before = g.I.ByteIn.given c.args.reader.now in
    let now = g.I.ByteIn.given c.read_request.new.reader in
    let come : added before now ≡ bytes = added_is before now bytes (c.in-Ok.ensures.come ∙ ap (λ (b : List ℕ). before.bytes ++ b) (sym c.as_slice.ensures.value)) in
    shut_all c.args.at (added before now) bytes come (g.O.ByteOut.taken c.args.writer.now) (g.O.ByteOut.taken c.write_told.new.writer) c.told_for-told.result c.write_told.result
    (c.told_for-told.ensures.shut broken) (c.write_told.ensures.shut (ap g.K.Keeper.keeping.is_broken (c.told_for-told.ensures.same broken) ∙ broken))

pub returns-in-Err-Memory-clause-reopen : goal.returns-in-Err-Memory-clause-reopen
returns-in-Err-Memory-clause-reopen g c = λ broken.
    let before = g.I.ByteIn.given c.args.reader.now in
    let now = g.I.ByteIn.given c.read_request.new.reader in
    shut_all c.args.at (added before now) (added before now) refl (g.O.ByteOut.taken c.args.writer.now) (g.O.ByteOut.taken c.write_told-in-Err-Memory.new.writer)
    (told.Unavailable false) c.write_told-in-Err-Memory.result (λ s. inl (refl, refl)) (c.write_told-in-Err-Memory.ensures.shut broken)

pub returns-in-Err-Read-clause-unfinished : goal.returns-in-Err-Read-clause-unfinished
returns-in-Err-Read-clause-unfinished g c = λ _.
    let before = g.I.ByteIn.given c.args.reader.now in
    let now = g.I.ByteIn.given c.read_request.new.reader in
    let bytes : List ℕ = c.read_request.new.bytes.items in
    let came : IsUnfinished bytes × (now.bytes ≡ before.bytes ++ bytes) = c.in-Err-Read.ensures.unfinished (ap Err c.in-Err-Read.field-0-is) in
    subst IsUnfinished (sym (added_is before now bytes came.1)) came.0
