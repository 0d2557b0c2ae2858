use Rattle.station_files.proofs.Common.{arith, doubt, ◌≤◌}
use Rattle.station_files.proofs.opening.inside.Goals as goal

pub returns : goal.returns
returns g c =
    let v = g.S.Store.view in
    let named = c.into_store.result in
    let gave = c.into_store.ensures in
    let falls : doubt (v c.args.conn.store.store).is_clean ≤ doubt (v named.store).is_clean = gave.quiet.clean in
    rw c.into_inner.ensures (record {
      closed = record {
        numbers = named.numbers.items;
        few = named.inside.apart.few;
        low = named.inside.apart.low;
        clean = λ none. omega (arith, falls, none);
        outcomes = gave.quiet.outcomes;
        sound = gave.sound;
      };
      committed = λ none on. let k = gave.undone.kept none in (k.was_open on, k.committed on);
    })
