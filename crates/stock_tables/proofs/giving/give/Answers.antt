use Rattle.stock_tables.proofs.Common.{cleared, restocked, written}
use Rattle.stock_tables.proofs.Restocking.{ahead_of, after_of, runs_are, around_is, near_touch, there_are, restocked_is}
use Rattle.stock_tables.proofs.giving.give.Goals as goal

pub returns-clause-done : goal.returns-clause-done
returns-clause-done g c = λ before t showing stocked are sound.
    let run = c.args.run.now in
    let near = c.args.near.now in
    let rows = c.without_neighbours-near.result.now in
    let cut = c.without_neighbours-near.ensures in
    let to = c.args.to.now in
    let new = written c.in-Some.new in
    let is = are (c.clear.ensures.survives.sound (c.put_all.ensures.survives.sound sound)) in
    let ahead = ahead_of run c.requires t stocked near is rows cut in
    let after = after_of run c.requires t stocked near is rows cut in
    let order = runs_are run c.requires t stocked near is rows cut in
    let around = around_is run c.requires t stocked near is rows cut in
    let touch = near_touch run c.requires t stocked near is rows cut in
    let runs = c.in-Some.ensures.runs ahead after order around touch in
    let writable = c.in_ok-put_all.ensures.writable in
    restocked_is run c.requires t stocked near is rows cut new to runs writable (c.in-Some.ensures.assigned ahead after order around touch)
    (g.S.TableStore.view c.put_all.new.store) before
    (c.in_ok-put_all.ensures.done before (restocked (cleared new rows t.stock) t) (c.in_ok-clear.ensures.done before t showing) (λ _. there_are run c.requires t stocked near is rows cut new to runs writable) sound)
