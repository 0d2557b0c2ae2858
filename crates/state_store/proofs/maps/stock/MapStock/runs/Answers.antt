use Rattle.state_store.proofs.Common.{AreStockRuns, Holder, None, Option, holders_of, subst, sym}
use Rattle.state_store.proofs.Below.{below}
use Rattle.state_store.proofs.Ahead.{IsAhead, all_below, below_none, below_some, first_ahead, no_runs, nobody_below, none_from_below, then_ahead}
use Rattle.state_store.proofs.Named.{rises}
use Rattle.state_store.proofs.maps.stock.MapStock.runs.Goals.{in-Some-named+in_ok-put_numbers-in-Some-named, in-None-named}
use Rattle.state_store.proofs.maps.stock.MapStock.runs.Goals as goal

pub loop-key-init : goal.loop-key-init
loop-key-init c =
    let held = holders_of c.args.self.now in
    let es = c.args.self.now.begins.entries in
    let gives = c.into_iter-key-iterator.ensures.into_iter_gives in (
      subst (λ h. AreStockRuns h c.new-rows.result.items) (sym (nobody_below held)) (subst (AreStockRuns (λ q. None)) (sym c.new-rows.ensures.items) no_runs),
      subst (IsAhead held 0 None) (sym gives.0) (first_ahead es (rises es gives.5)),
    )

pub loop-key-preserved : goal.loop-key-preserved
loop-key-preserved c =
    let held = holders_of c.args.self.now in
    let from = c.loop-key.from in
    let key = c.in-Some.key.now in
    let next = c.in-Some.next.now in
    let ahead = c.loop-key.key-iterator in
    let more = c.next.new.self in
    let are = c.loop-key.invariant in (
      elim c.match-named.branch [
        | in-Some-named+in_ok-put_numbers-in-Some-named w ↦
            subst (λ rows. AreStockRuns (below key held) rows.items) (sym w.rows-is)
            (subst (λ h. AreStockRuns h w.put_numbers.new.rows.items) (sym (below_some held from key c.loop-key.named next ahead more c.in-Some.ensures.steps are.1 w.in-Some-named.holder w.in-Some-named.is))
            (w.in_ok-put_numbers-in-Some-named.ensures (below from held) (none_from_below held from) are.0))
        | in-None-named w ↦
            subst (λ rows. AreStockRuns (below key held) rows.items) (sym w.rows-is)
            (subst (λ h. AreStockRuns h c.loop-key.rows.items) (sym (below_none held from key c.loop-key.named next ahead more c.in-Some.ensures.steps are.1 w.in-None-named.is)) are.0)
      ],
      then_ahead held from key c.loop-key.named next ahead more c.in-Some.ensures.steps are.1,
    )

pub returns-in-None-named-2 : goal.returns-in-None-named-2
returns-in-None-named-2 c =
    let held = holders_of c.args.self.now in
    let from = c.loop-key.from in
    let are = c.loop-key.invariant in
    let at_end = subst (λ (o : Option Holder). IsAhead held from o c.loop-key.key-iterator) c.in-None-named-2.is are.1 in
    subst (λ h. AreStockRuns h c.loop-key.rows.items) (all_below held from c.loop-key.key-iterator c.in-None.ensures.steps.0 at_end) are.0
