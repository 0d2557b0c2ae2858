use Rattle.station_files.proofs.Common.{ap, arith, err_from_is_err_and, inl, inr, no_doubt, own_trees, settled_at, sym, ◌∙◌}
use Rattle.sqlite_trees.proofs.Doubt.{clean_of as sure}
use Rattle.sqlite_store.specs.FileStore.{state as store_state, view as shown}
use Rattle.station_files.proofs.OwnFiles.{finds_own, reads_own}
use Rattle.station_files.proofs.beside.open_beside.Goals as goal

pub connect_own-requires-clause-fresh : goal.connect_own-requires-clause-fresh
connect_own-requires-clause-fresh g c none = (c.in_ok-store.ensures.read (sure _ none)).fresh

pub returns-in_err-store-clause-spared : goal.returns-in_err-store-clause-spared
returns-in_err-store-clause-spared g c =
    let p = err_from_is_err_and c.from_residual.result c.from_residual.ensures.1 in
    rw (p.1, p.2) c.in_err-store.ensures.spared

pub returns-in-Ok-clause-found : goal.returns-in-Ok-clause-found
returns-in-Ok-clause-found g c now =
    let store = c.in_ok-store.store in
    let e = c.in-Ok.ensures in
    let it = c.in_ok-store.ensures.read (sure (shown store).is_clean (omega (arith, e.clean, now))) in
    let opens = e.opens now in
    finds_own c.args.files c.args.objects.now c.args.made store it c.in_ok-store.numbers.items e.few e.low (e.beside now) _
    (sym (ap (λ d. d.trees) opens.0.clean) ∙ e.trees now)

pub returns-in-Ok-clause-plain : goal.returns-in-Ok-clause-plain
returns-in-Ok-clause-plain g c now =
    c.in-Ok.ensures.sums now ∙ c.in_ok-store.ensures.plain (sure (shown c.in_ok-store.store).is_clean (omega (arith, c.in-Ok.ensures.clean, now)))

pub returns-in-Ok-clause-guarded : goal.returns-in-Ok-clause-guarded
returns-in-Ok-clause-guarded g c now =
    c.in-Ok.ensures.shield (c.in_ok-store.ensures.guarded (sure (shown c.in_ok-store.store).is_clean (omega (arith, c.in-Ok.ensures.clean, now))))

pub returns-in-Err-clause-spared : goal.returns-in-Err-clause-spared
returns-in-Err-clause-spared g c late db may =
    let store = c.in_ok-store.store in
    let objects = c.args.objects.now in
    let made = c.args.made in
    let clean = no_doubt _ late in
    let it = c.in_ok-store.ensures.read (sure (shown store).is_clean (omega (arith, clean, c.in-Err.ensures.clean_left))) in
    let whole = λ (back : _) (may : _). settled_at store g.met.D.Disk.seen_may_stay back it.by.is_open may ∙ sym it.fresh.clean in (
      it.by.size,
      (store_state store).committed,
      it.by.found,
      elim (c.in-Err.ensures.left clean db may) [
        | inl was ↦ inl (it.wanted, it.by.ours, whole db was ∙ it.by.reads)
        | inr own ↦ inr (
          own.0,
          own.3 ∙ ap (own_trees c.in_ok-store.numbers.items) (whole own.1 own.2)
              ∙ reads_own c.args.files objects made store it c.in_ok-store.numbers.items own.4 own.5 own.6,
        )
      ],
    )
