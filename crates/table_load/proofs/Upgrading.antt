-- One statement after another.
use Rattle.table_load.proofs.Common.{Database, Edits, IsInside, IsInsideOld, IsKeyedBy, IsMoved, IsOldStation, List, MeansUpgraded, Shows, State, Tables, Trees, [], ap, ascending-map, filling, fold, insert_by, map, old_tables_of, old_waybill_id, puts_past, raised, refl, subst, sym, true, undated, upgraded, waybill_id, ℤ, ◌<ℤ◌, ◌∙◌, ◌∷◌, ◌≡◌}

-- rows that come in the order of their keys
in_order : {X : Type 0} (key : X → ℤ) (xs : List X) → IsKeyedBy key xs → fold (insert_by key) [] xs ≡ xs
in_order key [] up = refl
in_order key (x ∷ xs) up = puts_past key xs x [] up.0 ∙ ap (λ l. x ∷ l) (in_order key xs up.1)

fills : (t : Tables) → t.waybills ≡ [] → IsKeyedBy old_waybill_id t.old_waybills → filling t ≡ upgraded t
fills t none up =
    let news = map undated t.old_waybills in
    let same : fold (insert_by waybill_id) t.waybills news ≡ news =
    ap (λ xs. fold (insert_by waybill_id) xs news) none ∙ in_order waybill_id news (ascending-map (λ a b. waybill_id a <ℤ waybill_id b) undated t.old_waybills up) in
    ap (λ ws. record t { stations = raised t.stations; old_waybills = []; waybills = ws }) same

module _ (old mid : State) where
  pub now_inside : (now : Tables) → IsMoved old mid now → IsInside mid
  now_inside now h = record { begun = h.shown.mode; station = h.station }

  pub still_inside : (change : Tables → Tables) → Edits old mid change → IsInside mid
  still_inside change h = record { begun = h.shown.mode; station = h.station }

  module _ (new : State) where
    then_shown : Shows old mid mid.now old.committed true → Shows mid new new.now mid.committed true → Shows old new new.now old.committed true
    then_shown one two = record { was_open = one.was_open; is_open = two.is_open; now_is = refl; committed_is = two.committed_is ∙ one.committed_is; mode = two.mode }

    pub moves_on : IsInsideOld old → IsMoved old mid (old_tables_of old.now.trees) → Edits mid new filling → IsMoved old new (upgraded (old_tables_of old.now.trees))
    moves_on was added filled = record {
      station = filled.station;
      tables = filled.tables ∙ ap filling added.tables ∙ fills (old_tables_of old.now.trees) refl was.station.typed.1.0.keyed;
      shown = then_shown added.shown filled.shown;
    }

  -- a transaction was begun
  module _ (h : Shows old mid old.now old.committed true) where
    begun_old : IsOldStation old.now → IsInsideOld mid
    begun_old was = record { begun = h.mode; station = subst IsOldStation (sym h.now_is) was }

    pub means_upgraded : (db : Trees) → (IsInsideOld mid → MeansUpgraded mid.now.trees db) → IsOldStation old.now → MeansUpgraded old.now.trees db
    means_upgraded db means was = subst (λ (d : Database). MeansUpgraded d.trees db) h.now_is (means (begun_old was))
