-- The messages up to a number are confirmed in the station's row.
use Rattle.row_codec.proofs.Common.{Bool, Confirm, List, Means, Some, State, Station, Tables, [], airport_in, and_from, and_parts, ap, cond, confirmed_in, confirming, int_eq, is_airport, is_count, is_station, meaning_of, on_cargo, pos, refl, station_id, subst, sym, true, true≢false, update_where, written, ℕ, ◌&&◌, ◌∙◌, ◌∷◌, ◌≡◌}

module _ (upto : ℕ) where
  abbrev confirmed : List Station → List Station
  confirmed rows = update_where (λ (s : Station). int_eq (station_id s) (pos 1)) (λ (s : Station). let one : Station = record s { confirmed = pos upto } in one) rows

  abbrev put : Bool → Station → Station
  put here row = cond here (record row { confirmed = pos upto }) row

  record IsConfirmed (old new : List Station) : Type 0 where
    fits : is_station new ≡ true
    airport : airport_in new ≡ airport_in old
    upto_is : confirmed_in new ≡ upto

  one_row : (row : Station) → is_count (pos upto) ≡ true → is_station (row ∷ []) ≡ true → IsConfirmed (row ∷ []) (confirmed (row ∷ []))
  one_row row counts h =
      let x = and_parts (int_eq row.id (pos 1) && is_airport row.airport && int_eq row.version (pos 2)) (is_count row.confirmed) h in
      let first = (and_parts _ _ (and_parts _ _ x.0).0).0 in
      subst (λ b. IsConfirmed (row ∷ []) (put b row ∷ [])) (sym first)
      (record { fits = and_from (int_eq row.id (pos 1) && is_airport row.airport && int_eq row.version (pos 2)) (is_count (pos upto)) x.0 counts; airport = refl; upto_is = refl })

  is_confirmed : (rows : List Station) → is_count (pos upto) ≡ true → is_station rows ≡ true → IsConfirmed rows (confirmed rows)
  is_confirmed [] counts h = absurd (true≢false (sym h))
  is_confirmed (row ∷ []) counts h = one_row row counts h
  is_confirmed (row ∷ other ∷ rows) counts h = absurd (true≢false (sym h))

  pub confirms : (t : Tables) (s : State) (text : List ℕ) → is_count (pos upto) ≡ true → Means t (Some s) → Means (confirming (pos upto) t) (Some (on_cargo (written text (Confirm upto)) s))
  confirms t s text counts means =
      let c = is_confirmed t.stations counts means.0.station in (
        assumption (c, means),
        (λ i. record (meaning_of t) { cargo = record (meaning_of t).cargo { here = c.airport i; confirmed = c.upto_is i } }) ∙ ap (on_cargo (written text (Confirm upto))) means.1,
      )
