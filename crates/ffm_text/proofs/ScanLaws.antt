-- One more line of a manifest was seen.
use Rattle.ffm_text.proofs.Common.{AllZip, AreCargo, HasSpans, IsCargo, List, MatchBool-at_false, MatchBool-at_true, None, Ok, Option, Some, Unloaded, [], and_left, and_right, ap, append-nil, append_assoc, cases_Bool, cond-false, cond-true, cons_option, consignment_of, drop, false, filter, filter-append, filter_map, filter_map-append, inl, inr, is_cargo_line, last_or, last_point, map, map-append, may_follow_point, not-true, not_from_false, refl, subst, sym, take, true, unloaded_of, unloading_point, ℕ, ◌++◌, ◌∙◌, ◌∷◌, ◌≡◌}
use Rattle.ffm_text.specs.declared.FfmLine.{FfmLine}
use Rattle.ffm_text.proofs.Laws.{match_true, match_false}

-- ---- what the lines are

cargo_more : (above below : List (List ℕ)) (cargo : List Unloaded) (line : List ℕ) (u : Unloaded) → IsCargo above below cargo → is_cargo_line line ≡ true
    → consignment_of line ≡ Ok u.shipment → last_point (above ++ below) ≡ Some u.unload → IsCargo above (below ++ line ∷ []) (cargo ++ u ∷ [])
cargo_more above [] [] line u h is read point =
    match_true (is_cargo_line line) _ _ is (read, ap last_point (sym (append-nil above)) ∙ point, tt)
cargo_more above [] (v ∷ cargo) line u h is read point = absurd h
cargo_more above (l ∷ below) [] line u h is read point =
    match_false (is_cargo_line l) _ _ (not-true _ h.0)
    (cargo_more (above ++ l ∷ []) below [] line u h.1 is read (ap last_point (append_assoc above (l ∷ []) below) ∙ point))
cargo_more above (l ∷ below) (v ∷ cargo) line u h is read point =
    let joined = ap last_point (append_assoc above (l ∷ []) below) ∙ point in
    elim (cases_Bool (is_cargo_line l)) [
      | inl e ↦
          let parts = MatchBool-at_true _ _ e h in
          match_true (is_cargo_line l) _ _ e (parts.0, parts.1, cargo_more (above ++ l ∷ []) below cargo line u parts.2 is read joined)
      | inr e ↦ match_false (is_cargo_line l) _ _ e (cargo_more (above ++ l ∷ []) below (v ∷ cargo) line u (MatchBool-at_false _ _ e h) is read joined)
    ]

other_more : (above below : List (List ℕ)) (cargo : List Unloaded) (line : List ℕ) → IsCargo above below cargo → is_cargo_line line ≡ false → IsCargo above (below ++ line ∷ []) cargo
other_more above [] [] line h is = (not_from_false _ is, tt)
other_more above [] (v ∷ cargo) line h is = absurd h
other_more above (l ∷ below) [] line h is = (h.0, other_more (above ++ l ∷ []) below [] line h.1 is)
other_more above (l ∷ below) (v ∷ cargo) line h is =
    elim (cases_Bool (is_cargo_line l)) [
      | inl e ↦
          let parts = MatchBool-at_true _ _ e h in
          match_true (is_cargo_line l) _ _ e (parts.0, parts.1, other_more (above ++ l ∷ []) below cargo line parts.2 is)
      | inr e ↦ match_false (is_cargo_line l) _ _ e (other_more (above ++ l ∷ []) below (v ∷ cargo) line (MatchBool-at_false _ _ e h) is)
    ]

zip_more : {A B : Type 0} (R : A → B → Type 0) (xs : List A) (ys : List B) (x : A) (y : B) → AllZip R xs ys → R x y → AllZip R (xs ++ x ∷ []) (ys ++ y ∷ [])
zip_more R [] [] x y h r = (r, tt)
zip_more R [] (v ∷ ys) x y h r = absurd h
zip_more R (u ∷ xs) [] x y h r = absurd h
zip_more R (u ∷ xs) (v ∷ ys) x y h r = (h.0, zip_more R xs ys x y h.1 r)

pub take_cargo : (lines : List (List ℕ)) (cargo : List FfmLine) (line : List ℕ) (l : FfmLine) → AreCargo lines cargo → is_cargo_line line ≡ true
    → consignment_of line ≡ Ok (unloaded_of l).shipment → last_point lines ≡ Some l.unload → HasSpans line l.consignment → AreCargo (lines ++ line ∷ []) (cargo ++ l ∷ [])
take_cargo lines cargo line l h is read point spans =
    let lists : map unloaded_of (cargo ++ l ∷ []) ≡ map unloaded_of cargo ++ unloaded_of l ∷ [] = map-append unloaded_of cargo (l ∷ []) in
    let more = cargo_more [] lines (map unloaded_of cargo) line (unloaded_of l) h.read is read point in
    let found : filter is_cargo_line (lines ++ line ∷ []) ≡ filter is_cargo_line lines ++ line ∷ [] =
    filter-append is_cargo_line lines (line ∷ []) ∙ ap (λ ls. filter is_cargo_line lines ++ ls) (cond-true _ _ _ is) in
    let told : map (λ (m : FfmLine). m.consignment) (cargo ++ l ∷ []) ≡ map (λ (m : FfmLine). m.consignment) cargo ++ l.consignment ∷ [] = map-append (λ (m : FfmLine). m.consignment) cargo (l ∷ []) in
    record {
      read = subst (IsCargo [] (lines ++ line ∷ [])) (sym lists) more;
      spans = subst (λ ls. AllZip HasSpans ls (map (λ (m : FfmLine). m.consignment) (cargo ++ l ∷ []))) (sym found)
          (subst (AllZip HasSpans (filter is_cargo_line lines ++ line ∷ [])) (sym told)
          (zip_more HasSpans (filter is_cargo_line lines) (map (λ (m : FfmLine). m.consignment) cargo) line l.consignment h.spans spans));
    }

pub pass_line : (lines : List (List ℕ)) (cargo : List FfmLine) (line : List ℕ) → AreCargo lines cargo → is_cargo_line line ≡ false → AreCargo (lines ++ line ∷ []) cargo
pass_line lines cargo line h is =
    let found : filter is_cargo_line (lines ++ line ∷ []) ≡ filter is_cargo_line lines =
    filter-append is_cargo_line lines (line ∷ []) ∙ ap (λ ls. filter is_cargo_line lines ++ ls) (cond-false _ _ _ is) ∙ append-nil (filter is_cargo_line lines) in
    record {
      read = other_more [] lines (map unloaded_of cargo) line h.read is;
      spans = subst (λ ls. AllZip HasSpans ls (map (λ (m : FfmLine). m.consignment) cargo)) (sym found) h.spans;
    }

last_or_push : {A : Type 0} (o : Option A) (xs : List A) (x : A) → last_or o (xs ++ x ∷ []) ≡ Some x
last_or_push o [] x = refl
last_or_push o (y ∷ xs) x = last_or_push (Some y) xs x

point_after : (lines : List (List ℕ)) (line : List ℕ) (o : Option (List ℕ)) → unloading_point line ≡ o
    → last_point (lines ++ line ∷ []) ≡ last_or None (filter_map unloading_point lines ++ cons_option o [])
point_after lines line o e = ap (last_or None) (filter_map-append unloading_point lines (line ∷ []) ∙ ap (λ p. filter_map unloading_point lines ++ cons_option p []) e)

pub new_point : (lines : List (List ℕ)) (line point : List ℕ) → unloading_point line ≡ Some point → last_point (lines ++ line ∷ []) ≡ Some point
new_point lines line point e = point_after lines line (Some point) e ∙ last_or_push None (filter_map unloading_point lines) point

pub same_point : (lines : List (List ℕ)) (line : List ℕ) → unloading_point line ≡ None → last_point (lines ++ line ∷ []) ≡ last_point lines
same_point lines line e = point_after lines line None e ∙ ap (last_or None) (append-nil (filter_map unloading_point lines))

pub no_point : (line rest : List ℕ) → rest ≡ drop 3 line → may_follow_point rest ≡ false → None ≡ unloading_point line
no_point line rest e h =
    sym (cond-false _ (Some (take 3 line)) None (and_left _ _ (and_right _ _ (ap may_follow_point (sym e) ∙ h))))
