-- Lines are a part of a manifest exactly where they have no fault, and then one part only.
use Rattle.ffm_text.proofs.Common.{AllNone, Bool, Err, FlightLine, IsCargo, IsFfm, List, Manifest, MatchBool, MatchBool-at_false, MatchBool-at_true, None, Ok, Option, Result, Shipment, Some, Unloaded, Why, [], ap, cargo_faults, cases_Bool, codes, cond-false, cond-true, consignment_of, err_of-none, err_of-ok, false, fault_in-all_none, fault_in-none, ffm_fault, ffm_line_faults, flight_line_of, has_last_line, inl, inr, is_cargo_line, is_head, is_some, last_point, not-true, not_from_false, ordered_fault, refl, sym, true, unless_true-holds, unless_true-none, ℕ, ◌++◌, ◌∙◌, ◌∷◌, ◌≡◌}
use Rattle.imp_fields.specs.declared.fault.Why.TheVariants as why

pub match_true : (b : Bool) (P Q : Type 0) → b ≡ true → P → MatchBool b P Q
match_true true P Q e p = p
match_true false P Q e p = absurd cc

pub match_false : (b : Bool) (P Q : Type 0) → b ≡ false → Q → MatchBool b P Q
match_false true P Q e q = absurd cc
match_false false P Q e q = q

some_of : {A : Type 0} (o : Option A) → is_some o ≡ true → (x : A) × (o ≡ Some x)
some_of (Some x) e = (x, refl)
some_of None e = absurd cc

is_some_of : {A : Type 0} (o : Option A) (x : A) → o ≡ Some x → is_some o ≡ true
is_some_of (Some y) x e = refl
is_some_of None x e = absurd cc

-- a line of cargo without a fault
ordered_fault-none : (r : Result Shipment Why) (point : Option (List ℕ)) → ordered_fault r point ≡ None
    → (s : Shipment) × (p : List ℕ) × (r ≡ Ok s) × (point ≡ Some p)
ordered_fault-none (Ok s) point e = let p = some_of point (unless_true-none _ why.Order e) in (s, p.0, refl, p.1)
ordered_fault-none (Err why) point e = absurd cc

ordered_fault-ok : (r : Result Shipment Why) (point : Option (List ℕ)) (s : Shipment) (p : List ℕ) → r ≡ Ok s → point ≡ Some p → ordered_fault r point ≡ None
ordered_fault-ok (Ok t) point s p e h = unless_true-holds _ why.Order (is_some_of point p h)
ordered_fault-ok (Err why) point s p e h = absurd cc

-- a line that is no line of cargo adds none
other_line : (above : List (List ℕ)) (line : List ℕ) (below : List (List ℕ)) (cargo : List Unloaded) → is_cargo_line line ≡ false
    → IsCargo (above ++ line ∷ []) below cargo → IsCargo above (line ∷ below) cargo
other_line above line below [] e h = (not_from_false _ e, h)
other_line above line below (u ∷ cargo) e h = match_false (is_cargo_line line) _ _ e h

other_line-back : (above : List (List ℕ)) (line : List ℕ) (below : List (List ℕ)) (cargo : List Unloaded) → is_cargo_line line ≡ false
    → IsCargo above (line ∷ below) cargo → IsCargo (above ++ line ∷ []) below cargo
other_line-back above line below [] e h = h.1
other_line-back above line below (u ∷ cargo) e h = MatchBool-at_false _ _ e h

faultless_cargo : (above below : List (List ℕ)) → AllNone (cargo_faults above below) → (cargo : List Unloaded) × IsCargo above below cargo
faultless_cargo above [] h = ([], tt)
faultless_cargo above (line ∷ below) h =
    let rest = faultless_cargo (above ++ line ∷ []) below h.1 in
    elim (cases_Bool (is_cargo_line line)) [
      | inl e ↦
          let s = ordered_fault-none (consignment_of line) (last_point above) (sym (cond-true _ _ _ e) ∙ h.0) in
          let u : Unloaded = record { unload = s.1; shipment = s.0 } in
          (u ∷ rest.0, match_true (is_cargo_line line) _ _ e (s.2, s.3, rest.1))
      | inr e ↦ (rest.0, other_line above line below rest.0 e rest.1)
    ]

pub cargo_has_no_fault : (above below : List (List ℕ)) (cargo : List Unloaded) → IsCargo above below cargo → AllNone (cargo_faults above below)
cargo_has_no_fault above [] cargo h = tt
cargo_has_no_fault above (line ∷ below) [] h =
    (cond-false _ _ _ (not-true _ h.0), cargo_has_no_fault (above ++ line ∷ []) below [] h.1)
cargo_has_no_fault above (line ∷ below) (u ∷ cargo) h =
    elim (cases_Bool (is_cargo_line line)) [
      | inl e ↦
          let parts = MatchBool-at_true _ _ e h in
          (cond-true _ _ _ e ∙ ordered_fault-ok (consignment_of line) (last_point above) u.shipment u.unload parts.0 parts.1, cargo_has_no_fault (above ++ line ∷ []) below cargo parts.2)
      | inr e ↦ (cond-false _ _ _ e, cargo_has_no_fault (above ++ line ∷ []) below (u ∷ cargo) (MatchBool-at_false _ _ e h))
    ]

abbrev done : {A : Type 0} → A → Result A Why
done x = Ok x

ok_is : {A : Type 0} (x y : A) → done x ≡ done y → x ≡ y
ok_is x y e = cc

some_is : {A : Type 0} (x y : A) → Some x ≡ Some y → x ≡ y
some_is x y e = cc

same_unloaded : (u v : Unloaded) → u.unload ≡ v.unload → u.shipment ≡ v.shipment → u ≡ v
same_unloaded u v e f =
    let made : List ℕ → Shipment → Unloaded = λ p s. record { unload = p; shipment = s } in
    ap (λ p. made p u.shipment) e ∙ ap (λ s. made v.unload s) f

one_cargo : (above below : List (List ℕ)) (a b : List Unloaded) → IsCargo above below a → IsCargo above below b → a ≡ b
one_cargo above [] [] [] g h = refl
one_cargo above [] [] (v ∷ b) g h = absurd h
one_cargo above [] (u ∷ a) b g h = absurd g
one_cargo above (line ∷ below) [] [] g h = refl
one_cargo above (line ∷ below) [] (v ∷ b) g h =
    one_cargo (above ++ line ∷ []) below [] (v ∷ b) g.1 (other_line-back above line below (v ∷ b) (not-true _ g.0) h)
one_cargo above (line ∷ below) (u ∷ a) [] g h =
    one_cargo (above ++ line ∷ []) below (u ∷ a) [] (other_line-back above line below (u ∷ a) (not-true _ h.0) g) h.1
one_cargo above (line ∷ below) (u ∷ a) (v ∷ b) g h =
    elim (cases_Bool (is_cargo_line line)) [
      | inl e ↦
          let p = MatchBool-at_true _ _ e g in
          let q = MatchBool-at_true _ _ e h in
          let same : u ≡ v = same_unloaded u v (some_is u.unload v.unload (sym p.1 ∙ q.1)) (ok_is u.shipment v.shipment (sym p.0 ∙ q.0)) in
          ap (λ x. x ∷ a) same ∙ ap (λ xs. v ∷ xs) (one_cargo (above ++ line ∷ []) below a b p.2 q.2)
      | inr e ↦ one_cargo (above ++ line ∷ []) below (u ∷ a) (v ∷ b) (MatchBool-at_false _ _ e g) (MatchBool-at_false _ _ e h)
    ]

pub read_has_no_fault : (lines : List (List ℕ)) (m : Manifest) → IsFfm lines m → ffm_fault lines ≡ None
read_has_no_fault [] m h = absurd h
read_has_no_fault (head ∷ []) m h = absurd h
read_has_no_fault (head ∷ flight ∷ below) m h =
    let lines = head ∷ flight ∷ below in
    fault_in-all_none lines (ffm_line_faults lines) (has_last_line below)
    (unless_true-holds (is_head (codes "FFM") head) why.Head h.0, (err_of-ok (flight_line_of flight) m.part h.1, cargo_has_no_fault [] below m.cargo h.2)) h.3

pub faultless_is_read : (lines : List (List ℕ)) → ffm_fault lines ≡ None → (m : Manifest) × IsFfm lines m
faultless_is_read [] e = absurd cc
faultless_is_read (head ∷ []) e = absurd (let h = fault_in-none (head ∷ []) (ffm_line_faults (head ∷ [])) false e in let f = h.1 in cc)
faultless_is_read (head ∷ flight ∷ below) e =
    let lines = head ∷ flight ∷ below in
    let h = fault_in-none lines (ffm_line_faults lines) (has_last_line below) e in
    let part = err_of-none (flight_line_of flight) h.0.1.0 in
    let cargo = faultless_cargo [] below h.0.1.1 in
    (record { part = part.0; cargo = cargo.0 }, (unless_true-none (is_head (codes "FFM") head) why.Head h.0.0, part.1, cargo.1, h.1))

pub one_reading : (lines : List (List ℕ)) (l m : Manifest) → IsFfm lines l → IsFfm lines m → l ≡ m
one_reading [] l m g h = absurd g
one_reading (head ∷ []) l m g h = absurd g
one_reading (head ∷ flight ∷ below) l m g h =
    let made : FlightLine → List Unloaded → Manifest = λ p c. record { part = p; cargo = c } in
    ap (λ p. made p l.cargo) (ok_is l.part m.part (sym g.1 ∙ h.1)) ∙ ap (λ c. made m.part c) (one_cargo [] below l.cargo m.cargo g.2 h.2)
