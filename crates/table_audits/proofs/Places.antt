-- A place of a row names the row's flight where it is built.
use Rattle.std.proofs.Common.{◌≡◌, ℤ, pos, Bool, true, false, cond, is_some, Option, Some, None, option_map, unwrap_or, refl, sym, ap, ◌∙◌, true≢false, int_eq}
use Rattle.table_audits.proofs.Common.{Built, FlightDate, Hand, NamesFlight, Place, none_is, place_code, place_of, plain_place}
use Rattle.row_codec.proofs.Codes.{plain_code}

built_names : (flight : Option FlightDate) (p : Place) → option_map Built flight ≡ Some p → NamesFlight p flight
built_names None p is = absurd (true≢false (sym (none_is p is)))
built_names (Some f) (Built g) is = let same : f ≡ g = cc in ap (λ (x : FlightDate). Some x) same
built_names (Some f) _ is = absurd (cc)

plain_names : (code : ℤ) → int_eq code (pos 3) ≡ false → (flight : Option FlightDate) (p : Place) → code ≡ pos (place_code p) → NamesFlight p flight
plain_names code other flight (Built g) is = absurd (true≢false (sym (ap (λ c. int_eq c (pos 3)) is) ∙ other))
plain_names code other flight _ is = tt

names_flight : (code : ℤ) (flight : Option FlightDate) (p : Place) → place_of code flight ≡ Some p → NamesFlight p flight
names_flight code flight p is = go (int_eq code (pos 3)) refl is
  where
    go : (b : Bool) → int_eq code (pos 3) ≡ b → cond b (option_map Built flight) (plain_place code) ≡ Some p → NamesFlight p flight
    go true e h = built_names flight p h
    go false e h = plain_names code e flight p (plain_code code p h)

-- so does the place that is read of a code
pub read_names : (code : ℤ) (flight : Option FlightDate) → is_some (place_of code flight) ≡ true → NamesFlight (unwrap_or (place_of code flight) Hand) flight
read_names code flight some = go (place_of code flight) refl some
  where
    go : (o : Option Place) → place_of code flight ≡ o → is_some o ≡ true → NamesFlight (unwrap_or o Hand) flight
    go None e h = absurd (true≢false (sym h))
    go (Some p) e h = names_flight code flight p e
