-- The row of a place among the rows of a waybill.
use Rattle.std.proofs.Common.{◌≡◌, ℤ, arith, ◌&&◌, List, [], ◌∷◌, map, Option, option_map, refl, sym, ap, ap₂, ◌∙◌, int_cmp, int_eq}
use Rattle.row_codec.proofs.Common.{Count, CountKey, CountRow, FinMap, Tally, count_cmp, count_meant, counts_for, entries, eq_by_cmp, filter, find, get, get-entries, int_tied, int_turned, pair_eq, running_in}
use Rattle.std.specs.FinMap as map
use Rattle.row_codec.proofs.Tests.{twice}

module _ (awb place : ℤ) where
  tied : (e : CountKey × Count) → eq_by_cmp count_cmp (awb, place) e.0 ≡ (counts_for awb e && int_eq e.0.1 place)
  tied e = pair_eq int_cmp int_cmp (awb, place) e.0 ∙ ap₂ ◌&&◌ (int_tied awb e.0.0 ∙ int_turned awb e.0.0) (int_tied place e.0.1 ∙ int_turned place e.0.1)

  found_in : (es : List (CountKey × Count)) → option_map (λ (e : CountKey × Count). e.1) (find (λ (e : CountKey × Count). int_eq e.0.1 place) (filter (counts_for awb) es)) ≡ map.find count_cmp (awb, place) es
  found_in [] = refl
  found_in (e ∷ es) = grind (arith, tied e, found_in es)

-- what a list of rows has is what the list of what they mean has
meant_by : (place : ℤ) (rows : List CountRow) → option_map (λ (row : CountRow). (count_meant row).1) (find (λ (row : CountRow). int_eq row.place place) rows)
    ≡ option_map (λ (e : CountKey × Count). e.1) (find (λ (e : CountKey × Count). int_eq e.0.1 place) (map count_meant rows))
meant_by place [] = refl
meant_by place (row ∷ rows) = grind (arith, meant_by place rows)

pub row_found : (counts : FinMap count_cmp Count) (awb place : ℤ) (rows : List CountRow) → map count_meant rows ≡ filter (counts_for awb) (entries counts)
    → option_map (λ (row : CountRow). (count_meant row).1) (find (λ (row : CountRow). int_eq row.place place) rows) ≡ get counts (awb, place)
row_found counts awb place rows are =
    meant_by place rows
    ∙ ap (λ es. option_map (λ (e : CountKey × Count). e.1) (find (λ (e : CountKey × Count). int_eq e.0.1 place) es)) are
    ∙ found_in awb place (entries counts)
    ∙ sym (get-entries counts (awb, place))

-- and the tally of the row
pub tally_found : (counts : FinMap count_cmp Count) (awb place : ℤ) (rows : List CountRow) (first : Option CountRow) (found : Option Tally) → map count_meant rows ≡ filter (counts_for awb) (entries counts)
    → first ≡ find (λ (row : CountRow). int_eq row.place place) rows → found ≡ option_map (λ (row : CountRow). running_in (count_meant row).1) first
    → found ≡ option_map running_in (get counts (awb, place))
tally_found counts awb place rows first found are is told =
    told ∙ sym (twice running_in (λ (row : CountRow). (count_meant row).1) first) ∙ ap (λ o. option_map running_in (option_map (λ (row : CountRow). (count_meant row).1) o)) is
    ∙ ap (option_map running_in) (row_found counts awb place rows are)
