-- One row more of a flight.
use Rattle.row_codec.proofs.Common.{Bool, List, Load, Tally, [], ap, append-nil, ap₂, build_meant, cond, false, filter, get_or, is_loaded, length, load_said, map, map-append, refl, row_said, sym, take, take_more, true, ℕ, ℤ, ◌++◌, ◌+◌, ◌<◌, ◌∙◌, ◌∷◌, ◌≡◌}
use Rattle.std.proofs.lemmas.List.Elements.{filter-append}
use Rattle.station_rows.specs.declared.builds.BuildRow.{BuildRow}

abbrev pub said_in : List BuildRow → List (ℤ × Tally)
said_in rows = filter is_loaded (map row_said (map build_meant rows))

said_push : (xs : List BuildRow) (x : BuildRow) → said_in (xs ++ x ∷ []) ≡ said_in xs ++ cond (is_loaded (row_said (build_meant x))) (row_said (build_meant x) ∷ []) []
said_push xs x = simp (map-append, filter-append) refl

module _ (rows : List BuildRow) (i : ℕ) (row : BuildRow) (lt : i < length rows) (read : row ≡ get_or rows i row) (loads : List Load) (before : map load_said loads ≡ said_in (take i rows)) where
  next : (b : Bool) → is_loaded (row_said (build_meant row)) ≡ b → said_in (take (i + 1) rows) ≡ said_in (take i rows) ++ cond b (row_said (build_meant row) ∷ []) []
  next b is = ap said_in (take_more rows i row lt ∙ ap (λ x. take i rows ++ x ∷ []) (sym read)) ∙ said_push (take i rows) row
      ∙ ap (λ t. said_in (take i rows) ++ cond t (row_said (build_meant row) ∷ []) []) is

  pub load_taken : (load : Load) (after : List Load) → is_loaded (row_said (build_meant row)) ≡ true → load_said load ≡ row_said (build_meant row) → after ≡ loads ++ load ∷ [] → map load_said after ≡ said_in (take (i + 1) rows)
  load_taken load after is same then =
      ap (map load_said) then ∙ map-append load_said loads (load ∷ []) ∙ ap₂ (λ l s. l ++ s ∷ []) before same ∙ sym (next true is)

  pub load_passed : is_loaded (row_said (build_meant row)) ≡ false → map load_said loads ≡ said_in (take (i + 1) rows)
  load_passed is = before ∙ sym (append-nil (said_in (take i rows))) ∙ sym (next false is)
