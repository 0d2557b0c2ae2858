-- The entries of a map in the order of the readers, as their rows.
use Rattle.std.proofs.Common.{◌≡◌, ◌∙◌, ℕ, Bool, true, false, ◌&&◌, cond, List, [], ◌∷◌, ◌++◌, map, option_map, append_assoc, append-nil, Some, find, ◌==◌, refl, sym, ap, subst, Less, Ordering}
use Rattle.state_store.proofs.Common.{AllByRecursion, AreExpectations, Expectation, Expected, FlightKey, IsStrictlySortedBy, and_from, below_all, by_expectation, is_lt, is_sorted, keys_of, line_of, lines_in, lookup, same_flight_date, same_line, sorted_head, sorted_tail}
use Rattle.state_store.specs.declared.lines.ExpectedLines.{ExpectedLines}
use Rattle.state_store.proofs.Tied.{by_line}

-- one row further
pub mapped_more : {E X : Type 0} (f : E → X) (rows new whole : List X) (ahead more : List E) (e : E) → rows ++ map f ahead ≡ whole → ahead ≡ e ∷ more → new ≡ rows ++ f e ∷ [] → new ++ map f more ≡ whole
mapped_more f rows new whole ahead more e so is put =
    ap (λ l. l ++ map f more) put ∙ append_assoc rows (f e ∷ []) (map f more) ∙ ap (λ l. rows ++ map f l) (sym is) ∙ so

pub mapped_last : {E X : Type 0} (f : E → X) (rows whole : List X) (ahead : List E) → rows ++ map f ahead ≡ whole → ahead ≡ [] → rows ≡ whole
mapped_last f rows whole ahead so end = sym (append-nil rows) ∙ ap (λ l. rows ++ map f l) (sym end) ∙ so

-- rows whose keys are those of sorted entries are sorted
module _ {K X J : Type 0} (cmp : K → K → Ordering) (by : J → J → Ordering) (of : K → J) (agree : (a b : K) → cmp a b ≡ by (of a) (of b)) where
  below : (x : K) (es : List (K × X)) → AllByRecursion (λ y. cmp x y ≡ Less) (keys_of es) → below_all by (of x) (map (λ e. (of e.0, e.1)) es) ≡ true
  below x [] h = refl
  below x (e ∷ es) h = and_from _ _ (ap is_lt (sym (agree x e.0) ∙ h.0)) (below x es h.1)

  pub sorted : (es : List (K × X)) → IsStrictlySortedBy cmp (keys_of es) → is_sorted by (map (λ e. (of e.0, e.1)) es) ≡ true
  sorted [] h = refl
  sorted (e ∷ es) h = and_from _ _ (below e.0 es (sorted_head cmp e.0 (keys_of es) h)) (sorted es (sorted_tail cmp e.0 (keys_of es) h))

pub map_map : {A B C : Type 0} (g : B → C) (f : A → B) (xs : List A) → map g (map f xs) ≡ map (λ x. g (f x)) xs
map_map g f [] = refl
map_map g f (x ∷ xs) = ap (λ l. g (f x) ∷ l) (map_map g f xs)

-- a look-up by a test is a look-up in the rows
pub found_in : {K X R : Type 0} (test : K → Bool) (row : K × X → R) (key_test : R → Bool) (value : R → X) → ((e : K × X) → key_test (row e) ≡ test e.0) → ((e : K × X) → value (row e) ≡ e.1)
    → (es : List (K × X)) → lookup test es ≡ option_map value (find key_test (map row es))
found_in test row key_test value tests is [] = refl
found_in {K} {X} {R} test row key_test value tests is (e ∷ es) = by_case (test e.0) (tests e) (found_in test row key_test value tests is es)
  where
    by_case : (b : Bool) → key_test (row e) ≡ b → lookup test es ≡ option_map value (find key_test (map row es))
        → cond b (Some e.1) (lookup test es) ≡ option_map value (cond (key_test (row e)) (Some (row e)) (find key_test (map row es)))
    by_case true at h = ap Some (sym (is e)) ∙ sym (ap (λ c. option_map value (cond c (Some (row e)) (find key_test (map row es)))) at)
    by_case false at h = h ∙ sym (ap (λ c. option_map value (cond c (Some (row e)) (find key_test (map row es)))) at)

-- ---- what flights are to bring

abbrev pub expectation_of : (FlightKey × ℕ) × Expected → Expectation
expectation_of e = record { flight = e.0.0.flight; awb = e.0.1; expected = e.1 }

pub are_expectations : (kept : ExpectedLines) (rows : List Expectation) → IsStrictlySortedBy by_line (keys_of kept.entries.entries) → rows ≡ map expectation_of kept.entries.entries → AreExpectations (lines_in kept) rows
are_expectations kept rows ordered are = subst (AreExpectations (lines_in kept)) (sym are) (record {
  rising = ap (is_sorted by_expectation) (map_map (λ (row : Expectation). ((row.flight, row.awb), row.expected)) expectation_of kept.entries.entries) ∙ sorted by_line by_expectation line_of (λ a b. refl) kept.entries.entries ordered;
  same = λ f w. found_in (λ k. same_line (f, w) (line_of k)) expectation_of (λ row. same_flight_date f row.flight && (w == row.awb)) (λ row. row.expected) (λ e. refl) (λ e. refl) kept.entries.entries;
})
