-- The texts of parts are kept exactly where the table says so, and its rows are taken one by one.
use Rattle.table_audits.proofs.Common.{entries_rise, AllByRecursion, AllWithin, AreKeptTexts, AreParts, Bool, IfSome, IsAscending, IsPermutation, IsSome, Less, List, None, Option, PartKey, Some, Tables, [], all_from_test, all_map, all_unmap, and_parts, ap, ap₂, arith, ascending_from_map, at_key, cases_Bool, cond, cond-true, contains_key, each_entry, entries, eq_by_cmp, false, get, has_text, inl, inr, is_designator, is_eq, is_kept_text_row, is_lt, is_part_row, is_tied, kept_text_cmp, kept_text_entry, kept_text_same, kept_text_total, length, list_all, list_all-append, map, map-append, meaning_of, nat_lt, nat_tests, natural, part_cmp, part_entry, part_key, part_same, part_total, parts_in, refl, slice_index_or, subst, sym, test_from_all, tied_itself, true, true≢false, ℕ, ℤ, ◌&&◌, ◌++◌, ◌+◌, ◌-◌, ◌<◌, ◌||◌, ◌∙◌, ◌∷◌, ◌≡◌, ◌≢◌, ◌≤◌}
use Rattle.shipment_machine.specs.declared.moves.Part.{Part}
use Rattle.std.specs.Bool.{nat_eq}
use Rattle.std.proofs.lemmas.List.Elements.{All-from_recursion, recursion_from_All}
use Rattle.std.proofs.lemmas.List.Sorted.{All-permutation, IsPermutation-sym}
use Rattle.std.specs.List.{All, HoldsAt}
use Rattle.table_audits.specs.declared.kept_text.KeptTexts.{KeptTexts}
use Rattle.table_load.specs.declared.kept_text.KeptTextEntry.{KeptTextEntry}
use Rattle.table_load.specs.declared.part.PartEntry.{PartEntry}
use Rattle.table_audits.specs.Taken.{AreByText, AreTextsSought, AreTextsTaken, is_among}
use Rattle.table_audits.proofs.Each.{natural_again}
use Rattle.table_audits.proofs.FlightRows.{flight_at}
use Rattle.table_audits.proofs.DeclaredLaws.{some_from, some_back}
use Rattle.table_audits.proofs.Lists.{any_push, below_last, element, or_yes, rises_before}
use Rattle.table_audits.proofs.Searches.{any_entry}
use Rattle.table_audits.proofs.Texts.{and_so}

module _ (t : Tables) where
  abbrev IsAccepted : Option (List ℕ) → Type 0
  IsAccepted o = IfSome o (λ text. IsSome ((meaning_of t).kept_texts text))

  pub are_texts : list_all is_kept_text_row (entries t.kept_texts) ≡ true → list_all (has_text t.kept_texts) (entries t.parts) ≡ true → AreKeptTexts t
  are_texts rows all = record { rows = rows; parts = λ p. go p (is_designator p.flight.flight) (get t.parts (part_key p)) refl }
    where
      go : (p : Part) (b : Bool) (o : Option (List ℕ)) → get t.parts (part_key p) ≡ o → IsAccepted (cond b o None)
      go p false o is = tt
      go p true None is = tt
      go p true (Some text) is =
          let kept : has_text t.kept_texts (part_key p, text) ≡ true = at_key part_cmp part_total part_same (λ e. has_text t.kept_texts e ≡ true) t.parts (all_from_test (has_text t.kept_texts) (entries t.parts) all) (part_key p) text is in
          some_from natural (get t.kept_texts text) kept

  pub texts_kept : AreParts t → AreKeptTexts t → list_all (has_text t.kept_texts) (entries t.parts) ≡ true
  texts_kept parts law = test_from_all (has_text t.kept_texts) (entries t.parts) (each_entry part_cmp part_total (λ e. has_text t.kept_texts e ≡ true) t.parts go)
    where
      go : (key : PartKey) (text : List ℕ) → get t.parts key ≡ Some text → has_text t.kept_texts (key, text) ≡ true
      go key text has =
          let fits : is_part_row (key, text) ≡ true = at_key part_cmp part_total part_same (λ e. is_part_row e ≡ true) t.parts (all_from_test is_part_row (entries t.parts) parts.rows) key text has in
          let a = and_parts _ _ (and_parts _ _ fits).0 in
          let b = and_parts _ _ (and_parts _ _ a.0).0 in
          let f = flight_at key.0 key.1.0 b.0 b.1 in
          let p : Part = record { flight = f.0; airport = key.1.1.0; number = natural key.1.1.1 } in
          let same : part_key p ≡ key = ap₂ (λ x y. (x, y)) f.2 (ap₂ (λ x y. (x, (key.1.1.0, y))) f.3 (natural_again 1 9999 key.1.1.1 a.1)) in
          let seen : parts_in t.parts p ≡ Some text = cond-true (is_designator (f.0).flight) (get t.parts (part_key p)) None f.1 ∙ ap (get t.parts) same ∙ has in
          let kept : IsAccepted (Some text) = subst IsAccepted seen (law.parts p) in
          some_back natural (get t.kept_texts text) kept

-- ---- rows that are added one after another

abbrev text_of : PartEntry → List ℕ
text_of part = (part_entry part).1

abbrev body_of : KeptTextEntry → List ℕ
body_of row = (kept_text_entry row).0

abbrev Rises : List ℕ × ℤ → List ℕ × ℤ → Type 0
Rises a b = kept_text_cmp a.0 b.0 ≡ Less

-- a text below another one isn't a third that is no less than that
differs : (a b q : List ℕ) → kept_text_cmp a b ≡ Less → is_lt (kept_text_cmp q b) ≡ false → eq_by_cmp kept_text_cmp a q ≡ false
differs a b q less low = go (eq_by_cmp kept_text_cmp a q) refl
  where
    go : (e : Bool) → eq_by_cmp kept_text_cmp a q ≡ e → e ≡ false
    go false is = refl
    go true is = absurd (true≢false (sym (ap is_lt (ap (λ x. kept_text_cmp x b) (sym (kept_text_same a q (is_tied _ is))) ∙ less)) ∙ low))

none_among : (rows : List KeptTextEntry) (b q : List ℕ) → AllByRecursion (λ (row : KeptTextEntry). kept_text_cmp (body_of row) b ≡ Less) rows → is_lt (kept_text_cmp q b) ≡ false → is_among rows q ≡ false
none_among [] b q all low = refl
none_among (row ∷ rows) b q all low = ap₂ ◌||◌ (differs (body_of row) b q all.0 low) (none_among rows b q all.1 low)

other_text : (a q : List ℕ) → q ≢ a → eq_by_cmp kept_text_cmp a q ≡ false
other_text a q other = go (eq_by_cmp kept_text_cmp a q) refl
  where
    go : (e : Bool) → eq_by_cmp kept_text_cmp a q ≡ e → e ≡ false
    go false is = refl
    go true is = absurd (other (sym (kept_text_same a q (is_tied _ is))))

same_text : (a q : List ℕ) → q ≡ a → eq_by_cmp kept_text_cmp a q ≡ true
same_text a q is = ap (eq_by_cmp kept_text_cmp a) is ∙ ap is_eq (tied_itself kept_text_total a)

pub row_in : (b p : Bool) → p ≡ true → b ≡ (b && p)
row_in true p is = sym is
row_in false p is = refl

pub row_out : (b p : Bool) → p ≡ false → false ≡ (b && p)
row_out true p is = sym is
row_out false p is = refl

module _ (parts : List PartEntry) (rows : List KeptTextEntry) (row : KeptTextEntry) where
  abbrev more : List KeptTextEntry
  more = rows ++ row ∷ []

  abbrev at_part : ℕ → PartEntry → List ℕ
  at_part i d = text_of (slice_index_or parts i d)

  among_more : (q : List ℕ) → is_among more q ≡ (is_among rows q || eq_by_cmp kept_text_cmp (body_of row) q)
  among_more q = any_push (λ (r : KeptTextEntry). eq_by_cmp kept_text_cmp (body_of r) q) rows row

  counts_more : list_all is_kept_text_row (map kept_text_entry more) ≡ (list_all is_kept_text_row (map kept_text_entry rows) && is_kept_text_row (kept_text_entry row))
  counts_more =
      ap (list_all is_kept_text_row) (map-append kept_text_entry rows (row ∷ [])) ∙ list_all-append is_kept_text_row (map kept_text_entry rows) (kept_text_entry row ∷ [])
      ∙ ap (λ b. list_all is_kept_text_row (map kept_text_entry rows) && b) (and_so (is_kept_text_row (kept_text_entry row)))

  -- the part after one with the text of the last row has none of the rows before
  past_free : IsAscending Rises (map kept_text_entry more) → AreByText parts → (n next : ℕ) (d : PartEntry) → n + 1 ≡ next → next < length parts → at_part n d ≡ body_of row → is_among rows (at_part next d) ≡ false
  past_free up by n next d follows short is =
      let low : is_lt (kept_text_cmp (at_part (n + 1) d) (at_part n d)) ≡ false = by n d (omega arith) (omega (arith, follows, short)) in
      let here : is_lt (kept_text_cmp (at_part next d) (body_of row)) ≡ false =
      subst (λ q. is_lt (kept_text_cmp (at_part next d) q) ≡ false) is (subst (λ i. is_lt (kept_text_cmp (at_part i d) (at_part n d)) ≡ false) follows low) in
      none_among rows (body_of row) (at_part next d) (below_last (λ (a b : KeptTextEntry). Rises (kept_text_entry a) (kept_text_entry b)) rows row (ascending_from_map Rises kept_text_entry more up)) here

  module _ (old : KeptTexts) (now : ℕ) (had : AreTextsTaken parts old rows) where
    abbrev IsPast : Type 0
    IsPast = AllWithin (λ (part : PartEntry). text_of part ≡ body_of row) parts old.found now

    found_more : IsPast → (k : ℕ) (d : PartEntry) → k < now → is_among more (at_part k d) ≡ true
    found_more same k d low = among_more (at_part k d) ∙ elim (cases_Bool (nat_lt k old.found)) [
      | inl early ↦ ap (λ b. b || eq_by_cmp kept_text_cmp (body_of row) (at_part k d)) (had.found k d (omega arith) (grind (arith, nat_tests)))
      | inr late ↦ ap (λ b. is_among rows (at_part k d) || b) (same_text (body_of row) (at_part k d) (same k d (grind (arith, nat_tests)) low)) ∙ or_yes (is_among rows (at_part k d))
    ]

    before_free : IsAscending Rises (map kept_text_entry more) → AreByText parts → old.found ≤ now → IsPast → now < length parts → (d : PartEntry) → is_among rows (at_part now d) ≡ false
    before_free up by low same short d = elim (cases_Bool (nat_lt old.found now)) [
      | inl early ↦ let further : old.found < now = grind (arith, nat_tests) in
          past_free up by (now - 1) now d (omega (arith, further)) short (same (now - 1) d (omega (arith, further)) (omega (arith, further)))
      | inr late ↦ let stays : old.found ≡ now = grind (arith, nat_tests, low) in
          subst (λ i. is_among rows (at_part i d) ≡ false) stays (had.next (omega (arith, stays, short)) d)
    ]

  pub texts_more : (old : KeptTexts) (now : ℕ) (b : Bool) → AreTextsSought parts old rows → (old.found ≤ length parts → (old.found ≤ now) × (now ≤ length parts))
      → AllWithin (λ (part : PartEntry). text_of part ≡ body_of row) parts old.found now → (now < length parts → HoldsAt (λ (part : PartEntry). text_of part ≢ body_of row) parts now)
      → b ≡ (old.are_in_range && is_kept_text_row (kept_text_entry row)) → AreTextsSought parts (record { are_in_range = b; found = now }) more
  texts_more old now b was range same other is = λ by up.
      let had = was by (rises_before Rises (map kept_text_entry rows) (kept_text_entry row) (subst (IsAscending Rises) (map-append kept_text_entry rows (row ∷ [])) up)) in
      let bounds = range had.bound in record {
        counts = is ∙ ap (λ x. x && is_kept_text_row (kept_text_entry row)) had.counts ∙ sym counts_more;
        bound = bounds.1;
        found = λ k d low high. found_more old now had same k d high;
        next = λ short d. among_more (at_part now d) ∙ ap₂ ◌||◌ (before_free old now had up by bounds.0 same short d) (other_text (body_of row) (at_part now d) (other short d));
      }

-- ---- the table

pub as_many : (a b : ℕ) → nat_eq a b ≡ true → a ≡ b
as_many a b is = grind (arith, nat_tests, is)

pub as_many_back : (a b : ℕ) → a ≡ b → nat_eq a b ≡ true
as_many_back a b is = grind (arith, nat_tests, is)

pub texts_taken : (t : Tables) (parts : List PartEntry) (rows : List KeptTextEntry) (texts : KeptTexts) → entries t.kept_texts ≡ map kept_text_entry rows → AreByText parts → AreTextsSought parts texts rows → AreTextsTaken parts texts rows
texts_taken t parts rows texts is by sought = sought by (subst (IsAscending Rises) is (entries_rise kept_text_cmp kept_text_total t.kept_texts))

module _ (t : Tables) (listed parts : List PartEntry) (rows : List KeptTextEntry) (texts : KeptTexts) (law : AreParts t) (at : entries t.parts ≡ map part_entry listed) (same : IsPermutation listed parts)
    (is : entries t.kept_texts ≡ map kept_text_entry rows) (taken : AreTextsTaken parts texts rows) where
  abbrev IsKept : PartEntry → Type 0
  IsKept part = has_text t.kept_texts (part_entry part) ≡ true

  kept_so : (q : List ℕ) → contains_key t.kept_texts q ≡ is_among rows q
  kept_so q = any_entry kept_text_cmp kept_text_total kept_text_same kept_text_entry t.kept_texts rows is q

  all_kept : texts.found ≡ length parts → list_all (has_text t.kept_texts) (entries t.parts) ≡ true
  all_kept whole =
      let each : All IsKept parts = λ k d low. kept_so (text_of (slice_index_or parts k d)) ∙ taken.found k d (omega arith) (omega (arith, whole, low)) in
      let here : All IsKept listed = All-permutation IsKept parts listed (IsPermutation-sym listed parts same) each in
      ap (list_all (has_text t.kept_texts)) at ∙ test_from_all (has_text t.kept_texts) (map part_entry listed) (all_map (λ e. has_text t.kept_texts e ≡ true) part_entry listed (recursion_from_All IsKept listed here))

  found_all : list_all (has_text t.kept_texts) (entries t.parts) ≡ true → texts.found ≡ length parts
  found_all all =
      let tests : AllByRecursion (λ e. has_text t.kept_texts e ≡ true) (map part_entry listed) = all_from_test (has_text t.kept_texts) (map part_entry listed) (ap (list_all (has_text t.kept_texts)) (sym at) ∙ all) in
      let here : All IsKept listed = All-from_recursion IsKept listed (all_unmap (λ e. has_text t.kept_texts e ≡ true) part_entry listed tests) in
      let each : All IsKept parts = All-permutation IsKept listed parts same here in
      elim (cases_Bool (nat_lt texts.found (length parts))) [
        | inl early ↦ let short : texts.found < length parts = grind (arith, nat_tests) in
            let d = (element parts texts.found short).0 in
            absurd (true≢false (sym (each texts.found d short) ∙ kept_so (text_of (slice_index_or parts texts.found d)) ∙ taken.next short d))
        | inr late ↦ grind (arith, nat_tests, taken.bound)
      ]

  pub counts_so : AreKeptTexts t → texts.are_in_range ≡ true
  counts_so laws = taken.counts ∙ ap (list_all is_kept_text_row) (sym is) ∙ laws.rows

  pub found_so : AreKeptTexts t → texts.found ≡ length parts
  found_so laws = found_all (texts_kept t law laws)

  pub texts_so : texts.are_in_range ≡ true → texts.found ≡ length parts → AreKeptTexts t
  texts_so range whole = are_texts t (ap (list_all is_kept_text_row) is ∙ sym taken.counts ∙ range) (all_kept whole)
