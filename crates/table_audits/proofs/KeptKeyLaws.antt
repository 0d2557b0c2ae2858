-- Rows of `kept_key` that are taken one by one.
use Rattle.table_audits.proofs.Common.{AllByRecursion, AreKeptKeys, AreRequests, Bool, IsLawfulKept, IsTrue, Kept, KeptKeyEntry, List, Tables, [], all_both, all_from_test, all_weaker, at_key, each_entry, entries, false, is_kept_row, kept_cmp, kept_key_entry, kept_same, kept_total, map, map-append, subst, sym, test_from_all, true, true≢false, ℕ, ◌++◌, ◌↔◌, ◌∙◌, ◌∷◌, ◌≡◌}
use Rattle.station_core.specs.Keeping.{IsRequest}
use Rattle.sqlite_keyed.proofs.ListLemmas.{all-append}
use Rattle.table_audits.proofs.Lists.{all_pop}

abbrev pub Asks : List ℕ × Kept → Type 0
Asks row = IsRequest row.1.command

-- whether all of some rows are lawful
abbrev AreSo : Bool → List KeptKeyEntry → Type 0
AreSo b rows = IsTrue b ↔ AllByRecursion IsLawfulKept (map kept_key_entry rows)

-- ---- one row more

last_key : (rows : List KeptKeyEntry) (row : KeptKeyEntry) → AllByRecursion IsLawfulKept (map kept_key_entry (rows ++ row ∷ [])) → AllByRecursion IsLawfulKept (map kept_key_entry rows) × IsLawfulKept (kept_key_entry row)
last_key rows row all = all_pop IsLawfulKept (map kept_key_entry rows) (kept_key_entry row) (subst (AllByRecursion IsLawfulKept) (map-append kept_key_entry rows (row ∷ [])) all)

pub key_taken : (rows : List KeptKeyEntry) (row : KeptKeyEntry) (b : Bool) → AreSo b rows → IsLawfulKept (kept_key_entry row) → AreSo b (rows ++ row ∷ [])
key_taken rows row b was is = (
  λ h. subst (AllByRecursion IsLawfulKept) (sym (map-append kept_key_entry rows (row ∷ []))) (all-append IsLawfulKept (map kept_key_entry rows) (kept_key_entry row ∷ []) (was.0 h) (is, tt)),
  λ all. was.1 (last_key rows row all).0,
)

pub key_refused : (rows : List KeptKeyEntry) (row : KeptKeyEntry) (b : Bool) → b ≡ false → (IsLawfulKept (kept_key_entry row) → IsTrue b) → AreSo false (rows ++ row ∷ [])
key_refused rows row b fails says = (λ h. absurd (true≢false (sym h)), λ all. absurd (true≢false (sym (says (last_key rows row all).1) ∙ fails)))

-- ---- the table

module _ (t : Tables) where
  are_requests : AllByRecursion Asks (entries t.kept) → AreRequests t.kept
  are_requests all key row has = at_key kept_cmp kept_total kept_same Asks t.kept all key row has

  requests_back : AreRequests t.kept → AllByRecursion Asks (entries t.kept)
  requests_back are = each_entry kept_cmp kept_total Asks t.kept are

  lawful_keys : AllByRecursion IsLawfulKept (entries t.kept) → AreKeptKeys t
  lawful_keys all = record {
    rows = test_from_all is_kept_row (entries t.kept) (all_weaker IsLawfulKept (λ row. is_kept_row row ≡ true) (λ row is. is.within) (entries t.kept) all);
    requests = are_requests (all_weaker IsLawfulKept Asks (λ row is. is.request) (entries t.kept) all);
  }

  keys_lawful : AreKeptKeys t → AllByRecursion IsLawfulKept (entries t.kept)
  keys_lawful law = all_both (λ row. is_kept_row row ≡ true) Asks IsLawfulKept (λ row a b. record { within = a; request = b }) (entries t.kept) (all_from_test is_kept_row (entries t.kept) law.rows) (requests_back law.requests)

  pub keys_so : (rows : List KeptKeyEntry) → entries t.kept ≡ map kept_key_entry rows → (b : Bool) → AreSo b rows → IsTrue b ↔ AreKeptKeys t
  keys_so rows is b says = (
    λ h. lawful_keys (subst (AllByRecursion IsLawfulKept) (sym is) (says.0 h)),
    λ law. says.1 (subst (AllByRecursion IsLawfulKept) is (keys_lawful law)),
  )
