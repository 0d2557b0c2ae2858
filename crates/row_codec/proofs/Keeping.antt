-- What was accepted under a key, and the count of a telegram, is kept.
use Rattle.std.proofs.Common.{◌≡◌, ◌&&◌, ℕ, pos, true, Some, None, option_map, List, Bool, false, cond, refl, sym, ap, subst, ◌∙◌}
use Rattle.row_codec.proofs.Common.{AreRequests, IsRequest, Kept, Means, State, Tables, and_from, bytes_eq, eq_by_cmp, get, get-insert, insert, is_count, is_eq-slice_cmp, is_kept_row, is_kept_text_row, is_key, is_utf8, keeping, keeping_text, kept_by, kept_cmp, kept_keys_in, kept_same, kept_text_cmp, kept_text_same, kept_text_total, kept_texts_in, kept_total, meaning_of, natural, with_kept, with_kept_text, with_key, with_text}
use Rattle.row_codec.proofs.KeptRow.{kept_row}
use Rattle.station_core.specs.Step as step
use Rattle.row_codec.proofs.Guarded.{seen-insert}
use Rattle.row_codec.proofs.MapLaws.{all-insert}
use Rattle.row_codec.proofs.Tests.{some_is}

-- every text is a key
module _ (t : Tables) (s : State) (means : Means t (Some s)) where
  pub keeps_key : (key : List ℕ) (one : step.Kept) → is_key key ≡ true → is_utf8 one.request ≡ true → is_count (pos one.count) ≡ true → IsRequest one.request → Means (with_kept key (kept_row one) t) (Some (with_key key one s))
  keeps_key key one is text counts asked = (
    assumption (
      all-insert kept_cmp kept_total kept_same is_kept_row t.kept key (kept_row one) means.0.kept (and_from (is_key key && is_utf8 one.request) (is_count (pos one.count)) (and_from (is_key key) (is_utf8 one.request) is text) counts),
      requests,
      means,
    ),
    (λ i. record (meaning_of t) { kept_keys = λ k. kept k i }) ∙ ap (with_key key one) means.1,
  )
    where
      requested : (other : List ℕ) (row : Kept) (b : Bool) → cond b (Some (kept_row one)) (get t.kept other) ≡ Some row → IsRequest row.command
      requested other row true is_row = subst (λ (r : Kept). IsRequest r.command) (some_is (kept_row one) row is_row) asked
      requested other row false is_row = means.0.requests other row is_row

      requests : AreRequests (insert t.kept key (kept_row one))
      requests other row has = requested other row (eq_by_cmp kept_cmp other key) (sym (get-insert kept_total t.kept key (kept_row one) other) ∙ has)

      kept : (k : List ℕ) → kept_keys_in (insert t.kept key (kept_row one)) k ≡ keeping (kept_keys_in t.kept) key one k
      kept k = seen-insert kept_cmp kept_total (λ (q : List ℕ). q) (λ _. true) (option_map kept_by) None bytes_eq (λ a b _ _. is_eq-slice_cmp a b) (λ _ _ _ _. refl) t.kept key (kept_row one) refl k

  pub keeps_text : (text : List ℕ) (count : ℕ) → is_utf8 text ≡ true → is_count (pos count) ≡ true → Means (with_kept_text text (pos count) t) (Some (with_text text count s))
  keeps_text text count is counts = (
    assumption (all-insert kept_text_cmp kept_text_total kept_text_same is_kept_text_row t.kept_texts text (pos count) means.0.kept_texts (and_from (is_utf8 text) (is_count (pos count)) is counts), means),
    (λ i. record (meaning_of t) { kept_texts = λ k. kept k i }) ∙ ap (with_text text count) means.1,
  )
    where
      kept : (k : List ℕ) → kept_texts_in (insert t.kept_texts text (pos count)) k ≡ keeping_text (kept_texts_in t.kept_texts) text count k
      kept k = seen-insert kept_text_cmp kept_text_total (λ (q : List ℕ). q) (λ _. true) (option_map natural) None bytes_eq (λ a b _ _. is_eq-slice_cmp a b) (λ _ _ _ _. refl) t.kept_texts text (pos count) refl k
