-- A whole answer is one, and no beginning of another.
use Rattle.desk_client.proofs.Common.{Form, IsAsLong, IsCutShort, IsReport, IsTooShort, IsWhole, List, ReadsResponse-append, ResponseHead, [], ap, arith, codes, false, has_end, has_media, inl, inr, length, length-append, map, name_and_value, nil_from_length, or-true, response_unique, status_code, subst, sym, true, values_of, ℕ, ◌++◌, ◌||◌, ◌∙◌, ◌∷◌, ◌≡◌, ◌⊎◌}
use Rattle.reports.specs.declared.layout.Form.TheVariants as form
use Rattle.desk_client.proofs.Bodies.{some_is}

abbrev lengths_of : ResponseHead → List (List ℕ)
lengths_of h = values_of (codes "content-length") (map name_and_value h.fields)

by_lengths : (lengths : List (List ℕ)) (body more : List ℕ) → IsAsLong lengths body → IsAsLong lengths (body ++ more) → (more ≡ []) ⊎ (has_end body ≡ true)
by_lengths [] body more short long = inr short
by_lengths (value ∷ []) body more short long =
    let same : length body ≡ length (body ++ more) = some_is (length body) (length (body ++ more)) (sym short ∙ long) in
    inl (nil_from_length more (omega (arith, same, length-append body more)))
by_lengths (value ∷ other ∷ values) body more short long = absurd short

pub one : (bytes : List ℕ) (s t : ℕ) (b c : List ℕ) → IsWhole bytes s b → IsWhole bytes t c → (s ≡ t) × (b ≡ c)
one bytes s t b c x y =
    let same = response_unique bytes x.head y.head b c x.reads y.reads in
    (x.status_is ∙ ap status_code same.0 ∙ sym y.status_is, same.1)

pub cut : (front more : List ℕ) (s t : ℕ) (b c : List ℕ) → IsWhole front s b → IsWhole (front ++ more) t c → (more ≡ []) ⊎ (has_end b ≡ true)
cut front more s t b c x y =
    let same = response_unique (front ++ more) x.head y.head (b ++ more) c (ReadsResponse-append front x.head b more x.reads) y.reads in
    let long : IsAsLong (lengths_of y.head) (b ++ more) = subst (λ l. IsAsLong (lengths_of y.head) l) (sym same.1) y.whole.long in
    by_lengths (lengths_of x.head) b more x.whole.long (subst (λ h. IsAsLong (lengths_of h) (b ++ more)) (sym same.0) long)

rows_of : (f : Form) (fields : List (List ℕ × List ℕ)) → has_media f fields ≡ true → has_media form.Text fields || has_media form.Json fields ≡ true
rows_of form.Text fields is = ap (λ b. b || has_media form.Json fields) is
rows_of form.Json fields is = ap (λ b. has_media form.Text fields || b) is ∙ or-true (has_media form.Text fields)

-- a report whose rest has come
pub report_whole : (f : Form) (bytes body more : List ℕ) → IsReport f bytes body → has_end (body ++ more) ≡ true → IsWhole (bytes ++ more) 200 (body ++ more)
report_whole f bytes body more is end = record {
  head = is.head;
  reads = ReadsResponse-append bytes is.head body more is.reads;
  few = is.few;
  status_is = sym is.good;
  whole = record { plain = is.plain; rows = λ _. rows_of f (map name_and_value is.head.fields) is.media; long = subst (λ l. IsAsLong l (body ++ more)) (sym is.untold) end };
}

-- or not all of it
pub report_cut : (f : Form) (bytes body more : List ℕ) → IsReport f bytes body → has_end (body ++ more) ≡ false → IsCutShort (bytes ++ more)
report_cut f bytes body more is unended = inr (record {
  head = is.head;
  body = body ++ more;
  reads = ReadsResponse-append bytes is.head body more is.reads;
  few = is.few;
  short = record { plain = is.plain; rows = λ _. rows_of f (map name_and_value is.head.fields) is.media; short = subst (λ l. IsTooShort l (body ++ more)) (sym is.untold) unended };
})
