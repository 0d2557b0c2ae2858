-- What a body is, by what its head tells of its length.
use Rattle.desk_client.proofs.Common.{IsAsLong, IsExtent, IsExtentOf, IsOfRows, IsTooShort, List, None, Option, Some, [], ap, arith, codes, false, has_media, length, length-append, number_told, subst, sym, true, values_of, ℕ, ◌++◌, ◌<◌, ◌||◌, ◌∙◌, ◌∷◌, ◌≡◌}
use Rattle.reports.specs.declared.layout.Form.TheVariants as form
use Rattle.desk_client.specs.declared.whole.Extent.{Extent}
use Rattle.desk_client.specs.declared.whole.Extent.TheVariants as extent

abbrev parts : List (List ℕ × List ℕ) → List (List ℕ)
parts fields = values_of (codes "transfer-encoding") fields

abbrev lengths : List (List ℕ × List ℕ) → List (List ℕ)
lengths fields = values_of (codes "content-length") fields

pub some_is : (x y : ℕ) → ◌≡◌ {A = Option ℕ} (Some x) (Some y) → x ≡ y
some_is x y e = cc e

-- by one length
pub as_told : (value body : List ℕ) (told len : ℕ) → number_told value ≡ Some told → len ≡ length body → told ≡ len → IsExtent (value ∷ []) body extent.Whole
as_told value body told len is len_is same = is ∙ ap Some (same ∙ len_is)

pub less_than_told : (value body : List ℕ) (told len : ℕ) → number_told value ≡ Some told → len ≡ length body → len < told → IsExtent (value ∷ []) body extent.Short
less_than_told value body told len is len_is less = (told, is, subst (λ (n : ℕ). n < told) len_is less)

pub more_than_told : (value body : List ℕ) (told len : ℕ) → number_told value ≡ Some told → len ≡ length body → told < len → IsExtent (value ∷ []) body extent.Never
more_than_told value body told len is len_is less more long =
    omega (arith, less, len_is, length-append body more, some_is told (length (body ++ more)) (sym is ∙ long))

pub untold : (value body : List ℕ) → number_told value ≡ None → IsExtent (value ∷ []) body extent.Never
untold value body is more long = let no : None ≡ Some (length (body ++ more)) = sym is ∙ long in cc no

-- by all of them
by_lengths : (fields : List (List ℕ × List ℕ)) (body : List ℕ) (found : List (List ℕ)) (e : Extent) → parts fields ≡ [] → IsOfRows fields → lengths fields ≡ found
    → IsExtent found body e → IsExtentOf fields body e
by_lengths fields body found extent.Whole plain rows long is = record { plain = plain; rows = rows; long = subst (λ l. IsAsLong l body) (sym long) is }
by_lengths fields body found extent.Short plain rows long is = record { plain = plain; rows = rows; short = subst (λ l. IsTooShort l body) (sym long) is }
by_lengths fields body found extent.Never plain rows long is = λ more whole. is more (subst (λ l. IsAsLong l (body ++ more)) long whole.long)

pub by_length : (fields : List (List ℕ × List ℕ)) (body value : List ℕ) (e : Extent) → parts fields ≡ [] → lengths fields ≡ value ∷ [] → IsExtent (value ∷ []) body e → IsExtentOf fields body e
by_length fields body value e plain long is =
    by_lengths fields body (value ∷ []) e plain (λ none. let no : value ∷ [] ≡ [] = sym long ∙ none in cc no) long is

pub by_rows : (fields : List (List ℕ × List ℕ)) (body : List ℕ) (e : Extent) → parts fields ≡ [] → lengths fields ≡ [] → has_media form.Text fields || has_media form.Json fields ≡ true
    → IsExtent [] body e → IsExtentOf fields body e
by_rows fields body e plain long rows is = by_lengths fields body [] e plain (λ _. rows) long is

pub of_no_rows : (fields : List (List ℕ × List ℕ)) (body : List ℕ) → lengths fields ≡ [] → has_media form.Text fields || has_media form.Json fields ≡ false → IsExtentOf fields body extent.Never
of_no_rows fields body long other more whole = let no : false ≡ true = sym other ∙ whole.rows long in cc no

pub of_several : (fields : List (List ℕ × List ℕ)) (body first next : List ℕ) (rest : List (List ℕ)) → lengths fields ≡ first ∷ next ∷ rest
    → IsExtentOf fields body extent.Never
of_several fields body first next rest long more whole = absurd (subst (λ l. IsAsLong l (body ++ more)) long whole.long)

pub in_parts : (fields : List (List ℕ × List ℕ)) (body first : List ℕ) (rest : List (List ℕ)) → parts fields ≡ first ∷ rest
    → IsExtentOf fields body extent.Never
in_parts fields body first rest some more whole = let none : first ∷ rest ≡ [] = sym some ∙ whole.plain in cc none
