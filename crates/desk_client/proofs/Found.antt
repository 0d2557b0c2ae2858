-- What bytes are of a whole answer.
use Rattle.desk_client.proofs.Common.{Field, IsAsLong, IsExtentOf, IsFound, IsResponseOf, IsShortBody, IsTooShort, IsWholeBody, List, ReadsResponse, ResponseHead, [], ap, arith, drop, false, header_bytes, inr, length, length-drop, length-map, length-take, map, most_fields, name_and_value, response_prefix_free, response_unique, subst, sym, take, take-length, true, ℕ, ◌++◌, ◌-◌, ◌∙◌, ◌∷◌, ◌≡◌, ◌≤◌}
use Rattle.httparse.specs.declared.spans.HeaderSpan.{HeaderSpan}
use Rattle.httparse.specs.declared.spans.ResponseSpans.{ResponseSpans}
use Rattle.desk_client.specs.declared.whole.Extent.TheVariants as extent
use Rattle.desk_client.specs.declared.whole.Found.TheVariants as found
use Rattle.desk_client.proofs.Bodies.{some_is}

abbrev Fields : Type 0
Fields = List (List ℕ × List ℕ)

short_isnt_whole : (lengths : List (List ℕ)) (body : List ℕ) → IsTooShort lengths body → IsAsLong lengths body → ⊥
short_isnt_whole [] body short long = let wrong : false ≡ true = sym short ∙ long in cc wrong
short_isnt_whole (value ∷ []) body (n, told, less) long = omega (arith, less, some_is n (length body) (sym told ∙ long))
short_isnt_whole (value ∷ other ∷ values) body short long = short

-- the fields that were found are as few as there was room for
pub few_fields : (told : Fields) (fields : List Field) → told ≡ map name_and_value fields → length told ≤ most_fields → length fields ≤ most_fields
few_fields told fields is few = subst (λ (n : ℕ). n ≤ most_fields) (ap length is ∙ length-map fields name_and_value) few

-- one that ends within its body
pub cut_body : (bytes body : List ℕ) (told : Fields) (h : ResponseHead) → ReadsResponse bytes h body → told ≡ map name_and_value h.fields → length told ≤ most_fields
    → IsShortBody told body → IsFound bytes found.Cut
cut_body bytes body told h reads is few short =
    let by_head : IsShortBody (map name_and_value h.fields) body = subst (λ (fs : Fields). IsShortBody fs body) is short in (
      λ status other whole.
          let same = response_unique bytes h whole.head body other reads whole.reads in
          let all : IsWholeBody (map name_and_value h.fields) body =
          subst (λ (b : List ℕ). IsWholeBody (map name_and_value h.fields) b) (sym same.1) (subst (λ (k : ResponseHead). IsWholeBody (map name_and_value k.fields) other) (sym same.0) whole.whole) in
          short_isnt_whole _ body by_head.short all.long,
      inr (record { head = h; body = body; reads = reads; few = few_fields told h.fields is few; short = by_head }),
    )

-- no answer, by its body
pub never_body : (bytes body : List ℕ) (told : Fields) (h : ResponseHead) → ReadsResponse bytes h body → told ≡ map name_and_value h.fields
    → IsExtentOf told body extent.Never → IsFound bytes found.Foreign
never_body bytes body told h reads is never more status other whole =
    let same = response_prefix_free bytes more h whole.head body other reads whole.reads in
    let all : IsWholeBody told (body ++ more) =
    subst (λ (fs : Fields). IsWholeBody fs (body ++ more)) (sym is) (subst (λ (b : List ℕ). IsWholeBody (map name_and_value h.fields) b) (sym same.1) (subst (λ (k : ResponseHead). IsWholeBody (map name_and_value k.fields) other) (sym same.0) whole.whole)) in
    never more all

-- the same by what the parser answered

abbrev told_by : List ℕ → List HeaderSpan → ResponseSpans → Fields
told_by bytes headers spans = map (header_bytes bytes) (take spans.headers headers)

few_told : (bytes : List ℕ) (headers : List HeaderSpan) (spans : ResponseSpans) → length headers ≤ most_fields → length (told_by bytes headers spans) ≤ most_fields
few_told bytes headers spans room =
    omega (arith, room, length-map (take spans.headers headers) (header_bytes bytes), length-take spans.headers headers)

-- what stands behind the head
abbrev pub behind : List ℕ → ResponseSpans → List ℕ
behind bytes spans = take (length bytes - spans.len) (drop spans.len bytes)

pub behind_is : (bytes : List ℕ) (spans : ResponseSpans) → behind bytes spans ≡ drop spans.len bytes
behind_is bytes spans = ap (λ (n : ℕ). take n (drop spans.len bytes)) (sym (length-drop spans.len bytes)) ∙ take-length (drop spans.len bytes)

pub parsed_short : (bytes : List ℕ) (headers : List HeaderSpan) (spans : ResponseSpans) → IsResponseOf bytes headers spans → length headers ≤ most_fields
    → IsShortBody (told_by bytes headers spans) (behind bytes spans) → IsFound bytes found.Cut
parsed_short bytes headers spans (h, at) room short =
    cut_body bytes (drop spans.len bytes) (told_by bytes headers spans) h at.reads at.fields (few_told bytes headers spans room)
    (subst (λ (b : List ℕ). IsShortBody (told_by bytes headers spans) b) (behind_is bytes spans) short)

pub parsed_never : (bytes : List ℕ) (headers : List HeaderSpan) (spans : ResponseSpans) → IsResponseOf bytes headers spans
    → IsExtentOf (told_by bytes headers spans) (behind bytes spans) extent.Never → IsFound bytes found.Foreign
parsed_never bytes headers spans (h, at) never =
    never_body bytes (drop spans.len bytes) (told_by bytes headers spans) h at.reads at.fields
    (subst (λ (b : List ℕ). IsExtentOf (told_by bytes headers spans) b extent.Never) (behind_is bytes spans) never)
