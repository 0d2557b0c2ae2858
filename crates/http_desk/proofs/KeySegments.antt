-- The code of keys' segments, and their definitions.
use Rattle.http_desk.proofs.Common.{Bool, List, None, Option, Some, [], agree_below_at, and_then, ap, append_assoc, arith, cases_Bool, decoded, false, if◌then◌else◌, is_key, is_key_byte, is_unescaped, key_in, key_segment, length, length-append, length-take, list_all, ltb-true, nat_le, nat_lt, nat_tests, not, option_and_then, option_map, printed_byte, refl, set, sym, take, take_more_set, true, where_true, ℕ, ⊎_elim, ◌&&◌, ◌++◌, ◌+◌, ◌<◌, ◌∙◌, ◌∷◌, ◌≡◌}
use Rattle.percent_encoding.specs.AsciiSet.{should_percent_encode}
use Rattle.percent_encoding.specs.Percent.{encode_byte, percent_encode, percent_encode_byte}
use Rattle.http_desk.specs.declared.route.TheConstants.{ESCAPED}

-- A segment is printed by the set of the escaped bytes.

is_escaped : (b : ℕ) → should_percent_encode ESCAPED b ≡ not (is_unescaped b)
unfolding should_percent_encode
is_escaped b = ⊎_elim
    (λ low. agree_below_at (should_percent_encode ESCAPED) (λ b. not (is_unescaped b)) 128 b refl (ltb-true b 128 low))
    (λ high. grind (arith, nat_tests, high))
    (cases_Bool (nat_lt b 128))

printed : (b : ℕ) → encode_byte ESCAPED b ≡ printed_byte b
printed b = ap (λ (v : Bool). if v then percent_encode_byte b else b ∷ []) (is_escaped b) ∙ swapped (is_unescaped b)
  where
    swapped : (v : Bool) → (if not v then percent_encode_byte b else b ∷ []) ≡ (if v then b ∷ [] else percent_encode_byte b)
    swapped true = refl
    swapped false = refl

pub segment_is : (key : List ℕ) → percent_encode ESCAPED key ≡ key_segment key
unfolding percent_encode
segment_is [] = refl
segment_is (b ∷ bs) = ap (λ front. front ++ percent_encode ESCAPED bs) (printed b) ∙ ap (λ more. printed_byte b ++ more) (segment_is bs)

-- A segment is decoded byte by byte.

abbrev pub after : List ℕ → Option (List ℕ) → Option (List ℕ)
after front more = option_map (λ bs. front ++ bs) more

after_byte : (front : List ℕ) (b : ℕ) (more : Option (List ℕ)) → after front (and_then (Some b) more) ≡ after (front ++ b ∷ []) more
after_byte front b None = refl
after_byte front b (Some bs) = ap Some (sym (append_assoc front (b ∷ []) bs))

pub one_more : (bytes rest later : List ℕ) (len b : ℕ) (whole : Option (List ℕ)) → whole ≡ after (take len bytes) (decoded rest) → decoded rest ≡ and_then (Some b) (decoded later)
    → len < length bytes → whole ≡ after (take (len + 1) (set bytes len b)) (decoded later)
one_more bytes rest later len b whole so_far next room =
    so_far ∙ ap (after (take len bytes)) next ∙ after_byte (take len bytes) b (decoded later)
    ∙ ap (λ front. after front (decoded later)) (sym (take_more_set bytes len b room))

-- A text of more than forty bytes isn't a key.

not_key : (text : List ℕ) → 40 < length text → is_key text ≡ false
not_key text long = ap (λ (v : Bool). (nat_le 1 (length text) && v) && list_all is_key_byte text) (grind (arith, nat_tests, long)) ∙ ap (λ (v : Bool). v && list_all is_key_byte text) (no_more (nat_le 1 (length text)))
  where
    no_more : (v : Bool) → (v && false) ≡ false
    no_more true = refl
    no_more false = refl

pub too_long : (bytes rest later : List ℕ) (len b : ℕ) (segment : List ℕ) → length bytes ≡ 40 → len ≡ 40 → decoded segment ≡ after (take len bytes) (decoded rest)
    → decoded rest ≡ and_then (Some b) (decoded later) → key_in segment ≡ None
too_long bytes rest later len b segment size full so_far next =
    ap (option_and_then (λ key. where_true (is_key key) key)) (so_far ∙ ap (after (take len bytes)) next) ∙ none (decoded later)
  where
    none : (more : Option (List ℕ)) → option_and_then (λ key. where_true (is_key key) key) (after (take len bytes) (and_then (Some b) more)) ≡ None
    none None = refl
    none (Some bs) =
        let text : List ℕ = take len bytes ++ b ∷ bs in
        ap (λ (v : Bool). where_true v text) (not_key text (omega (arith, length-append (take len bytes) (b ∷ bs), length-take len bytes, size, full)))
