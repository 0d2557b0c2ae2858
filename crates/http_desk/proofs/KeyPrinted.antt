-- A key is read back from its segment.
use Rattle.http_desk.proofs.Common.{Bool, List, Some, [], and_from, and_parts, and_then, ap, arith, cases_Bool, cond-false, decoded, digit_glyph, digit_value, escaped_byte, false, if◌then◌else◌, is_key, is_key_byte, is_unescaped, key_in, key_segment, leb-true, length, length-append, list_all, list_all-append, lt-ltb, nat_le, nat_tests, not, option_and_then, printed_byte, refl, true, where_true, ℕ, ⊎_elim, ◌%◌, ◌&&◌, ◌*◌, ◌++◌, ◌+◌, ◌/◌, ◌<◌, ◌==◌, ◌∙◌, ◌∷◌, ◌≡◌, ◌≤◌}
use Rattle.percent_encoding.specs.Percent.{percent_encode_byte}

-- A byte is read as it was printed.

digit_again : (d : ℕ) → d < 16 → digit_value (digit_glyph true d) ≡ d
digit_again d low = grind (arith, nat_tests)

escaped_again : (b : ℕ) → b < 256 → escaped_byte (digit_glyph true (b / 16 % 16)) (digit_glyph true (b % 16)) ≡ Some b
escaped_again b byte =
    let high = digit_value (digit_glyph true (b / 16 % 16)) in
    let low = digit_value (digit_glyph true (b % 16)) in
    let first : high ≡ b / 16 % 16 = digit_again (b / 16 % 16) (omega arith) in
    let second : low ≡ b % 16 = digit_again (b % 16) (omega arith) in
    ap (λ (v : Bool). where_true v (16 * high + low)) (and_from _ _ (lt-ltb high 16 (omega (arith, first))) (lt-ltb low 16 (omega (arith, second))))
    ∙ ap Some (omega (arith, byte, first, second))

plain_first : (b : ℕ) (text : List ℕ) → (b == 37) ≡ false → decoded (b ∷ text) ≡ and_then (Some b) (decoded text)
plain_first b [] other = ap (λ (v : Bool). and_then (where_true (not v) b) (Some [])) other
plain_first b (c ∷ []) other = ap (λ (v : Bool). and_then (where_true (not v) b) (decoded (c ∷ []))) other
plain_first b (high ∷ low ∷ text) other = cond-false _ _ _ other

no_percent : (b : ℕ) → is_unescaped b ≡ true → (b == 37) ≡ false
no_percent b is = grind (arith, nat_tests, is)

byte_again : (b : ℕ) (text : List ℕ) → b < 256 → decoded (printed_byte b ++ text) ≡ and_then (Some b) (decoded text)
unfolding percent_encode_byte
byte_again b text low = ⊎_elim
    (λ is. ap (λ (v : Bool). decoded ((if v then b ∷ [] else percent_encode_byte b) ++ text)) is ∙ plain_first b text (no_percent b is))
    (λ is. ap (λ (v : Bool). decoded ((if v then b ∷ [] else percent_encode_byte b) ++ text)) is ∙ ap (λ byte. and_then byte (decoded text)) (escaped_again b low))
    (cases_Bool (is_unescaped b))

key_byte_low : (b : ℕ) → is_key_byte b ≡ true → b < 256
key_byte_low b is = grind (arith, nat_tests, is)

text_again : (key : List ℕ) → list_all is_key_byte key ≡ true → decoded (key_segment key) ≡ Some key
text_again [] all = refl
text_again (b ∷ bs) all =
    let parts = and_parts (is_key_byte b) (list_all is_key_byte bs) all in
    byte_again b (key_segment bs) (key_byte_low b parts.0) ∙ ap (and_then (Some b)) (text_again bs parts.1)

key_bytes : (key : List ℕ) → is_key key ≡ true → list_all is_key_byte key ≡ true
key_bytes key is = (and_parts (nat_le 1 (length key) && nat_le (length key) 40) (list_all is_key_byte key) is).1

pub key_again : (key : List ℕ) → is_key key ≡ true → key_in (key_segment key) ≡ Some key
key_again key is =
    ap (option_and_then (λ key. where_true (is_key key) key)) (text_again key (key_bytes key is)) ∙ ap (λ (v : Bool). where_true v key) is

-- The bytes of a segment, and its length.

module _ (p : ℕ → Bool) (unescaped : (b : ℕ) → is_unescaped b ≡ true → p b ≡ true) (percent : p 37 ≡ true) (digit : (d : ℕ) → d < 16 → p (digit_glyph true d) ≡ true) where
  byte_all : (b : ℕ) → list_all p (printed_byte b) ≡ true
  unfolding percent_encode_byte
  byte_all b = ⊎_elim
      (λ is. ap (λ (v : Bool). list_all p (if v then b ∷ [] else percent_encode_byte b)) is ∙ and_from _ _ (unescaped b is) refl)
      (λ is. ap (λ (v : Bool). list_all p (if v then b ∷ [] else percent_encode_byte b)) is
      ∙ and_from _ _ percent (and_from _ _ (digit (b / 16 % 16) (omega arith)) (and_from _ _ (digit (b % 16) (omega arith)) refl)))
      (cases_Bool (is_unescaped b))

  pub segment_all : (key : List ℕ) → list_all p (key_segment key) ≡ true
  segment_all [] = refl
  segment_all (b ∷ bs) = list_all-append p (printed_byte b) (key_segment bs) ∙ and_from _ _ (byte_all b) (segment_all bs)

three_at_most : (b : ℕ) → length (printed_byte b) ≤ 3
unfolding percent_encode_byte
three_at_most b = ⊎_elim
    (λ is. rw is (omega arith))
    (λ is. rw is (omega arith))
    (cases_Bool (is_unescaped b))

segment_length : (key : List ℕ) → length (key_segment key) ≤ 3 * length key
segment_length [] = omega arith
segment_length (b ∷ bs) = omega (arith, length-append (printed_byte b) (key_segment bs), three_at_most b, segment_length bs)

pub segment_few : (key : List ℕ) → is_key key ≡ true → length (key_segment key) ≤ 120
segment_few key is =
    let most : length key ≤ 40 = leb-true (length key) 40 (and_parts (nat_le 1 (length key)) (nat_le (length key) 40) (and_parts (nat_le 1 (length key) && nat_le (length key) 40) (list_all is_key_byte key) is).0).1 in
    omega (arith, segment_length key, most)
