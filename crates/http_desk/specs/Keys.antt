-- A key as a segment of a path, percent-encoded (RFC 3986, section 2.1).
use Rattle.std.specs.Prelude.{ℕ, ◌+◌, ◌*◌, ◌==◌, ◌&&◌, ◌||◌, not, Bool, if◌then◌else◌, Option, Some, option_map, option_and_then, List, [], ◌∷◌}
use Rattle.http_desk.specs.Common.{digit_value, is_ascii_alphanumeric, is_digit, flat_map, percent_encode_byte, percent_sign, where_true, is_key}

-- A letter, a digit, `-`, `_` and `~` are printed as they are. A dot isn't, so that `.json` at the
-- end of a printed path isn't part of the key.
abbrev pub is_unescaped : ℕ → Bool
is_unescaped b = is_ascii_alphanumeric b || b == 45 || b == 95 || b == 126

-- any other byte is printed as a percent sign and its two upper-case hexadecimal digits
abbrev pub printed_byte : ℕ → List ℕ
printed_byte b = if is_unescaped b then b ∷ [] else percent_encode_byte b

abbrev pub key_segment : List ℕ → List ℕ
key_segment key = flat_map printed_byte key

-- A percent sign and two hexadecimal digits, of either case, stand for the byte of that value. Any
-- other byte stands for itself, and a percent sign without the two digits for nothing.
abbrev pub escaped_byte : ℕ → ℕ → Option ℕ
escaped_byte high low =
    where_true (is_digit high 16 && is_digit low 16) (16 * digit_value high + digit_value low)

abbrev pub own_byte : ℕ → Option ℕ
own_byte b = where_true (not (b == percent_sign)) b

-- a byte and the bytes after it, if there are both
abbrev pub and_then : Option ℕ → Option (List ℕ) → Option (List ℕ)
and_then first more = option_and_then (λ b. option_map (λ bs. b ∷ bs) more) first

-- the bytes that a segment stands for
abbrev pub decoded : List ℕ → Option (List ℕ)
decoded [] = Some []
decoded (b ∷ []) = and_then (own_byte b) (decoded [])
decoded (b ∷ c ∷ []) = and_then (own_byte b) (decoded (c ∷ []))
decoded (b ∷ high ∷ low ∷ text) =
    if b == percent_sign then and_then (escaped_byte high low) (decoded text)
    else and_then (Some b) (decoded (high ∷ low ∷ text))

-- the key that a segment stands for
abbrev pub key_in : List ℕ → Option (List ℕ)
key_in segment = option_and_then (λ key. where_true (is_key key) key) (decoded segment)
