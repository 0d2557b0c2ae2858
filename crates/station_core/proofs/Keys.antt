-- The length of a key, and that it is ASCII.
use Rattle.station_core.proofs.Common.{Bool, IsAscii, List, arith, false, is_key, is_key_byte, length, list_all, nat_le, nat_tests, true, ℕ, ◌&&◌, ◌<◌, ◌≡◌, ◌≤◌}
use Rattle.awb_number.proofs.Ascii.{IsAscii-tested}

middle : (n : ℕ) (a b : Bool) → (a && nat_le n 40 && b) ≡ true → n ≤ 40
middle n true true h = grind (arith, nat_tests)
middle n true false h = grind (arith, nat_tests)
middle n false b h = cc

pub length-key : (text : List ℕ) → is_key text ≡ true → length text ≤ 40
length-key text h = middle (length text) (nat_le 1 (length text)) (list_all is_key_byte text) h

last : (a b : Bool) → (a && b) ≡ true → b ≡ true
last true b h = h
last false b h = cc

ascii-key_byte : (b : ℕ) → is_key_byte b ≡ true → b < 128
ascii-key_byte b h = grind (arith, nat_tests)

pub IsAscii-key : (text : List ℕ) → is_key text ≡ true → IsAscii text
IsAscii-key text h = IsAscii-tested is_key_byte ascii-key_byte text (last (nat_le 1 (length text) && nat_le (length text) 40) (list_all is_key_byte text) h)
