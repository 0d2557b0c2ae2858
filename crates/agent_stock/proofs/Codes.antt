-- The length of an agent's code.
use Rattle.agent_stock.proofs.Common.{Bool, IsAscii, List, arith, false, is_agent_code, length, list_all, nat_le, nat_tests, true, ℕ, ◌&&◌, ◌≡◌, ◌≤◌}
use Rattle.awb_number.specs.Number.{is_letter_or_digit}
use Rattle.awb_number.proofs.Ascii.{IsAscii-tested, ascii-letter_or_digit}

middle : (n : ℕ) (a b : Bool) → (a && nat_le n 11 && b) ≡ true → n ≤ 11
middle n true true h = grind (arith, nat_tests)
middle n true false h = grind (arith, nat_tests)
middle n false b h = cc

pub length-code : (text : List ℕ) → is_agent_code text ≡ true → length text ≤ 11
length-code text h = middle (length text) (nat_le 1 (length text)) (list_all is_letter_or_digit text) h

last : (a b : Bool) → (a && b) ≡ true → b ≡ true
last true b h = h
last false b h = cc

pub IsAscii-code : (text : List ℕ) → is_agent_code text ≡ true → IsAscii text
IsAscii-code text h = IsAscii-tested is_letter_or_digit ascii-letter_or_digit text (last (nat_le 1 (length text) && nat_le (length text) 11) (list_all is_letter_or_digit text) h)
