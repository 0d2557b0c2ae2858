-- Fields of orders: codes of agents, and counts.
use Rattle.std.specs.Prelude.{ℕ, Bool, ◌&&◌, nat_le, List, length, ◌≤◌}
use Rattle.std.specs.List.{list_all}
use Rattle.awb_number.specs.Number.{is_letter_or_digit}

-- Codes of agents.

-- one to eleven letters or digits
abbrev pub is_agent_code : List ℕ → Bool
is_agent_code text = nat_le 1 (length text) && nat_le (length text) 11 && list_all is_letter_or_digit text

-- The count of a run.

-- the largest count of an order: seven digits
abbrev pub largest_count : ℕ
largest_count = 9_999_999

abbrev pub IsRunCount : ℕ → Type 0
IsRunCount count = count ≤ largest_count
