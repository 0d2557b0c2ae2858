-- The definitions on worked rows.
use Rattle.state_store.proofs.Common.{Desk, Flow, Holder, List, None, Option, Some, Void, [], amount, drawn_of, first_movement, held_of, named_by, nobody, refl, with_numbers, ℕ, ◌∷◌, ◌≡◌}
use Rattle.state_store.proofs.Below.{below}
use Rattle.station_core.specs.declared.rows.BookQuery.TheVariants.{After, All, Last}

-- the desk has 0200000010 to 0200000014, then five numbers are void
abbrev entries : List (ℕ × Option Holder)
entries = (200_000_010, Some Desk) ∷ (200_000_015, Some Void) ∷ (200_000_020, None) ∷ []

nobody_before : named_by None entries 200_000_009 ≡ None
nobody_before = refl

first_of_desk : named_by None entries 200_000_010 ≡ Some Desk
first_of_desk = refl

last_of_desk : named_by None entries 200_000_014 ≡ Some Desk
last_of_desk = refl

first_void : named_by None entries 200_000_015 ≡ Some Void
first_void = refl

nobody_behind : named_by None entries 200_000_020 ≡ None
nobody_behind = refl

given_within : with_numbers nobody 5 8 Desk 7 ≡ Some Desk
given_within = refl

not_given_at_end : with_numbers nobody 5 8 Desk 8 ≡ None
not_given_at_end = refl

not_below : below 8 (with_numbers nobody 5 10 Desk) 8 ≡ None
not_below = refl

-- ten pieces came and four went
abbrev ten_and_four : Flow
ten_and_four = record { came = record { pieces = 10; tenths = 250 }; went = record { pieces = 4; tenths = 100 } }

six_there : held_of ten_and_four ≡ amount 6 150
six_there = refl

none_drawn : drawn_of ten_and_four ≡ amount 0 0
none_drawn = refl

all_from_first : first_movement All 7 ≡ 0
all_from_first = refl

after_the_third : first_movement (After 3) 7 ≡ 3
after_the_third = refl

after_more_than_there_are : first_movement (After 9) 7 ≡ 7
after_more_than_there_are = refl

last_two_of_seven : first_movement (Last 2) 7 ≡ 5
last_two_of_seven = refl

last_nine_of_seven : first_movement (Last 9) 7 ≡ 0
last_nine_of_seven = refl
