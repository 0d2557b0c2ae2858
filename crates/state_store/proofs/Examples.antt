-- The waybills that are asked for in a small book, computed.
use Rattle.state_store.proofs.Common.{Built, Delivered, Departed, FlightDate, Free, Hand, Irregular, List, Missing, Move, None, Place, Stored, Surplus, WaybillQuery, [], codes, map, refl, waybills_for, ℕ, ◌++◌, ◌∷◌, ◌≡◌}

abbrev flight : FlightDate
flight = record { flight = record { carrier = codes "LH"; number = 400; suffix = None }; day = 20465 }

abbrev moved : ℕ → Place → Place → ℕ → Move
moved w from to pieces = record { awb = w; from = from; to = to; pieces = pieces; tenths = 100; flight = None; at = record { day = 20465; minute = 600 } }

abbrev numbers : WaybillQuery → List Move → List ℕ
numbers query book = map (λ row. row.awb) (waybills_for query book)

-- ten pieces of 9 are received and four of 5; then all of 9 is built
abbrev built : List Move
built = moved 9 Hand Free 10 ∷ moved 5 Hand Free 4 ∷ moved 9 Free (Built flight) 10 ∷ []

example_stored : numbers Stored built ≡ 5 ∷ 9 ∷ []
example_stored = refl

example_none_irregular : numbers Irregular built ≡ []
example_none_irregular = refl

-- 9 leaves, and two pieces come back
example_left : numbers Stored (built ++ moved 9 (Built flight) Departed 10 ∷ []) ≡ 5 ∷ []
example_left = refl

example_taken_off : numbers Stored (built ++ moved 9 (Built flight) Free 2 ∷ moved 9 (Built flight) Departed 8 ∷ []) ≡ 5 ∷ 9 ∷ []
example_taken_off = refl

-- all of 5 is missing, and then is there again
abbrev lost : List Move
lost = built ++ moved 5 Free Missing 4 ∷ []

example_missing : numbers Irregular lost ≡ 5 ∷ []
example_missing = refl

example_not_in_store : numbers Stored lost ≡ 9 ∷ []
example_not_in_store = refl

example_there_again : numbers Irregular (lost ++ moved 5 Missing Free 4 ∷ []) ≡ []
example_there_again = refl

example_in_store_again : numbers Stored (lost ++ moved 5 Missing Free 4 ∷ []) ≡ 5 ∷ 9 ∷ []
example_in_store_again = refl

-- a piece that nobody announced stays one that was found
example_found : numbers Irregular (built ++ moved 7 Surplus Free 1 ∷ moved 7 Free Delivered 1 ∷ []) ≡ 7 ∷ []
example_found = refl

-- all of 5 goes back to the shipper
example_withdrawn : numbers Stored (built ++ moved 5 Free Hand 4 ∷ []) ≡ 9 ∷ []
example_withdrawn = refl
