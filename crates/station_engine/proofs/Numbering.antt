-- Whether all rows can be numbered after a plan.
use Rattle.station_engine.proofs.Common.{Bool, Cargo, Change, List, Plan, [], ap, arith, carried_out, filter, has_room, is_line, length, length-append, nat_le, outcome_of, refl, sent, sizes_of, suc, sym, written, written_all, ℕ, ◌&&◌, ◌++◌, ◌+◌, ◌∙◌, ◌∷◌, ◌≡◌}
use Rattle.shipment_machine.specs.declared.plans.Change.TheVariants.{Declare, UseUp, NoteFlight, Expect, NotePart, Trail, Confirm}
use Rattle.station_core.specs.declared.stored.Sizes.{Sizes}

-- what the changes leave of the numbered rows
pub record IsAfter (text : List ℕ) (changes : List Change) (s : Cargo) : Type 0 where
  pub book : (written_all text changes s).book ≡ s.book
  pub outbox : (written_all text changes s).outbox ≡ s.outbox
  pub lines : length (written_all text changes s).trail ≡ length s.trail + length (filter is_line changes)

more : (n a b k : ℕ) → n ≡ a + k → a ≡ b + 1 → n ≡ b + suc k
more n a b k e f = omega (arith, e, f)

pub after_changes : (text : List ℕ) (changes : List Change) (s : Cargo) → IsAfter text changes s
after_changes text [] s = record { book = refl; outbox = refl; lines = omega arith }
after_changes text (Declare w d ∷ cs) s = let k = after_changes text cs (written text (Declare w d) s) in record { book = k.book; outbox = k.outbox; lines = k.lines }
after_changes text (UseUp w ∷ cs) s = let k = after_changes text cs (written text (UseUp w) s) in record { book = k.book; outbox = k.outbox; lines = k.lines }
after_changes text (NoteFlight f o ∷ cs) s = let k = after_changes text cs (written text (NoteFlight f o) s) in record { book = k.book; outbox = k.outbox; lines = k.lines }
after_changes text (Expect f w e ∷ cs) s = let k = after_changes text cs (written text (Expect f w e) s) in record { book = k.book; outbox = k.outbox; lines = k.lines }
after_changes text (NotePart p ∷ cs) s = let k = after_changes text cs (written text (NotePart p) s) in record { book = k.book; outbox = k.outbox; lines = k.lines }
after_changes text (Trail w l ∷ cs) s =
    let k = after_changes text cs (written text (Trail w l) s) in
    record { book = k.book; outbox = k.outbox; lines = more _ _ _ _ k.lines (length-append s.trail ((w, l) ∷ [])) }
after_changes text (Confirm n ∷ cs) s = let k = after_changes text cs (written text (Confirm n) s) in record { book = k.book; outbox = k.outbox; lines = k.lines }

pub room_after : (text : List ℕ) (plan : Plan) (messages : List (List ℕ)) (s : Cargo) → has_room (sent messages (carried_out text (outcome_of plan) s))
    ≡ (nat_le (length s.book + length plan.moves.items) 4_294_967_295 && nat_le (length s.trail + length (filter is_line plan.changes.items)) 4_294_967_295 && nat_le (length s.outbox + length messages) 4_294_967_295)
room_after text plan messages s =
    let k = after_changes text plan.changes.items (record s { book = s.book ++ plan.moves.items }) in
    λ i. nat_le ((ap length k.book ∙ length-append s.book plan.moves.items) i) 4_294_967_295 && nat_le (k.lines i) 4_294_967_295 && nat_le ((length-append (written_all text plan.changes.items (record s { book = s.book ++ plan.moves.items })).outbox messages ∙ ap (λ o. length o + length messages) k.outbox) i) 4_294_967_295

pub room_by : (sizes : Sizes) (text : List ℕ) (plan : Plan) (messages : List (List ℕ)) (s : Cargo) → sizes ≡ sizes_of s → (a b c : Bool) → a ≡ nat_le (sizes.moves + length plan.moves.items) 4_294_967_295 → b ≡ nat_le (sizes.lines + length (filter is_line plan.changes.items)) 4_294_967_295
    → c ≡ nat_le (sizes.messages + length messages) 4_294_967_295 → (a && b && c) ≡ has_room (sent messages (carried_out text (outcome_of plan) s))
room_by sizes text plan messages s is a b c moves lines sent_ =
    (λ i. moves i && lines i && sent_ i)
    ∙ ap (λ (z : Sizes). nat_le (z.moves + length plan.moves.items) 4_294_967_295 && nat_le (z.lines + length (filter is_line plan.changes.items)) 4_294_967_295 && nat_le (z.messages + length messages) 4_294_967_295) is
    ∙ sym (room_after text plan messages s)
