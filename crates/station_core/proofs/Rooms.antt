-- Lists that are short enough have room.
use Rattle.std.specs.Prelude.{◌≡◌, ◌≤◌, Bool, ◌&&◌, nat_le, true, length}
use Rattle.std.proofs.Common.{refl, arith}
use Rattle.shipment_machine.specs.Cargo.{Cargo}
use Rattle.station_core.specs.Step.{has_room, most_rows}
use Rattle.station_core.specs.Keeping.{sizes_of}
use Rattle.station_core.specs.declared.stored.Sizes.{Sizes}

all_three : (a b c : Bool) → a ≡ true → b ≡ true → c ≡ true → (a && b && c) ≡ true
all_three a b c x y z = rw (x, y, z) refl

-- counts of 32 bits number all rows
pub all_numbered : (sizes : Sizes) (c : Cargo) → (sizes.moves ≤ most_rows)
    × (sizes.lines ≤ most_rows) × (sizes.messages ≤ most_rows) → sizes ≡ sizes_of c
    → has_room c ≡ true
all_numbered sizes c small are =
    let moves : nat_le (length c.book) most_rows ≡ true = grind (arith, small, are) in
    let lines : nat_le (length c.trail) most_rows ≡ true = grind (arith, small, are) in
    let messages : nat_le (length c.outbox) most_rows ≡ true = grind (arith, small, are) in
    all_three (nat_le (length c.book) most_rows) (nat_le (length c.trail) most_rows) (nat_le (length c.outbox) most_rows) moves lines messages
