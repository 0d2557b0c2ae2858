-- Two lists that are compared row by row.
use Rattle.table_audits.proofs.Common.{List, map, ◌↔◌, ◌≡◌}

module _ {X Y Z : Type 0} (f : X → Z) (g : Y → Z) (xs : List X) (ys : List Y) where
  -- two lists are the same where what is ahead of them is
  abbrev pub SameAhead : List X → List Y → Type 0
  SameAhead at bs = (map f xs ≡ map g ys) ↔ (map f at ≡ map g bs)
