-- Sums that are kept in memory beside the rows.
use Rattle.std.specs.Prelude.{◌≡◌, ℕ, if◌then◌else◌, Option, Some, None, IfSome}
use Rattle.std.specs.BTreeMap.{get}
use Rattle.row_codec.specs.Common.{option_map, nat_cmp, Place, Hand, Surplus, Free, Built, Departed, Delivered, Missing, Transferred, Tally}
use Rattle.shipment_machine.specs.Book.{same_place}
use Rattle.row_codec.specs.Stored.{unless_nothing, Sums}
use Rattle.row_codec.specs.declared.known.LoadSums.{LoadSums}
use Rattle.row_codec.specs.declared.known.PlaceSums.{PlaceSums}
use Rattle.row_codec.specs.declared.known.KnownSums.{KnownSums}

-- what is kept of a place, if it isn't a built one
abbrev pub sum_at : PlaceSums → Place → Option Tally
sum_at kept Hand = Some kept.hand
sum_at kept Surplus = Some kept.surplus
sum_at kept Free = Some kept.free
sum_at kept (Built _) = None
sum_at kept Departed = Some kept.departed
sum_at kept Delivered = Some kept.delivered
sum_at kept Missing = Some kept.missing
sum_at kept Transferred = Some kept.transferred

-- another sum at a place
abbrev pub with_sum : PlaceSums → Place → Tally → PlaceSums
with_sum kept Hand sum = record kept { hand = sum }
with_sum kept Surplus sum = record kept { surplus = sum }
with_sum kept Free sum = record kept { free = sum }
with_sum kept (Built _) sum = kept
with_sum kept Departed sum = record kept { departed = sum }
with_sum kept Delivered sum = record kept { delivered = sum }
with_sum kept Missing sum = record kept { missing = sum }
with_sum kept Transferred sum = record kept { transferred = sum }

-- what is kept are the sums of a waybill
abbrev pub AreSumsOf : PlaceSums → (Place → Tally) → Type 0
AreSumsOf kept sums = (place : Place) → IfSome (sum_at kept place) (λ sum. sum ≡ sums place)

-- what is kept of a waybill at a place, if that is on the flight
abbrev pub sum_on : LoadSums → ℕ → Place → Option Tally
sum_on kept w place = if same_place (Built kept.flight) place then get nat_cmp kept.sums w else None

-- what is kept are sums on a flight
abbrev pub AreSumsOn : LoadSums → Sums → Type 0
AreSumsOn kept sums = (w : ℕ) (place : Place) → IfSome (sum_on kept w place) (λ sum. sum ≡ sums w place)

-- all that is kept is true of these sums
pub record AreKnown (known : KnownSums) (sums : Sums) : Type 0 where
  pub counts : IfSome known.counts (λ c. AreSumsOf c.sums (sums c.awb))
  pub builds : IfSome known.builds (λ b. AreSumsOn b sums)

-- a sum is what stands in a row, or nothing where there is none
abbrev pub IsRowOf : {V : Type 0} → (V → Tally) → Option V → Tally → Type 0
IsRowOf amount row sum = option_map amount row ≡ unless_nothing sum
