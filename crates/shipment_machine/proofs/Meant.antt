-- The day that a date means.
use Rattle.shipment_machine.proofs.Common.{IfSome, IsMomentDay, IsSome, None, Option, Some, and_from, and_parts, ap, false, is_day, is_moment_day, is_some, le-leb, leb-true, nat_le, refl, sym, true, true≢false, ℕ, ◌↔◌, ◌∙◌, ◌≡◌}

inside : (day : ℕ) → IsMomentDay day → is_moment_day day ≡ true
inside day h = and_from _ _ (le-leb 10957 day h.0) (le-leb day 47481 h.1)

within : (day : ℕ) → is_moment_day day ≡ true → IsMomentDay day
within day h = let both = and_parts (nat_le 10957 day) (nat_le day 47481) h in (leb-true 10957 day both.0, leb-true day 47481 both.1)

pub meant : (m : Option ℕ) (n : ℕ) (r : Option ℕ) → m ≡ Some n → (IsSome r ↔ IsMomentDay n) → IfSome r (λ d. d ≡ n) → IfSome r (λ d. (m ≡ Some d) × (is_day m ≡ true))
meant m n None e h v = tt
meant m n (Some d) e h v = (e ∙ ap Some (sym v), ap is_day e ∙ inside n (h.0 refl))

pub not_meant : (m : Option ℕ) (n : ℕ) (r : Option ℕ) → m ≡ Some n → (IsSome r ↔ IsMomentDay n) → r ≡ None → is_day m ≡ false
not_meant m n r e h none = ap is_day e ∙ (elim (is_moment_day n) as (λ b. is_moment_day n ≡ b → b ≡ false) [
  | true ↦ λ day. absurd (true≢false (sym (h.1 (within n day)) ∙ ap is_some none))
  | false ↦ λ _. refl
] refl)
