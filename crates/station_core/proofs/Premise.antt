-- The premise of what calls say, over one call after another.
use Rattle.station_core.specs.Keeping.{KeepsPremise}

pub kept_on : {K : Type 0} {is_clean is_sound : K → Type 0} {old between new : K} → KeepsPremise is_clean is_sound old between → KeepsPremise is_clean is_sound between new
    → KeepsPremise is_clean is_sound old new
kept_on first next = record {
  clean = λ clean. first.clean (next.clean clean);
  still = λ sound clean. next.still (first.still sound (next.clean clean)) clean;
  sound = λ sound. first.sound (next.sound sound);
}

pub kept_at : {K : Type 0} {is_clean is_sound : K → Type 0} (keeper : K) → KeepsPremise is_clean is_sound keeper keeper
kept_at keeper = record {
  clean = λ clean. clean;
  still = λ sound clean. sound;
  sound = λ sound. sound;
}
