-- What has come of an input, read by read.
use Rattle.std.proofs.Common.{◌≡◌, ◌∙◌, ap, sym, refl, arith, ℕ, ◌<◌, ◌≤◌, List, [], ◌++◌, length, append_assoc, length-append, length-take-le, Result, Ok, Err, take}
use Rattle.cli_run.proofs.Common.{Given, HasCome, HasGrown, IsWithin, ReadStep, most_bytes, most_come, most_read, ◌⊎◌}
use Rattle.station_core.specs.declared.ends.ReadFault.{ReadFault}
use Rattle.station_core.specs.declared.ends.ReadFault.TheVariants as fault

at_most : (a b d : ℕ) → a ≤ b → b ≤ d → a ≤ d
at_most a b d ab bd = omega (arith, ab, bd)

pub grown_more : (a b d : Given) (xs ys : List ℕ) → HasGrown a b [] xs → HasGrown b d xs ys → HasGrown a d [] ys
grown_more a b d xs ys first more =
    let whole : first.part ++ more.part ≡ ys = ap (λ l. l ++ more.part) (sym first.bytes) ∙ sym more.bytes in
    record {
      part = ys;
      bytes = refl;
      given = more.given ∙ ap (λ l. l ++ more.part) first.given ∙ append_assoc a.bytes first.part more.part ∙ ap (λ l. a.bytes ++ l) whole;
      failures = more.failures ∙ first.failures;
      idle = at_most a.idle b.idle d.idle first.idle more.idle;
    }

pub has_come : (most : ℕ) (a d : Given) (ys : List ℕ) → HasGrown a d [] ys → (a.idle < d.idle) ⊎ (most < length ys) → HasCome most a d ys
has_come most a d ys grown ended = record {
  given = grown.given ∙ ap (λ l. a.bytes ++ l) (sym grown.bytes);
  failures = grown.failures;
  ended = ended;
}

-- one read brings no more than it has room for
pub read_within : (old new : Given) (r : Result ℕ ReadFault) (buf : List ℕ) → ReadStep old new r buf → IsWithin (length buf) old new
read_within old new (Ok n) buf step =
    omega (arith, step.0, ap length step.1.bytes, length-append old.bytes (take n buf), length-take-le n buf step.0)
read_within old new (Err fault.Interrupted) buf step = omega (arith, ap length step.bytes)
read_within old new (Err fault.Failed) buf step = omega (arith, ap length step.bytes)

-- one read more behind an input that isn't too long yet
pub more_within : (a d e : Given) (xs : List ℕ) → HasGrown a d [] xs → length xs ≤ most_bytes → IsWithin most_read d e → IsWithin most_come a e
more_within a d e xs grown few more =
    omega (arith, few, more, ap length grown.given, ap length grown.bytes, length-append a.bytes grown.part)

pub still_within : (a d : Given) (xs : List ℕ) → HasGrown a d [] xs → length xs ≤ most_bytes → IsWithin most_come a d
still_within a d xs grown few =
    omega (arith, few, ap length grown.given, ap length grown.bytes, length-append a.bytes grown.part)
