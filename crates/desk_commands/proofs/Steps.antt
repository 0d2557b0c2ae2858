-- Fields read one after the other.
use Rattle.desk_commands.proofs.Common.{Bool, None, Option, Some, false, refl, true, where_true, ◌>>=◌, ◌≡◌}

pub some_is : {A : Type 0} (x y : A) → ◌≡◌ {A = Option A} (Some x) (Some y) → x ≡ y
some_is x y e = cc e

-- a test that was passed
pub passed : {A : Type 0} (b : Bool) (x y : A) → where_true b x ≡ Some y → (b ≡ true) × (x ≡ y)
passed true x y h = (refl, some_is x y h)
passed false x y h = cc h

pub passes : {A : Type 0} (b : Bool) (x : A) → b ≡ true → where_true b x ≡ Some x
passes true x h = refl
passes false x h = cc h

-- what was read, and what follows from the reading after it
pub reads : {A C G : Type 0} {m : Option A} {f : A → Option C} {R : A → Type 0} {y : C} → ((x : A) → m ≡ Some x → R x)
    → ((x : A) → R x → f x ≡ Some y → G) → (m >>= f) ≡ Some y → G
reads {m = None} is goes h = absurd (cc h)
reads {m = Some x} is goes h = goes x (is x refl) h
