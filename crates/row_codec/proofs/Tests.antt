-- Small laws of tests, options and numbers.
use Rattle.row_codec.proofs.Common.{Bool, None, Option, Some, arith, false, int_eq, ints, is_some, nat_tests, option_map, pos, refl, true, ℕ, ℤ, ◌&&◌, ◌+ℤ◌, ◌-ℤ◌, ◌-◌, ◌==◌, ◌≡◌}

pub same_bool : (a b : Bool) → (a ≡ true → b ≡ true) → (b ≡ true → a ≡ true) → a ≡ b
same_bool a b f g = grind (arith, f, g)

pub is_false : (b : Bool) → (b ≡ true → false ≡ true) → b ≡ false
is_false b f = grind (arith, f)

pub and_no : (a : Bool) → (a && false) ≡ false
and_no a = grind arith

pub some_is : {X : Type 0} (x y : X) → ◌≡◌ {A = Option X} (Some x) (Some y) → x ≡ y
some_is x y h = cc

pub none_is : {X : Type 0} (x : X) → ◌≡◌ {A = Option X} None (Some x) → false ≡ true
none_is x h = absurd (cc)

pub is_int : (a b : ℤ) → int_eq a b ≡ true → a ≡ b
is_int a b h = grind (arith, ints)

pub int_itself : (a : ℤ) → int_eq a a ≡ true
int_itself a = grind (arith, ints)

pub int_pos : (a b : ℕ) → int_eq (pos a) (pos b) ≡ (b == a)
int_pos a b = grind (arith, ints, nat_tests)

pub is_nat : (a b : ℕ) → (a == b) ≡ true → a ≡ b
is_nat a b h = grind (arith, nat_tests)

pub from_zero : (z y : ℤ) → z ≡ pos 0 → y ≡ z +ℤ y
from_zero z y h = omega (arith, ints)

pub left : (x y n : ℕ) → pos x -ℤ pos y ≡ pos n → n ≡ x - y
left x y n h = omega (arith, ints)

pub left_over : (x y n : ℕ) → pos 0 -ℤ (pos x -ℤ pos y) ≡ pos n → n ≡ y - x
left_over x y n h = omega (arith, ints)

pub twice : {X Y Z : Type 0} (f : Y → Z) (g : X → Y) (o : Option X) → option_map f (option_map g o) ≡ option_map (λ x. f (g x)) o
twice f g None = refl
twice f g (Some x) = refl

pub same_some : {X Y : Type 0} (f : X → Y) (o : Option X) → is_some (option_map f o) ≡ is_some o
same_some f None = refl
same_some f (Some x) = refl
