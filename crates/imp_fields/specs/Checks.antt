-- Checks in sequence: the first that fails gives the reason.
use Rattle.std.specs.Prelude.{Option, Some, None, Result, Ok, Err}
use Rattle.imp_fields.specs.declared.fault.Why.{Why}

infixl 10 ◌>>=◌
abbrev pub ◌>>=◌ : {A B : Type 0} → Result A Why → (A → Result B Why) → Result B Why
(Ok x) >>= next = next x
(Err why) >>= next = Err why

-- the value, or the reason if it is absent
abbrev pub need : {A : Type 0} → Option A → Why → Result A Why
need (Some x) why = Ok x
need None why = Err why
