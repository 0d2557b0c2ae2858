-- From the fault of a part to the fault of the bytes.
use Rattle.telegrams.proofs.Common.{Err, List, None, Ok, Option, RefusesAs, RefusesText, Result, Some, TextFault, fault_by, fault_of, normal_lines, ℕ, ◌≡◌}
use Rattle.telegrams.specs.declared.telegram.TelegramFault.{TelegramFault}
use Rattle.telegrams.specs.declared.telegram.TelegramFault.TheVariants as fault

abbrev none : Option TextFault
none = None

abbrev some_fault : TextFault → Option TextFault
some_fault told = Some told

-- a refusal for a fault that there isn't
no_fault : (due : Option TextFault) (f : TelegramFault) → RefusesAs None f → RefusesAs due f
no_fault due (fault.Refused refusal) h = absurd (nothing h.0 h.1)
  where
    nothing : (told : TextFault) → none ≡ some_fault told → ⊥
    nothing told e = cc
no_fault due fault.Memory h = tt

refused_by : (r : Result (List (List ℕ)) TextFault) (f : TelegramFault) → RefusesAs (fault_of r) f → RefusesAs (fault_by r) f
refused_by (Ok lines) f h = no_fault (fault_by (Ok lines)) f h
refused_by (Err told) f h = h

pub text_refused : (bytes : List ℕ) (f : TelegramFault) → RefusesAs (fault_of (normal_lines bytes)) f → RefusesText bytes f
text_refused bytes f h = refused_by (normal_lines bytes) f h
