-- The line of a fault is one of the lines, or 0.
use Rattle.telegrams.proofs.Common.{Bool, Err, IsFaultBy, IsFaultOf, List, None, Option, Some, TextFault, [], ap, arith, cargo_faults, cond, drop, false, fault_at, fault_in, fault_of, ffm_fault, ffm_line_faults, first_fault, from_line, fsu_fault, fsu_line_faults, fwb_fault, fwb_line_faults, has_last_line, is_message_line, length, length-map, line_fault, lines_of, ltb-false, map, nat_le, nat_lt, normal_lines, position, refl, take, true, unless_fault, ℕ, ◌++◌, ◌+◌, ◌<◌, ◌∷◌, ◌≡◌, ◌≤◌}
use Rattle.station_days.specs.Date.{or_else}
use Rattle.imp_fields.specs.declared.fault.Why.{Why}
use Rattle.imp_fields.specs.declared.fault.Why.TheVariants as why

abbrev some : TextFault → Option TextFault
some told = Some told

line_told : (n : ℕ) (w : Why) (told : TextFault) → some (fault_at n w) ≡ some told → n ≡ told.line
line_told n w told e = let same : fault_at n w ≡ told = cc in ap (λ f. f.line) same

first_fault_line : (n : ℕ) (faults : List (Option Why)) (told : TextFault) → first_fault n faults ≡ Some told → told.line < n + length faults
first_fault_line n [] told e = absurd cc
first_fault_line n (None ∷ faults) told e = omega (arith, first_fault_line (n + 1) faults told e)
first_fault_line n (Some w ∷ faults) told e = omega (arith, line_told n w told e)

-- every fault that there may be has a line of at most so much
abbrev pub IsWithin : Option TextFault → ℕ → Type 0
IsWithin due most = (told : TextFault) → due ≡ Some told → told.line ≤ most

ending_within : (lines : List (List ℕ)) (found : Option TextFault) (is_complete : Bool) → IsWithin found (length lines)
    → IsWithin (or_else found (cond is_complete None (Some (fault_at (length lines) why.Ending)))) (length lines)
ending_within lines (Some f) is_complete h told e = h told e
ending_within lines None true h told e = absurd cc
ending_within lines None false h told e = omega (arith, line_told (length lines) why.Ending told e)

fault_in_within : (lines : List (List ℕ)) (faults : List (Option Why)) (is_complete : Bool) → length faults ≤ length lines
    → IsWithin (fault_in lines faults is_complete) (length lines)
fault_in_within lines faults is_complete le =
    ending_within lines (first_fault 1 faults) is_complete (λ told e. omega (arith, first_fault_line 1 faults told e, le))

fwb_few : (lines : List (List ℕ)) → length (fwb_line_faults lines) ≤ length lines
fwb_few [] = omega arith
fwb_few (head ∷ []) = omega arith
fwb_few (head ∷ line ∷ unread) = omega arith

pub fwb_within : (lines : List (List ℕ)) → IsWithin (fwb_fault lines) (length lines)
fwb_within lines = fault_in_within lines (fwb_line_faults lines) (nat_le 2 (length lines)) (fwb_few lines)

cargo_few : (above below : List (List ℕ)) → length (cargo_faults above below) ≤ length below
cargo_few above [] = omega arith
cargo_few above (line ∷ below) = omega (arith, cargo_few (above ++ line ∷ []) below)

ffm_few : (lines : List (List ℕ)) → length (ffm_line_faults lines) ≤ length lines
ffm_few [] = omega arith
ffm_few (head ∷ []) = omega arith
ffm_few (head ∷ flight ∷ below) = omega (arith, cargo_few [] below)

pub ffm_within : (lines : List (List ℕ)) → IsWithin (ffm_fault lines) (length lines)
ffm_within lines = fault_in_within lines (ffm_line_faults lines) (has_last_line (drop 2 lines)) (ffm_few lines)

fsu_few : (lines : List (List ℕ)) → length (fsu_line_faults lines) ≤ length lines
fsu_few [] = omega arith
fsu_few (head ∷ []) = omega arith
fsu_few (head ∷ line ∷ trail) = omega arith

pub fsu_within : (lines : List (List ℕ)) → IsWithin (fsu_fault lines) (length lines)
fsu_within lines = fault_in_within lines (fsu_line_faults lines) (nat_le 3 (length lines)) (fsu_few lines)

-- ---- of the normal text

normal_within_by : (large many : Bool) (found : Option TextFault) (place : Option ℕ) (lines : List (List ℕ)) → (many ≡ false → IsWithin found 1000)
    → IsWithin (fault_of {A = List (List ℕ)} (cond large (Err (fault_at 0 why.Size)) (cond many (Err (fault_at 0 why.Lines)) (unless_fault found (from_line lines place))))) 1000
normal_within_by true many found place lines h told e = omega (arith, line_told 0 why.Size told e)
normal_within_by false true found place lines h told e = omega (arith, line_told 0 why.Lines told e)
normal_within_by false false (Some f) place lines h told e = h refl told e
normal_within_by false false None None lines h told e = omega (arith, line_told 0 why.Kind told e)
normal_within_by false false None (Some k) lines h told e = absurd cc

pub normal_within : (bytes : List ℕ) → IsWithin (fault_of (normal_lines bytes)) 1000
normal_within bytes =
    normal_within_by (nat_lt 65_536 (length bytes)) (nat_lt 1000 (length (lines_of bytes))) (first_fault 1 (map line_fault (lines_of bytes)))
    (position is_message_line (take 11 (lines_of bytes))) (lines_of bytes)
    (λ few told e. omega (arith, first_fault_line 1 (map line_fault (lines_of bytes)) told e, length-map (lines_of bytes) line_fault, ltb-false _ _ few))

-- ---- of what a reader returns

told_by_within : (w : Why) (line most : ℕ) (due : Option TextFault) → IsWithin due most → IsFaultBy w line due → line ≤ most
told_by_within why.Size line most due h e = h _ e
told_by_within why.Lines line most due h e = h _ e
told_by_within why.Byte line most due h e = h _ e
told_by_within why.Long line most due h e = h _ e
told_by_within why.Kind line most due h e = h _ e
told_by_within why.Ending line most due h e = h _ e
told_by_within why.Head line most due h e = h _ e
told_by_within why.Consignment line most due h e = h _ e
told_by_within why.Number line most due h e = h _ e
told_by_within why.Quantity line most due h e = h _ e
told_by_within why.Weight line most due h e = h _ e
told_by_within why.Date line most due h e = h _ e
told_by_within why.Flight line most due h e = h _ e
told_by_within why.Order line most due h e = h _ e
told_by_within why.Memory line most due h e = omega (arith, e)

pub told_within : (due : Option TextFault) (told : TextFault) (count most : ℕ) → IsWithin due count → count ≤ most → IsFaultOf due told → told.line ≤ most
told_within due told count most h le e = omega (arith, told_by_within told.why told.line count due h e, le)
