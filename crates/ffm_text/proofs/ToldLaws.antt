-- Which faults of a manifest's lines are reported.
use Rattle.ffm_text.proofs.Common.{AllNone, Bool, CalendarDay, Designator, Err, FlightLine, IsCargo, IsFaultBy, IsFaultOf, List, None, Ok, Option, Result, Shipment, Some, TextFault, Token, Unloaded, Why, [], add-one, airport_of, ap, append-nil, append_assoc, arith, cargo_fault, cargo_faults, codes, cond, cond-true, cond_both, consignment_by, consignment_of, count_of, date_in, drop, err_of, err_of-ok, false, fault_at, fault_in, ffm_fault, ffm_line_faults, field, first_fault, first_fault-all_none, flight_line_of, flight_of, get_or, has_consignment_shape, has_last_line, is_cargo_line, is_head, last_point, length, length-map, length-take-le, map-append, need, number_of, option_and_then, option_map, ordered_fault, quantity_of, quantity_part, refl, slice_range, subst, suc, sym, take, take-append-drop, take_all, texts_of, true, unless_true-holds, ℕ, ◌++◌, ◌+◌, ◌-◌, ◌<◌, ◌>>=◌, ◌∙◌, ◌∷◌, ◌≡◌, ◌≤◌}
use Rattle.awb_number.specs.declared.awb.AwbFault.{AwbFault}
use Rattle.imp_fields.specs.declared.amount.Quantity.{Quantity}
use Rattle.imp_fields.specs.declared.fault.Why.TheVariants as why
use Rattle.ffm_text.proofs.Laws.{cargo_has_no_fault}
use Rattle.std.proofs.Math.Seq.{drop-cons}
use Rattle.station_days.specs.Date.{or_else}

-- a fault of the text, and not of the memory
abbrev pub IsOfText : Why → Type 0
IsOfText why.Memory = ⊥
IsOfText other = Unit {0}

pub told_at : (fault : Option TextFault) (line : ℕ) (w : Why) → IsOfText w → fault ≡ Some (fault_at line w) → IsFaultBy w line fault
told_at fault line why.Size h e = e
told_at fault line why.Lines h e = e
told_at fault line why.Byte h e = e
told_at fault line why.Long h e = e
told_at fault line why.Kind h e = e
told_at fault line why.Ending h e = e
told_at fault line why.Head h e = e
told_at fault line why.Consignment h e = e
told_at fault line why.Number h e = e
told_at fault line why.Quantity h e = e
told_at fault line why.Weight h e = e
told_at fault line why.Date h e = e
told_at fault line why.Flight h e = e
told_at fault line why.Order h e = e
told_at fault line why.Memory h e = absurd h

-- what is reported of some of the lines is reported of them all
told_by : (a b : Option TextFault) → ((f : TextFault) → a ≡ Some f → b ≡ Some f) → (line : ℕ) (w : Why) → IsFaultBy w line a → IsFaultBy w line b
told_by a b more line why.Size h = more _ h
told_by a b more line why.Lines h = more _ h
told_by a b more line why.Byte h = more _ h
told_by a b more line why.Long h = more _ h
told_by a b more line why.Kind h = more _ h
told_by a b more line why.Ending h = more _ h
told_by a b more line why.Head h = more _ h
told_by a b more line why.Consignment h = more _ h
told_by a b more line why.Number h = more _ h
told_by a b more line why.Quantity h = more _ h
told_by a b more line why.Weight h = more _ h
told_by a b more line why.Date h = more _ h
told_by a b more line why.Flight h = more _ h
told_by a b more line why.Order h = more _ h
told_by a b more line why.Memory h = h

pub told_more : (a b : Option TextFault) → ((f : TextFault) → a ≡ Some f → b ≡ Some f) → (told : TextFault) → IsFaultOf a told → IsFaultOf b told
told_more a b more told h = told_by a b more told.line told.why h

-- ---- which words a line's fault has

abbrev TellsText : {A : Type 0} → Result A Why → Type 0
TellsText {A} r = (w : Why) → r ≡ Err w → IsOfText w

need_tells : {A : Type 0} (o : Option A) (w : Why) → IsOfText w → TellsText (need o w)
need_tells (Some x) w h v e = absurd cc
need_tells None w h v e = let same : w ≡ v = cc in subst IsOfText same h

steps_tell : {A B : Type 0} (r : Result A Why) (next : A → Result B Why) → TellsText r → ((x : A) → TellsText (next x)) → TellsText (r >>= next)
steps_tell (Ok x) next h more = more x
steps_tell (Err w) next h more = λ v e. h v (let same : w ≡ v = cc in ap (λ u. Err u) same)

by_tells : (line : List ℕ) (r : Result ℕ AwbFault) (q : Option Quantity) → TellsText (consignment_by line r q)
by_tells line (Err fault) q w e = let same : why.Number ≡ w = cc in subst IsOfText same tt
by_tells line (Ok awb) None w e = let same : why.Quantity ≡ w = cc in subst IsOfText same tt
by_tells line (Ok awb) (Some quantity) w e = absurd cc

told_word : (v w : Why) → IsOfText v → (r : Result Shipment Why) → r ≡ Err v → r ≡ Err w → IsOfText w
told_word v w h r d e = let same : v ≡ w = cc in subst IsOfText same h

consignment_tells : (line : List ℕ) → TellsText (consignment_of line)
consignment_tells line =
    cond_both (has_consignment_shape line) (consignment_by line (number_of (take 12 line)) (quantity_of (quantity_part line))) (Err why.Consignment) TellsText
    (λ shaped. by_tells line (number_of (take 12 line)) (quantity_of (quantity_part line)))
    (λ other. (λ w e. told_word why.Consignment w tt (Err why.Consignment) refl e))

ordered_tells : (r : Result Shipment Why) (point : Option (List ℕ)) (w : Why) → TellsText r → ordered_fault r point ≡ Some w → IsOfText w
ordered_tells (Err v) point w h e = h w (let same : v ≡ w = cc in ap (λ u. Err u) same)
ordered_tells (Ok s) None w h e = let same : why.Order ≡ w = cc in subst IsOfText same tt
ordered_tells (Ok s) (Some p) w h e = absurd cc

-- a line of cargo that is reported
pub cargo_told : (above : List (List ℕ)) (line : List ℕ) (point : Option (List ℕ)) (number : ℕ) (w : Why) (told : TextFault) → point ≡ last_point above → is_cargo_line line ≡ true
    → ordered_fault (consignment_of line) point ≡ Some w → told ≡ fault_at number w → IsFaultOf (option_map (fault_at number) (cargo_fault above line)) told
cargo_told above line point number w told at is e same =
    let fault : cargo_fault above line ≡ Some w = cond-true _ _ _ is ∙ ap (ordered_fault (consignment_of line)) (sym at) ∙ e in
    subst (IsFaultOf (option_map (fault_at number) (cargo_fault above line))) (sym same)
    (told_at (option_map (fault_at number) (cargo_fault above line)) number w (ordered_tells (consignment_of line) point w (consignment_tells line) e) (ap (option_map (fault_at number)) fault))

-- ---- the flight line

abbrev done : FlightLine → Result FlightLine Why
done line = Ok line

done_tells : (line : FlightLine) → TellsText (done line)
done_tells line w e = absurd cc

flight_tells : (line : List ℕ) → TellsText (flight_line_of line)
flight_tells line =
    steps_tell _ _ (need_tells (option_and_then count_of (field line 0)) why.Flight tt)
    (λ (sequence : ℕ). steps_tell _ _ (need_tells (option_and_then flight_of (field line 1)) why.Flight tt)
    (λ (flight : Designator). steps_tell _ _ (need_tells (field line 2) why.Flight tt)
    (λ (day : List ℕ). steps_tell _ _ (need_tells (date_in day) why.Date tt)
    (λ (date : CalendarDay). steps_tell _ _ (need_tells (option_and_then airport_of (field line 3)) why.Flight tt)
    (λ (loaded : List ℕ). done_tells (record { sequence = sequence; flight = flight; date = date; loaded = loaded }))))))

-- a flight line that is reported
pub flight_told : (line : List ℕ) (number : ℕ) (w : Why) (fault : Option TextFault) (told : TextFault) → flight_line_of line ≡ Err w → told ≡ fault_at number w
    → fault ≡ Some (fault_at number w) → IsFaultOf fault told
flight_told line number w fault told e same is = subst (IsFaultOf fault) (sym same) (told_at fault number w (flight_tells line w e) is)

-- ---- the lines in order

cargo_faults-append : (above below rest : List (List ℕ)) → cargo_faults above (below ++ rest) ≡ cargo_faults above below ++ cargo_faults (above ++ below) rest
cargo_faults-append above [] rest = ap (λ ls. cargo_faults ls rest) (sym (append-nil above))
cargo_faults-append above (line ∷ below) rest =
    ap (λ fs. cargo_fault above line ∷ fs) (cargo_faults-append (above ++ line ∷ []) below rest
    ∙ ap (λ ls. cargo_faults (above ++ line ∷ []) below ++ cargo_faults ls rest) (append_assoc above (line ∷ []) below))

length-cargo_faults : (above below : List (List ℕ)) → length (cargo_faults above below) ≡ length below
length-cargo_faults above [] = refl
length-cargo_faults above (line ∷ below) = ap suc (length-cargo_faults (above ++ line ∷ []) below)

fault_behind : (n : ℕ) (front faults : List (Option Why)) → AllNone front → first_fault n (front ++ faults) ≡ first_fault (n + length front) faults
fault_behind n [] faults h = ap (λ k. first_fault k faults) (let same : n ≡ n + 0 = omega arith in same)
fault_behind n (None ∷ front) faults h =
    fault_behind (n + 1) front faults h.1 ∙ ap (λ k. first_fault k faults) (let same : n + 1 + length front ≡ n + suc (length front) = omega arith in same)
fault_behind n (Some w ∷ front) faults h = absurd (let e = h.0 in cc)

fault_here : (n : ℕ) (o : Option Why) (faults : List (Option Why)) (f : TextFault) → option_map (fault_at n) o ≡ Some f → first_fault n (o ∷ faults) ≡ Some f
fault_here n None faults f e = absurd cc
fault_here n (Some w) faults f e = e

first_cargo_fault : (seen : List (List ℕ)) (line : List ℕ) (rest : List (List ℕ)) (cargo : List Unloaded) (n : ℕ) → IsCargo [] seen cargo → n ≡ 3 + length seen
    → (f : TextFault) → option_map (fault_at n) (cargo_fault seen line) ≡ Some f → first_fault 3 (cargo_faults [] (seen ++ line ∷ rest)) ≡ Some f
first_cargo_fault seen line rest cargo n h place f e =
    let none = cargo_has_no_fault [] seen cargo h in
    let behind = cargo_faults (seen ++ line ∷ []) rest in
    let number : 3 + length (cargo_faults [] seen) ≡ n = ap (λ k. 3 + k) (length-cargo_faults [] seen) ∙ sym place in
    ap (first_fault 3) (cargo_faults-append [] seen (line ∷ rest)) ∙ fault_behind 3 (cargo_faults [] seen) (cargo_fault seen line ∷ behind) none
    ∙ ap (λ k. first_fault k (cargo_fault seen line ∷ behind)) number ∙ fault_here n (cargo_fault seen line) behind f e

-- the fault of a line, reported while the lines above it have none, is the first of them all
pub told_first : (seen : List (List ℕ)) (line : List ℕ) (rest lines : List (List ℕ)) (cargo : List Unloaded) (n : ℕ) (told : TextFault) → IsCargo [] seen cargo → n ≡ 3 + length seen
    → lines ≡ seen ++ line ∷ rest → IsFaultOf (option_map (fault_at n) (cargo_fault seen line)) told → IsFaultOf (first_fault 3 (cargo_faults [] lines)) told
told_first seen line rest lines cargo n told h place whole is =
    told_more (option_map (fault_at n) (cargo_fault seen line)) (first_fault 3 (cargo_faults [] lines))
    (λ f e. ap (λ ls. first_fault 3 (cargo_faults [] ls)) whole ∙ first_cargo_fault seen line rest cargo n h place f e) told is

-- the same where the lines are those of tokens
pub told_token : (lines : List Token) (i : ℕ) (d : Token) (cargo : List Unloaded) (n : ℕ) (told : TextFault) → i < length lines → IsCargo [] (texts_of (take i lines)) cargo
    → n ≡ i + 3 → IsFaultOf (option_map (fault_at n) (cargo_fault (texts_of (take i lines)) (get_or lines i d).text.now)) told
    → IsFaultOf (first_fault 3 (cargo_faults [] (texts_of lines))) told
told_token lines i d cargo n told lt h place is =
    let text : Token → List ℕ = λ t. t.text.now in
    let len : length (texts_of (take i lines)) ≡ i = length-map (take i lines) text ∙ length-take-le i lines (omega (arith, lt)) in
    let cut : lines ≡ take i lines ++ (get_or lines i d ∷ drop (i + 1) lines) =
    sym (take-append-drop i lines) ∙ ap (λ ls. take i lines ++ ls) (drop-cons lines i d lt ∙ ap (λ k. get_or lines i d ∷ drop k lines) (sym (add-one i))) in
    told_first (texts_of (take i lines)) (get_or lines i d).text.now (texts_of (drop (i + 1) lines)) (texts_of lines) cargo n told h (omega (arith, len, place))
    (ap texts_of cut ∙ map-append text (take i lines) (get_or lines i d ∷ drop (i + 1) lines)) is

-- ---- the whole message

behind_two : (t u : Token) (rest : List Token) → slice_range (t ∷ u ∷ rest) 2 (length (t ∷ u ∷ rest)) ≡ rest
behind_two t u rest = take_all (length (t ∷ u ∷ rest) - 2) rest (omega arith)

pub flight_line_told : (tokens items : List Token) (d : Token) (w : Why) (told : TextFault) → tokens ≡ items → 2 ≤ length tokens
    → is_head (codes "FFM") (get_or tokens 0 d).text.now ≡ true → flight_line_of (get_or tokens 1 d).text.now ≡ Err w → told ≡ fault_at 2 w
    → IsFaultOf (ffm_fault (texts_of items)) told
flight_line_told [] items d w told same long head e is = absurd (omega (arith, long))
flight_line_told (t ∷ []) items d w told same long head e is = absurd (omega (arith, long))
flight_line_told (t ∷ u ∷ rest) items d w told same long head e is =
    let lines = texts_of (t ∷ u ∷ rest) in
    let made : Option Why → Option Why → Option TextFault = λ a b. fault_in lines (a ∷ b ∷ cargo_faults [] (texts_of rest)) (has_last_line (texts_of rest)) in
    let fault : ffm_fault lines ≡ Some (fault_at 2 w) =
    ap (λ a. made a (err_of (flight_line_of u.text.now))) (unless_true-holds _ why.Head head) ∙ ap (λ r. made None (err_of r)) e in
    subst (λ ls. IsFaultOf (ffm_fault (texts_of ls)) told) same (flight_told u.text.now 2 w (ffm_fault lines) told e is fault)

-- where no line has a fault, the missing of the last line is reported
pub ending_told : (tokens items : List Token) (d : Token) (part : FlightLine) (cargo : List Unloaded) (told : TextFault) → tokens ≡ items → 2 ≤ length tokens
    → is_head (codes "FFM") (get_or tokens 0 d).text.now ≡ true → flight_line_of (get_or tokens 1 d).text.now ≡ Ok part
    → IsCargo [] (texts_of (slice_range tokens 2 (length tokens))) cargo → has_last_line (texts_of (slice_range tokens 2 (length tokens))) ≡ false
    → told ≡ fault_at (length tokens) why.Ending → IsFaultOf (ffm_fault (texts_of items)) told
ending_told [] items d part cargo told same long head e h last is = absurd (omega (arith, long))
ending_told (t ∷ []) items d part cargo told same long head e h last is = absurd (omega (arith, long))
ending_told (t ∷ u ∷ rest) items d part cargo told same long head e h last is =
    let lines = texts_of (t ∷ u ∷ rest) in
    let below = ap texts_of (behind_two t u rest) in
    let none = cargo_has_no_fault [] (texts_of rest) cargo (subst (λ ls. IsCargo [] ls cargo) below h) in
    let missing : has_last_line (texts_of rest) ≡ false = ap has_last_line (sym below) ∙ last in
    let faultless : first_fault 1 (ffm_line_faults lines) ≡ None =
    first_fault-all_none 1 (ffm_line_faults lines) (unless_true-holds _ why.Head head, (err_of-ok (flight_line_of u.text.now) part e, none)) in
    let end : Bool → Option TextFault = λ b. or_else None (cond b None (Some (fault_at (length lines) why.Ending))) in
    let fault : ffm_fault lines ≡ Some (fault_at (length lines) why.Ending) =
    ap (λ f. or_else f (cond (has_last_line (texts_of rest)) None (Some (fault_at (length lines) why.Ending)))) faultless ∙ ap end missing in
    let count : length lines ≡ length (t ∷ u ∷ rest) = length-map (t ∷ u ∷ rest) (λ (x : Token). x.text.now) in
    subst (λ ls. IsFaultOf (ffm_fault (texts_of ls)) told) same
    (subst (IsFaultOf (ffm_fault lines)) (sym is) (fault ∙ ap (λ n. Some (fault_at n why.Ending)) count))
