-- The command that a body of JSON says is the one whose fields it holds.
use Rattle.desk_commands.proofs.Common.{Absent, AreMembers, Bool, Command, Designator, Field, FieldValue, Flight, IsBodyOf, IsMember, Kind, List, None, Number, Option, Some, String, Text, Verb, [], ap, arith, body_says, command_of, cond, count_by, eq-eqb, eqb-true, fields_say, flight_member, fold, is_present, kind_of, length, lt-ltb, ltb-true, member_count, member_if_any, member_says, members_len, members_view, name, nat_lt, ne_eqb, number_member, option_map, places, places_of, refl, row, subst, suc, sym, take, text_member, values_of, verb_of, where_true, zero, ℕ, ◌+◌, ◌==◌, ◌>>=◌, ◌∙◌, ◌∷◌, ◌≡◌, ◌≤◌}
use Rattle.std.specs.declared.alloc.Global.{Global}
use Rattle.serde_json.specs.Data.{unsigned, Data, number, string}
use Rattle.serde_json.specs.Find.{as_object, get}
use Rattle.serde_json.specs.declared.value.Value.{Value}
use Rattle.desk_commands.specs.declared.verb.Kind.TheVariants as kind
use Rattle.desk_commands.proofs.EachVerb.{made_again, fits, made_of_list}
use Rattle.desk_commands.proofs.Fit.{values_in_places, Fits, AreFit}
use Rattle.desk_commands.proofs.Made.{IsTyped, AreTyped}
use Rattle.desk_commands.proofs.Verbs.{places_are, row_short, values_short}
use Rattle.desk_commands.proofs.LineLaws.{flight_made}
use Rattle.desk_commands.proofs.Steps.{some_is, passes, passed, reads}

-- ---- one member

pub member_again : (k : Kind) (g : FieldValue) (d : Data) (key : List ℕ) → Fits k g → IsMember d key g → member_if_any k (get key d) ≡ Some g
member_again kind.Text (Text t) d key h m = ap (member_if_any kind.Text) m
member_again kind.Number (Number n) d key h m = ap (member_if_any kind.Number) m ∙ passes (nat_lt n 4_294_967_296) (Number n) (lt-ltb _ _ h)
member_again kind.Flight (Flight f) d key h m = ap (member_if_any kind.Flight) m.1 ∙ ap (λ (o : Option Designator). o >>= λ x. Some (Flight x)) m.2
member_again kind.FlightIfAny (Flight f) d key h m = ap (member_if_any kind.FlightIfAny) m.1 ∙ ap (λ (o : Option Designator). o >>= λ x. Some (Flight x)) m.2
member_again kind.FlightIfAny Absent d key h m = ap (member_if_any kind.FlightIfAny) m
member_again kind.TextIfAny (Text t) d key h m = ap (member_if_any kind.TextIfAny) m
member_again kind.TextIfAny Absent d key h m = ap (member_if_any kind.TextIfAny) m
member_again _ _ d key h m = absurd h

abbrev IsRead : Data → List ℕ → FieldValue → Type 0
IsRead d key g = IsMember d key g × IsTyped g

text_made : (d : Data) (key : List ℕ) (x : Data) (g : FieldValue) → get key d ≡ Some x → text_member x ≡ Some g → IsRead d key g
text_made d key (string s) g e h = subst (IsRead d key) (some_is (Text s) g h) (e, tt)
text_made d key _ g e h = cc h

number_made : (d : Data) (key : List ℕ) (x : Data) (g : FieldValue) → get key d ≡ Some x → number_member x ≡ Some g → IsRead d key g
number_made d key (number (unsigned n)) g e h =
    let p = passed (nat_lt n 4_294_967_296) (Number n) g h in
    subst (IsRead d key) p.1 (e, ltb-true _ _ p.0)
number_made d key _ g e h = cc h

flight_read : (d : Data) (key : List ℕ) (x : Data) (g : FieldValue) → get key d ≡ Some x → flight_member x ≡ Some g → IsRead d key g
flight_read d key (string s) g e h =
    reads (λ f is. ((s, e, is), flight_made s f is)) (λ _ read h. subst (IsRead d key) (some_is _ g h) read) h
flight_read d key _ g e h = cc h

kind_made : (k : Kind) (d : Data) (key : List ℕ) (x : Data) (g : FieldValue) → get key d ≡ Some x → member_says k x ≡ Some g → IsRead d key g
kind_made kind.Text d key x g e h = text_made d key x g e h
kind_made kind.Number d key x g e h = number_made d key x g e h
kind_made kind.Flight d key x g e h = flight_read d key x g e h
kind_made kind.FlightIfAny d key x g e h = flight_read d key x g e h
kind_made kind.TextIfAny d key x g e h = text_made d key x g e h

member_made : (k : Kind) (d : Data) (key : List ℕ) (o : Option Data) (g : FieldValue) → get key d ≡ o → member_if_any k o ≡ Some g → IsRead d key g
member_made k d key None g e h = subst (IsRead d key) (some_is {A = FieldValue} Absent g h) (e, tt)
member_made k d key (Some x) g e h = kind_made k d key x g e h

-- ---- the members of a row

fields_again : (n : ℕ) (fs : List Field) (gs : List FieldValue) (d : Data) → AreFit fs gs → AreMembers d fs gs → fields_say (places_of n fs) d ≡ Some (values_in_places n gs)
fields_again zero fs gs d h m = refl
fields_again (suc n) [] [] d h m = rw (fields_again n [] [] d tt tt)
fields_again (suc n) [] (g ∷ gs) d h m = absurd h
fields_again (suc n) (f ∷ fs) [] d h m = absurd h
fields_again (suc n) (f ∷ fs) (g ∷ gs) d h m = rw (member_again (kind_of f) g d (name f) h.0 m.0, fields_again n fs gs d h.1 m.1)

record AreFields (n : ℕ) (d : Data) (fs : List Field) (six : List FieldValue) : Type 0 where
  pub typed : AreTyped six
  pub members : AreMembers d fs (take (length fs) six)
  pub are_six : six ≡ values_in_places n (take (length fs) six)

fields_made : (n : ℕ) (fs : List Field) (d : Data) (six : List FieldValue) → length fs ≤ n → fields_say (places_of n fs) d ≡ Some six → AreFields n d fs six
fields_made zero [] d six fit h = subst (AreFields 0 d []) (some_is {A = List FieldValue} [] six h) (record { typed = tt; members = tt; are_six = refl })
fields_made zero (f ∷ fs) d six fit h = absurd (omega (arith, fit))
fields_made (suc n) [] d six fit h =
    reads (λ more e. fields_made n [] d more (omega arith) e) (λ _ more h.
    subst (AreFields (suc n) d []) (some_is _ six h) (record { typed = (tt, more.typed); members = tt; are_six = λ i. Absent ∷ more.are_six i })) h
fields_made (suc n) (f ∷ fs) d six fit h =
    reads (λ g e. member_made (kind_of f) d (name f) (get (name f) d) g refl e) (λ g one. reads (λ more e. fields_made n fs d more (omega (arith, fit)) e) (λ _ more h.
    subst (AreFields (suc n) d (f ∷ fs)) (some_is _ six h) (record { typed = (one.1, more.typed); members = (one.0, more.members); are_six = λ i. g ∷ more.are_six i }))) h

-- what is absent at the end isn't counted
abbrev counted : ℕ → List FieldValue → ℕ
counted a gs = fold (λ (n : ℕ) (g : FieldValue). n + cond (is_present g) 1 0) a gs

counted_absent : (n a : ℕ) → counted a (values_in_places n []) ≡ a
counted_absent zero a = refl
counted_absent (suc n) a = let none : a + 0 ≡ a = omega arith in counted_absent n (a + 0) ∙ none

counted_in_places : (n a : ℕ) (gs : List FieldValue) → length gs ≤ n → counted a (values_in_places n gs) ≡ counted a gs
counted_in_places n a [] h = counted_absent n a
counted_in_places zero a (g ∷ gs) h = absurd (omega (arith, h))
counted_in_places (suc n) a (g ∷ gs) h = counted_in_places n (a + cond (is_present g) 1 0) gs (omega (arith, h))

-- ---- whole bodies

body_at : (d : Data) (c : Command) → IsBodyOf (verb_of c) d c → body_says (verb_of c) d ≡ Some c
body_at d c h =
    let v = verb_of c in
    let six = values_in_places 6 (values_of c) in
    let k = count_by is_present (values_of c) in
    let members = ap (λ p. fields_say p d) (places_are v) ∙ fields_again 6 (row v) (values_of c) d (fits c h.in_range) h.members in
    let counted = passes (k == count_by is_present six) six (eq-eqb _ _ (sym (counted_in_places 6 0 (values_of c) (values_short c h.in_range)))) in
    rw (h.no_other, members, counted) (made_again c h.in_range)

pub body_again : (v : Verb) (d : Data) (c : Command) → IsBodyOf v d c → body_says v d ≡ Some c
body_again v d c h = subst (λ u. IsBodyOf u d c → body_says u d ≡ Some c) h.verb_is (body_at d c) h

pub body_made : (v : Verb) (d : Data) (c : Command) → body_says v d ≡ Some c → IsBodyOf v d c
body_made v d c h =
    reads (λ n e. e) (λ n counted. reads (λ six e. fields_made 6 (row v) d six (row_short v) (ap (λ q. fields_say q d) (sym (places_are v)) ∙ e)) (λ six f.
    reads (λ t e. passed (n == count_by is_present six) six t e) (λ t p h.
    let m = made_of_list v six c f.typed (ap (command_of v) p.1 ∙ h) in
    let same : six ≡ values_in_places 6 (values_of c) = f.are_six ∙ ap (values_in_places 6) m.front in
    let count : n ≡ count_by is_present (values_of c) = eqb-true _ _ p.0 ∙ ap (count_by is_present) same ∙ counted_in_places 6 0 (values_of c) (values_short c m.in_range) in
    record {
      in_range = m.in_range;
      verb_is = m.verb_is;
      members = subst (AreMembers d (row v)) m.front f.members;
      no_other = counted ∙ ap (λ (k : ℕ). Some k) count;
    }))) h

-- ---- what is read

members_len-view : (ms : List (String Global × Value)) → members_len (members_view ms) ≡ length ms
members_len-view [] = refl
members_len-view (m ∷ ms) = ap suc (members_len-view ms)

pub members_counted : (ms : List (String Global × Value)) (d : Data) (k : ℕ) → Some (members_view ms) ≡ as_object d → k ≡ length ms → member_count d ≡ Some k
members_counted ms d k e len = ap (option_map members_len) (sym e) ∙ ap (λ (n : ℕ). Some n) (members_len-view ms ∙ sym len)

pub body_read : (v : Verb) (d : Data) (k : ℕ) (six : List FieldValue) → member_count d ≡ Some k → Some six ≡ fields_say (places v) d
    → body_says v d ≡ (where_true (k == count_by is_present six) six >>= command_of v)
body_read v d k six e f =
    ap (λ (o : Option ℕ). o >>= λ count. fields_say (places v) d >>= λ gs. where_true (count == count_by is_present gs) gs >>= command_of v) e
    ∙ ap (λ (o : Option (List FieldValue)). o >>= λ gs. where_true (k == count_by is_present gs) gs >>= command_of v) (sym f)

pub same_count : (v : Verb) (k : ℕ) (six : List FieldValue) → k ≡ count_by is_present six → (where_true (k == count_by is_present six) six >>= command_of v) ≡ command_of v six
same_count v k six e = ap (λ (o : Option (List FieldValue)). o >>= command_of v) (passes (k == count_by is_present six) six (eq-eqb _ _ e))

pub other_count : (v : Verb) (k : ℕ) (six : List FieldValue) → (k ≡ count_by is_present six → ⊥) → (where_true (k == count_by is_present six) six >>= command_of v) ≡ None
other_count v k six differs = ap (λ (b : Bool). where_true b six >>= command_of v) (ne_eqb k (count_by is_present six) differs)
