-- A command's text is read as that command, and what is read has that text.
use Rattle.desk_commands.proofs.Common.{Bool, Command, Field, FieldValue, IfSome, IsCommand, IsNext, List, None, Option, Some, Verb, [], and_parts, ap, arith, command_of, command_text, cond-false, false, is_end, join_with_byte, join_with_byte-slice_split, kind_of, le-leb, leb-true, length, length-slice_split, line_of, lines_command, lines_left, lines_of, lines_say, map, nat_le, not-true, onto_first, places, places_of, places_say, refl, row, subst, suc, sym, take, text_says, true, values_of, verb_called, verb_of, where_true, word, zero, ℕ, ⊤, ◌++◌, ◌>>=◌, ◌∙◌, ◌∷◌, ◌≡◌, ◌≤◌}
use Rattle.desk_commands.proofs.EachVerb.{made_again, fits, made_of_list}
use Rattle.desk_commands.proofs.Fit.{values_in_places, AreFit}
use Rattle.desk_commands.proofs.Free.{free}
use Rattle.desk_commands.proofs.Made.{AreTyped}
use Rattle.desk_commands.proofs.Verbs.{places_are, row_short, values_short, free_word}
use Rattle.desk_commands.proofs.Words.{called_again, called_is}
use Rattle.desk_commands.proofs.LineLaws.{line_again, line_free, line_made}
use Rattle.desk_commands.proofs.Steps.{some_is, passes, passed, reads}

-- ---- the lines of lines that are joined

abbrev AreFree : List (List ℕ) → Type 0
AreFree [] = ⊤
AreFree (line ∷ lines) = (free line ≡ true) × AreFree lines

one_line : (line : List ℕ) → free line ≡ true → lines_of line ≡ line ∷ []
one_line [] h = refl
one_line (b ∷ line) h =
    let parts = and_parts _ _ h in
    cond-false _ _ _ (not-true _ parts.0) ∙ ap (onto_first b) (one_line line parts.1)

first_cut : (line rest : List ℕ) → free line ≡ true → lines_of (line ++ (10 ∷ rest)) ≡ line ∷ lines_of rest
first_cut [] rest h = refl
first_cut (b ∷ line) rest h =
    let parts = and_parts _ _ h in
    cond-false _ _ _ (not-true _ parts.0) ∙ ap (onto_first b) (first_cut line rest parts.1)

lines_joined : (line : List ℕ) (lines : List (List ℕ)) → free line ≡ true → AreFree lines → lines_of (join_with_byte 10 (line ∷ lines)) ≡ line ∷ lines
lines_joined line [] h k = one_line line h
lines_joined line (next ∷ lines) h k =
    first_cut line (join_with_byte 10 (next ∷ lines)) h ∙ ap (λ (x : List (List ℕ)). line ∷ x) (lines_joined next lines k.0 k.1)

values_free : (fs : List Field) (gs : List FieldValue) → AreFit fs gs → AreFree (map line_of gs)
values_free [] [] h = tt
values_free (f ∷ fs) (g ∷ gs) h = (line_free (kind_of f) g h.0, values_free fs gs h.1)
values_free _ _ h = absurd h

-- ---- places and their lines

says_again : (n : ℕ) (fs : List Field) (gs : List FieldValue) → AreFit fs gs → places_say (places_of n fs) (places_of n (map line_of gs)) ≡ Some (values_in_places n gs)
says_again zero fs gs h = refl
says_again (suc n) [] [] h = rw (says_again n [] [] tt)
says_again (suc n) [] (g ∷ gs) h = absurd h
says_again (suc n) (f ∷ fs) [] h = absurd h
says_again (suc n) (f ∷ fs) (g ∷ gs) h = rw (line_again (kind_of f) g h.0, says_again n fs gs h.1)

record AreLines (fs : List Field) (ls : List (List ℕ)) (six : List FieldValue) : Type 0 where
  pub typed : AreTyped six
  pub are_lines : map line_of (take (length fs) six) ≡ ls

says_made : (n : ℕ) (fs : List Field) (ls : List (List ℕ)) (six : List FieldValue) → length fs ≤ n → length ls ≤ n
    → places_say (places_of n fs) (places_of n ls) ≡ Some six → AreLines fs ls six
says_made zero [] [] six fit short h = subst (AreLines [] []) (some_is {A = List FieldValue} [] six h) (record { typed = tt; are_lines = refl })
says_made zero [] (l ∷ ls) six fit short h = absurd (omega (arith, short))
says_made zero (f ∷ fs) ls six fit short h = absurd (omega (arith, fit))
says_made (suc n) [] [] six fit short h =
    reads (λ more e. says_made n [] [] more (omega arith) (omega arith) e) (λ _ all h.
    subst (AreLines [] []) (some_is _ six h) (record { typed = (tt, all.typed); are_lines = refl })) h
says_made (suc n) (f ∷ fs) (l ∷ ls) six fit short h =
    reads (line_made (kind_of f) l) (λ _ line. reads (λ more e. says_made n fs ls more (omega (arith, fit)) (omega (arith, short)) e) (λ _ more h.
    subst (AreLines (f ∷ fs) (l ∷ ls)) (some_is _ six h) (record { typed = (line.range, more.typed); are_lines = λ i. line.is_line i ∷ more.are_lines i }))) h
says_made (suc n) _ _ six fit short h = cc h

-- ---- whole texts

length-lines : (gs : List FieldValue) → length (map line_of gs) ≡ length gs
length-lines [] = refl
length-lines (g ∷ gs) = ap suc (length-lines gs)

lines_again : (c : Command) → IsCommand c → lines_command (word (verb_of c) ∷ map line_of (values_of c)) ≡ Some c
lines_again c h =
    let v = verb_of c in
    let ls = map line_of (values_of c) in
    let short : length ls ≤ 6 = omega (arith, values_short c h, length-lines (values_of c)) in
    rw (passes (nat_le (length ls) 6) (places_of 6 ls) (le-leb _ _ short), called_again v, places_are v, says_again 6 (row v) (values_of c) (fits c h)) (made_again c h)

pub text_again : (c : Command) → IsCommand c → text_says (command_text c) ≡ Some c
text_again c h =
    ap lines_command (lines_joined (word (verb_of c)) (map line_of (values_of c)) (free_word (verb_of c)) (values_free (row (verb_of c)) (values_of c) (fits c h)))
    ∙ lines_again c h

-- the command has these lines
abbrev HasLines : Command → List (List ℕ) → Type 0
HasLines c lines = IsCommand c × (word (verb_of c) ∷ map line_of (values_of c) ≡ lines)

by_verb : (w : List ℕ) (ls : List (List ℕ)) (v : Verb) (six : List FieldValue) (c : Command) → length ls ≤ 6 → verb_called w ≡ Some v
    → places_say (places v) (places_of 6 ls) ≡ Some six → command_of v six ≡ Some c → HasLines c (w ∷ ls)
by_verb w ls v six c short called said h =
    let s = says_made 6 (row v) ls six (row_short v) short (ap (λ q. places_say q (places_of 6 ls)) (sym (places_are v)) ∙ said) in
    let m = made_of_list v six c s.typed h in
    let verb : word (verb_of c) ≡ w = ap word m.verb_is ∙ called_is w v called in
    let values : map line_of (values_of c) ≡ ls = ap (map line_of) (sym m.front) ∙ s.are_lines in
    (m.in_range, λ i. verb i ∷ values i)

by_word : (w : List ℕ) (ls : List (List ℕ)) (c : Command) → length ls ≤ 6 → lines_say w (places_of 6 ls) ≡ Some c → HasLines c (w ∷ ls)
by_word w ls c short h =
    reads (λ v e. e) (λ v called. reads (λ six e. e) (λ six said. by_verb w ls v six c short called said)) h

by_lines : (lines : List (List ℕ)) (c : Command) → lines_command lines ≡ Some c → HasLines c lines
by_lines [] c h = cc h
by_lines (w ∷ ls) c h =
    reads (λ six e. passed (nat_le (length ls) 6) (places_of 6 ls) six e) (λ _ p h. by_word w ls c (leb-true _ _ p.0) (ap (lines_say w) p.1 ∙ h)) h

pub text_made : (text : List ℕ) (c : Command) → text_says text ≡ Some c → IsCommand c × (command_text c ≡ text)
text_made text c h =
    let r = by_lines (lines_of text) c h in
    (r.0, ap (join_with_byte 10) r.1 ∙ join_with_byte-slice_split 10 text)

pub one_text : (c d : Command) → IsCommand c → IsCommand d → command_text c ≡ command_text d → c ≡ d
one_text c d h k same = some_is c d (sym (text_again c h) ∙ ap text_says same ∙ text_again d k)

pub said : (r : Option Command) (text : List ℕ) → r ≡ text_says text → IfSome r (λ c. IsCommand c × (command_text c ≡ text))
said None text e = tt
said (Some c) text e = text_made text c (sym e)

pub only_said : (r : Option Command) (text : List ℕ) (c : Command) → r ≡ text_says text → IsCommand c → command_text c ≡ text → r ≡ Some c
only_said r text c e h same = e ∙ ap text_says (sym same) ∙ text_again c h

-- ---- seven lines that are taken one after the other

next_one : (n : ℕ) (left line after : Option (List ℕ)) (lines : List (Option (List ℕ))) → IsNext left line after
    → lines ≡ places_of n (lines_left after) → line ∷ lines ≡ places_of (suc n) (lines_left left)
next_one n left None after lines e h =
    let none : places_of n (lines_left after) ≡ places_of n [] = ap (λ x. places_of n (lines_left x)) e.1 in
    (λ i. None ∷ (h ∙ none) i) ∙ ap (λ x. places_of (suc n) (lines_left x)) (sym e.0)
next_one n left (Some line) after lines e h = (λ i. Some line ∷ h i) ∙ ap (places_of (suc n)) (sym e)

few : (n : ℕ) (left line after : Option (List ℕ)) → IsNext left line after → length (lines_left after) ≤ n → length (lines_left left) ≤ suc n
few n left None after e h = let none : length (lines_left left) ≡ 0 = ap (λ x. length (lines_left x)) e.0 in omega (arith, none)
few n left (Some line) after e h = let more : length (lines_left left) ≡ suc (length (lines_left after)) = ap length e in omega (arith, more, h)

many : (n : ℕ) (left line after : Option (List ℕ)) → IsNext left line after → suc n ≤ length (lines_left after) → suc (suc n) ≤ length (lines_left left)
many n left None after e h = let none : length (lines_left after) ≡ 0 = ap (λ x. length (lines_left x)) e.1 in absurd (omega (arith, none, h))
many n left (Some line) after e h = let more : length (lines_left left) ≡ suc (length (lines_left after)) = ap length e in omega (arith, more, h)

some_lines : (left : Option (List ℕ)) (text : List ℕ) → left ≡ Some text → 1 ≤ length (lines_left left)
some_lines left text e =
    let count : length (lines_left left) ≡ length (lines_of text) = ap (λ x. length (lines_left x)) e in
    omega (arith, count, length-slice_split is_end text)

pub six_taken : (text : List ℕ) (word : List ℕ) (r0 r1 r2 r3 r4 r5 r6 l0 l1 l2 l3 l4 l5 : Option (List ℕ)) → lines_of text ≡ word ∷ lines_left r0
    → IsNext r0 l0 r1 → IsNext r1 l1 r2 → IsNext r2 l2 r3 → IsNext r3 l3 r4 → IsNext r4 l4 r5 → IsNext r5 l5 r6 → r6 ≡ None
    → lines_say word (l0 ∷ l1 ∷ l2 ∷ l3 ∷ l4 ∷ l5 ∷ []) ≡ text_says text
six_taken text word r0 r1 r2 r3 r4 r5 r6 l0 l1 l2 l3 l4 l5 w n0 n1 n2 n3 n4 n5 end =
    let none : length (lines_left r6) ≡ 0 = ap (λ x. length (lines_left x)) end in
    let short : length (lines_left r0) ≤ 6 =
    few 5 r0 l0 r1 n0 (few 4 r1 l1 r2 n1 (few 3 r2 l2 r3 n2 (few 2 r3 l3 r4 n3 (few 1 r4 l4 r5 n4 (few 0 r5 l5 r6 n5 (omega (arith, none))))))) in
    let six : l0 ∷ l1 ∷ l2 ∷ l3 ∷ l4 ∷ l5 ∷ [] ≡ places_of 6 (lines_left r0) =
    next_one 5 r0 l0 r1 (l1 ∷ l2 ∷ l3 ∷ l4 ∷ l5 ∷ []) n0 (next_one 4 r1 l1 r2 (l2 ∷ l3 ∷ l4 ∷ l5 ∷ []) n1 (next_one 3 r2 l2 r3 (l3 ∷ l4 ∷ l5 ∷ []) n2
    (next_one 2 r3 l3 r4 (l4 ∷ l5 ∷ []) n3 (next_one 1 r4 l4 r5 (l5 ∷ []) n4 (next_one 0 r5 l5 r6 [] n5 refl))))) in
    ap (lines_say word) six
    ∙ sym (ap lines_command w ∙ ap (λ (o : Option (List (Option (List ℕ)))). o >>= lines_say word) (passes (nat_le (length (lines_left r0)) 6) (places_of 6 (lines_left r0)) (le-leb _ _ short)))

by_length : (word : List ℕ) (lines : List (List ℕ)) → (length lines ≤ 6 → ⊥) → lines_command (word ∷ lines) ≡ None
by_length w lines long = ap (λ b. where_true b (places_of 6 lines) >>= lines_say w) (not_leb (length lines) 6 long)
  where
    not_leb : (n m : ℕ) → (n ≤ m → ⊥) → nat_le n m ≡ false
    not_leb n m above = by (nat_le n m) refl
      where
        by : (b : Bool) → nat_le n m ≡ b → b ≡ false
        by true e = absurd (above (leb-true _ _ e))
        by false e = refl

pub too_many : (text : List ℕ) (word : List ℕ) (r0 r1 r2 r3 r4 r5 r6 l0 l1 l2 l3 l4 l5 : Option (List ℕ)) (more : List ℕ) → lines_of text ≡ word ∷ lines_left r0
    → IsNext r0 l0 r1 → IsNext r1 l1 r2 → IsNext r2 l2 r3 → IsNext r3 l3 r4 → IsNext r4 l4 r5 → IsNext r5 l5 r6 → r6 ≡ Some more → None ≡ text_says text
too_many text word r0 r1 r2 r3 r4 r5 r6 l0 l1 l2 l3 l4 l5 more w n0 n1 n2 n3 n4 n5 end =
    let long : 7 ≤ length (lines_left r0) =
    many 5 r0 l0 r1 n0 (many 4 r1 l1 r2 n1 (many 3 r2 l2 r3 n2 (many 2 r3 l3 r4 n3 (many 1 r4 l4 r5 n4 (many 0 r5 l5 r6 n5 (some_lines r6 more end)))))) in
    sym (ap lines_command w ∙ by_length word (lines_left r0) (λ short. omega (arith, long, short)))

pub lines_read : (word : List ℕ) (lines : List (Option (List ℕ))) (v : Verb) (six : List FieldValue) → Some v ≡ verb_called word → Some six ≡ places_say (places v) lines
    → command_of v six ≡ lines_say word lines
lines_read word lines v six e f = rw (← e, ← f)
