-- The records that a reader gave, up to the end of the text, are `records` of the text.
use Rattle.cli_run.proofs.Common.{AreRecords, Bool, List, None, Option, Some, [], ap, arith, cond, false, false≢true, length, records, refl, suc, sym, true, zero, ℕ, ◌&&◌, ◌++◌, ◌+◌, ◌<◌, ◌==◌, ◌∙◌, ◌∷◌, ◌≡◌, ◌≤◌}
use Rattle.csv.specs.Machine.{Read, step, in_field, start_field, start_record, after_end, ends_with, is_byte, is_end, ends_at_end, fields_after, field_after, next_record, line_feed}
use Rattle.csv.specs.Reading.{Reached, records_from}
use Rattle.csv.specs.declared.parser.Config.{Config}
use Rattle.csv.specs.declared.parser.Terminator.{Terminator}
use Rattle.csv.specs.declared.parser.Terminator.TheVariants as term
use Rattle.csv.specs.declared.parser.State.{State}
use Rattle.csv.specs.declared.parser.State.TheVariants as st
use Rattle.csv.specs.declared.parser.Action.{Action}
use Rattle.csv.specs.declared.parser.Action.TheVariants as act

-- what holds of both holds of the one that is chosen
choose : {A : Type 0} (P : A → Type 0) (b : Bool) (x y : A) → P x → P y → P (cond b x y)
choose P true x y p q = p
choose P false x y p q = q

-- a step that ends a record leads to a state in which the end of the text ends none
abbrev Rests : State × Action → Type 0
Rests r = is_end r.1 ≡ true → ends_at_end r.0 ≡ false

after_end_rests : (t : Terminator) (c : ℕ) → ends_at_end (after_end t c) ≡ false
after_end_rests term.CRLF c = choose (λ s. ends_at_end s ≡ false) (c == 13) st.AfterCr st.StartRecord refl refl
after_end_rests (term.Any t) c = refl

never : (s : State) (a : Action) → is_end a ≡ false → Rests (s, a)
never s a e h = absurd (false≢true (sym e ∙ h))

in_field_rests : (cfg : Config) (c : ℕ) → Rests (in_field cfg c)
in_field_rests cfg c =
    let inner : Rests (cond (ends_with cfg.terminator c) (after_end cfg.terminator c, act.EndRecord) (st.InField, act.Copy)) =
    choose Rests (ends_with cfg.terminator c) (after_end cfg.terminator c, act.EndRecord) (st.InField, act.Copy) (λ _. after_end_rests cfg.terminator c) (never st.InField act.Copy refl) in
    choose Rests (c == cfg.delimiter) (st.StartField, act.EndField) (cond (ends_with cfg.terminator c) (after_end cfg.terminator c, act.EndRecord) (st.InField, act.Copy)) (never st.StartField act.EndField refl) inner

start_field_rests : (cfg : Config) (c : ℕ) → Rests (start_field cfg c)
start_field_rests cfg c = choose Rests (cfg.quoting && (c == cfg.quote)) (st.InQuoted, act.Skip) (in_field cfg c) (never st.InQuoted act.Skip refl) (in_field_rests cfg c)

start_record_rests : (cfg : Config) (c : ℕ) → Rests (start_record cfg c)
start_record_rests cfg c =
    let inner : Rests (cond (is_byte cfg.comment c) (st.InComment, act.Skip) (start_field cfg c)) =
    choose Rests (is_byte cfg.comment c) (st.InComment, act.Skip) (start_field cfg c) (never st.InComment act.Skip refl) (start_field_rests cfg c) in
    choose Rests (ends_with cfg.terminator c) (st.StartRecord, act.Skip) (cond (is_byte cfg.comment c) (st.InComment, act.Skip) (start_field cfg c)) (never st.StartRecord act.Skip refl) inner

step_rests : (cfg : Config) (s : State) (c : ℕ) → Rests (step cfg s c)
step_rests cfg st.StartRecord c = start_record_rests cfg c
step_rests cfg st.StartField c = start_field_rests cfg c
step_rests cfg st.InField c = in_field_rests cfg c
step_rests cfg st.InQuoted c =
    let inner : Rests (cond (cfg.quoting && is_byte cfg.escape c) (st.InEscape, act.Skip) (st.InQuoted, act.Copy)) =
    choose Rests (cfg.quoting && is_byte cfg.escape c) (st.InEscape, act.Skip) (st.InQuoted, act.Copy) (never st.InEscape act.Skip refl) (never st.InQuoted act.Copy refl) in
    choose Rests (cfg.quoting && (c == cfg.quote)) (st.AfterQuote, act.Skip) (cond (cfg.quoting && is_byte cfg.escape c) (st.InEscape, act.Skip) (st.InQuoted, act.Copy)) (never st.AfterQuote act.Skip refl) inner
step_rests cfg st.InEscape c = never st.InQuoted act.Copy refl
step_rests cfg st.AfterQuote c = choose Rests (cfg.quoting && cfg.double_quote && (c == cfg.quote)) (st.InQuoted, act.Copy) (in_field cfg c) (never st.InQuoted act.Copy refl) (in_field_rests cfg c)
step_rests cfg st.InComment c = choose Rests (c == line_feed) (st.StartRecord, act.Skip) (st.InComment, act.Skip) (never st.StartRecord act.Skip refl) (never st.InComment act.Skip refl)
step_rests cfg st.AfterCr c = choose Rests (c == line_feed) (st.StartRecord, act.Skip) (start_record cfg c) (never st.StartRecord act.Skip refl) (start_record_rests cfg c)

-- what a read of a record leaves
record Left (s : State) (xs : List ℕ) (p : Read) : Type 0 where
  rests : ends_at_end p.1 ≡ false
  within : length p.2 ≤ length xs
  shorter : ends_at_end s ≡ false → length p.2 < length xs

at_end : (s : State) (fields : List (List ℕ)) (p : Read) (b : Bool) → ends_at_end s ≡ b → cond b (Some (fields, st.StartRecord, [])) None ≡ Some p → Left s [] p
at_end s fields p true e h = let q : (fields, st.StartRecord, []) ≡ p = cc h in rw (← q) (record { rests = refl; within = omega arith; shorter = λ f. absurd (false≢true (sym f ∙ e)) })
at_end s fields p false e h = cc h

one_byte : (s t : State) (fields : List (List ℕ)) (c : ℕ) (rest : List ℕ) (p : Read) (b : Bool) (other : Option Read)
    → (b ≡ true → ends_at_end t ≡ false) → (other ≡ Some p → Left t rest p)
    → cond b (Some (fields, t, rest)) other ≡ Some p → Left s (c ∷ rest) p
one_byte s t fields c rest p true other ends more h = let q : (fields, t, rest) ≡ p = cc h in rw (← q) (record { rests = ends refl; within = omega arith; shorter = λ _. omega arith })
one_byte s t fields c rest p false other ends more h = let l = more h in record { rests = l.rests; within = omega (arith, l.within); shorter = λ _. omega (arith, l.within) }

read_leaves : (cfg : Config) (s : State) (fields : List (List ℕ)) (field xs : List ℕ) (p : Read) → next_record cfg s fields field xs ≡ Some p → Left s xs p
unfolding next_record
read_leaves cfg s fields field [] p h = at_end s (fields ++ (field ∷ [])) p (ends_at_end s) refl h
read_leaves cfg s fields field (c ∷ rest) p h =
    one_byte s (step cfg s c).0 (fields_after (step cfg s c).1 fields field) c rest p (is_end (step cfg s c).1) _
    (step_rests cfg s c)
    (read_leaves cfg (step cfg s c).0 (fields_after (step cfg s c).1 fields field) (field_after (step cfg s c).1 c field) rest p) h

-- there are no more records than bytes
reached_bound : (cfg : Config) (s : State) (xs : List ℕ) (rows : List (List (List ℕ))) (s2 : State) (ys : List ℕ)
    → ends_at_end s ≡ false → Reached cfg s xs rows s2 ys → length rows ≤ length xs
unfolding Reached
reached_bound cfg s xs [] s2 ys e h = omega arith
reached_bound cfg s xs (r ∷ rows) s2 ys e h =
    let l = read_leaves cfg s [] [] xs h.0 h.1 in
    let more = reached_bound cfg h.0.1 h.0.2 rows s2 ys l.rests h.3 in
    let fewer = l.shorter e in
    omega (arith, more, fewer)

-- and the records up to the end are those that `records_from` lists, given turns enough
records_from-reached : (cfg : Config) (n : ℕ) (s : State) (xs : List ℕ) (rows : List (List (List ℕ))) (s2 : State) (ys : List ℕ)
    → length rows < n → Reached cfg s xs rows s2 ys → next_record cfg s2 [] [] ys ≡ None → records_from cfg n s xs ≡ rows
unfolding Reached records_from
records_from-reached cfg zero s xs rows s2 ys few h e = absurd (omega (arith, few))
records_from-reached cfg (suc n) s xs [] s2 ys few h e = rw (h.0, h.1, e) refl
records_from-reached cfg (suc n) s xs (r ∷ rows) s2 ys few h e =
    rw (h.1, h.2) (ap (λ more. h.0.0 ∷ more) (records_from-reached cfg n h.0.1 h.0.2 rows s2 ys (omega (arith, few)) h.3 e))

-- these rows are all the records of the text
pub all_records : (cfg : Config) (xs : List ℕ) (rows : List (List (List ℕ))) → AreRecords cfg st.StartRecord xs rows → rows ≡ records cfg xs
all_records cfg xs rows h =
    let few = reached_bound cfg st.StartRecord xs rows h.0 h.1 refl h.2 in
    sym (records_from-reached cfg (length xs + 1) st.StartRecord xs rows h.0 h.1 (omega (arith, few)) h.2 h.3)

-- the rows so far are the first records, given turns enough
reached_first : (cfg : Config) (n : ℕ) (s : State) (xs : List ℕ) (rows : List (List (List ℕ))) (s2 : State) (ys : List ℕ)
    → length rows ≤ n → Reached cfg s xs rows s2 ys → (more : List (List (List ℕ))) × (records_from cfg n s xs ≡ rows ++ more)
unfolding Reached records_from
reached_first cfg n s xs [] s2 ys few h = (records_from cfg n s xs, refl)
reached_first cfg zero s xs (r ∷ rows) s2 ys few h = absurd (omega (arith, few))
reached_first cfg (suc n) s xs (r ∷ rows) s2 ys few h =
    let rest = reached_first cfg n h.0.1 h.0.2 rows s2 ys (omega (arith, few)) h.3 in
    (rest.0, rw (h.1, h.2) (ap (λ more. h.0.0 ∷ more) rest.1))

pub first_records : (cfg : Config) (xs : List ℕ) (rows : List (List (List ℕ))) (s2 : State) (ys : List ℕ)
    → Reached cfg st.StartRecord xs rows s2 ys → (more : List (List (List ℕ))) × (records cfg xs ≡ rows ++ more)
first_records cfg xs rows s2 ys h =
    let few = reached_bound cfg st.StartRecord xs rows s2 ys refl h in
    reached_first cfg (length xs + 1) st.StartRecord xs rows s2 ys (omega (arith, few)) h
