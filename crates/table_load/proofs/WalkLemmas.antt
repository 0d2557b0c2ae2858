-- What the rows that a query gives, one after another, make of a walk.
use Rattle.std.proofs.Common.{◌≡◌, ◌≢◌, List, [], ◌∷◌, ◌++◌, append-nil, append_assoc, map, true, false, None, Some, Ok, Err, Result, Option, refl, sym, ap, ap₂, subst, subst₂, ◌∙◌, Less, Ordering, is_lt}
use Rattle.table_load.proofs.Common.{AllByRecursion, AreLawful, AreRowsOf, AreSoFar, BeginNone, Error, IsAscending, IsTyped, IsWalked, IsWalkedAs, OnOk, Row, TellsRows, Walk, follows, last_of}
use Rattle.table_load.proofs.TableLemmas.{is_less, push_lawful}

module _ {X E F : Type 0} (Has : F → List X → Type 0) (meant : X → E) (to_row : E → Row) (cmp : E → E → Ordering) (IsLawful : E → Type 0) where
  abbrev Are : List E → Type 0
  Are = AreLawful cmp IsLawful

  abbrev IsLess : E → E → Type 0
  IsLess a b = cmp a b ≡ Less

  -- ---- rows with which no entries begin

  no_entry : (given : List Row) (raw : Row) (tail : List Row) → ((e : E) → IsLawful e → raw ≢ to_row e) → (entries : List E) → AllByRecursion IsLawful entries → given ++ raw ∷ tail ≡ map to_row entries → ⊥
  no_entry [] raw tail untyped [] each is = absurd (cc)
  no_entry [] raw tail untyped (e ∷ entries) each is = untyped e each.0 (let same : raw ≡ to_row e = cc in same)
  no_entry (g ∷ given) raw tail untyped [] each is = absurd (cc)
  no_entry (g ∷ given) raw tail untyped (e ∷ entries) each is = no_entry given raw tail untyped entries each.1 (let same : given ++ raw ∷ tail ≡ map to_row entries = cc in same)

  pub one_untyped : (given : List Row) (raw : Row) → IsTyped meant to_row IsLawful raw None → BeginNone to_row Are (given ++ raw ∷ [])
  one_untyped given raw untyped tail entries are = no_entry given raw tail untyped entries are.are.each (sym (append_assoc given (raw ∷ []) tail) ∙ are.is)

  pub still_none : (given : List Row) (raw : Row) (walk : Walk X F) → walk.is_held ≡ false → IsWalked Has meant to_row Are given walk → BeginNone to_row Are (given ++ raw ∷ [])
  still_none given raw walk lost was tail entries are =
      let none : BeginNone to_row Are given = subst (IsWalkedAs Has meant to_row Are given walk) lost was in
      none (raw ∷ tail) entries (subst (λ l. AreRowsOf to_row Are l entries) (append_assoc given (raw ∷ []) tail) are)

  module _ (from_row : Row → E) (back : (e : E) → from_row (to_row e) ≡ e) where
    same_entry : (a b : E) → to_row a ≡ to_row b → a ≡ b
    same_entry a b is = sym (back a) ∙ ap from_row is ∙ back b

    falls_at : (done : List X) (l n : X) (raw : Row) (tail : List Row) (entries : List E) → raw ≡ to_row (meant n) → map to_row (map meant (done ++ l ∷ [])) ++ raw ∷ tail ≡ map to_row entries → IsAscending IsLess entries → cmp (meant l) (meant n) ≡ Less
    falls_at [] l n raw tail [] typed is up = absurd (cc)
    falls_at [] l n raw tail (e ∷ []) typed is up = absurd (let rest : raw ∷ tail ≡ [] = cc in cc)
    falls_at [] l n raw tail (e ∷ f ∷ entries) typed is up =
        let first : to_row (meant l) ≡ to_row e = cc in
        let rest : raw ∷ tail ≡ to_row f ∷ map to_row entries = cc in
        let next : raw ≡ to_row f = cc in
        subst₂ (λ a b. cmp a b ≡ Less) (sym (same_entry (meant l) e first)) (sym (same_entry (meant n) f (sym typed ∙ next))) up.0.0
    falls_at (d ∷ done) l n raw tail [] typed is up = absurd (cc)
    falls_at (d ∷ done) l n raw tail (e ∷ entries) typed is up = falls_at done l n raw tail entries typed (let rest : map to_row (map meant (done ++ l ∷ [])) ++ raw ∷ tail ≡ map to_row entries = cc in rest) up.1

    pub one_falls : (given : List Row) (raw : Row) (walk : Walk X F) (next l : X) → walk.is_held ≡ true → walk.last ≡ Some l → IsWalked Has meant to_row Are given walk → IsTyped meant to_row IsLawful raw (Some next)
        → is_lt (cmp (meant l) (meant next)) ≡ false → BeginNone to_row Are (given ++ raw ∷ [])
    one_falls given raw walk next l held is was typed falls tail entries are =
        let so_far : AreSoFar Has meant to_row Are given walk = subst (IsWalkedAs Has meant to_row Are given walk) held was in
        let rows : given ≡ map to_row (map meant (so_far.done ++ l ∷ [])) = so_far.rows.is ∙ ap (λ o. map to_row (map meant (so_far.done ++ last_of o))) is in
        let less = falls_at so_far.done l next raw tail entries typed.0 (ap (λ g. g ++ raw ∷ tail) (sym rows) ∙ sym (append_assoc given (raw ∷ []) tail) ∙ are.is) are.are.rising in
        absurd (let e : false ≡ true = sym falls ∙ ap is_lt less in cc)

    pub not_following : (given : List Row) (raw : Row) (walk : Walk X F) (next : X) → walk.is_held ≡ true → (last : Option X) → walk.last ≡ last → IsWalked Has meant to_row Are given walk → IsTyped meant to_row IsLawful raw (Some next)
        → follows meant cmp last next ≡ false → BeginNone to_row Are (given ++ raw ∷ [])
    not_following given raw walk next held None is was typed falls = absurd (cc)
    not_following given raw walk next held (Some l) is was typed falls = one_falls given raw walk next l held is was typed falls

  -- ---- one row more

  rows_push : (xs : List X) (n : X) → map to_row (map meant (xs ++ n ∷ [])) ≡ map to_row (map meant xs) ++ to_row (meant n) ∷ []
  rows_push [] n = refl
  rows_push (x ∷ xs) n = ap (λ l. to_row (meant x) ∷ l) (rows_push xs n)

  last_one : (P : E → Type 0) (done : List X) (l : X) → AllByRecursion P (map meant (done ++ l ∷ [])) → P (meant l)
  last_one P [] l all = all.0
  last_one P (d ∷ done) l all = last_one P done l all.1

  one_more : (given : List Row) (raw : Row) (xs : List X) (n : X) → AreRowsOf to_row Are given (map meant xs) → IsTyped meant to_row IsLawful raw (Some n) → IsAscending IsLess (map meant (xs ++ n ∷ []))
      → AreRowsOf to_row Are (given ++ raw ∷ []) (map meant (xs ++ n ∷ []))
  one_more given raw xs n rows typed up = record {
    are = record { rising = up; each = push_lawful meant IsLawful xs n rows.are.each typed.1 };
    is = ap₂ (λ g r. g ++ r ∷ []) rows.is typed.0 ∙ sym (rows_push xs n);
  }

  pub first_row : (given : List Row) (raw : Row) (walk : Walk X F) (next : X) → walk.is_held ≡ true → walk.last ≡ None → IsWalked Has meant to_row Are given walk → IsTyped meant to_row IsLawful raw (Some next)
      → AreSoFar Has meant to_row Are (given ++ raw ∷ []) (record { last = Some next; is_held = true; fold = walk.fold })
  first_row given raw walk next held is was typed =
      let so_far : AreSoFar Has meant to_row Are given walk = subst (IsWalkedAs Has meant to_row Are given walk) held was in
      let none : so_far.done ≡ [] = so_far.first is in
      let rows : AreRowsOf to_row Are given [] = subst₂ (λ d o. AreRowsOf to_row Are given (map meant (d ++ last_of o))) none is so_far.rows in
      record {
        done = [];
        first = λ h. refl;
        folded = subst (Has walk.fold) none so_far.folded;
        rows = one_more given raw [] next rows typed (tt, tt);
      }

  module _ (trans : (a b c : E) → IsLess a b → IsLess b c → IsLess a c) where
    push_rising : (done : List X) (l n : X) → IsAscending IsLess (map meant (done ++ l ∷ [])) → IsLess (meant l) (meant n) → IsAscending IsLess (map meant ((done ++ l ∷ []) ++ n ∷ []))
    push_rising [] l n up less = ((less, tt), (tt, tt))
    push_rising (d ∷ done) l n up less =
        let far : IsLess (meant d) (meant n) = trans (meant d) (meant l) (meant n) (last_one (IsLess (meant d)) done l up.0) less in
        (push_lawful meant (IsLess (meant d)) (done ++ l ∷ []) n up.0 far, push_rising done l n up.1 less)

    pub next_row : (given : List Row) (raw : Row) (walk : Walk X F) (next l : X) (fold : F) → walk.is_held ≡ true → walk.last ≡ Some l → IsWalked Has meant to_row Are given walk → IsTyped meant to_row IsLawful raw (Some next)
        → is_lt (cmp (meant l) (meant next)) ≡ true → ((rows : List X) → Has walk.fold rows → Has fold (rows ++ l ∷ []))
        → AreSoFar Has meant to_row Are (given ++ raw ∷ []) (record { last = Some next; is_held = true; fold = fold })
    next_row given raw walk next l fold held is was typed less takes =
        let so_far : AreSoFar Has meant to_row Are given walk = subst (IsWalkedAs Has meant to_row Are given walk) held was in
        let rows : AreRowsOf to_row Are given (map meant (so_far.done ++ l ∷ [])) = subst (λ o. AreRowsOf to_row Are given (map meant (so_far.done ++ last_of o))) is so_far.rows in
        record {
          done = so_far.done ++ l ∷ [];
          first = λ h. absurd (cc);
          folded = takes so_far.done so_far.folded;
          rows = one_more given raw (so_far.done ++ l ∷ []) next rows typed (push_rising so_far.done l next rows.are.rising (is_less _ less));
        }

    pub next_taken : (given : List Row) (raw : Row) (walk : Walk X F) (next l : X) (fold : F) (last : Option X) → walk.is_held ≡ true → walk.last ≡ Some l → IsWalked Has meant to_row Are given walk → IsTyped meant to_row IsLawful raw (Some next)
        → follows meant cmp walk.last next ≡ true → last ≡ Some next → (r : Result (Unit {0}) Error) → ((rows : List X) → Has walk.fold rows → OnOk r (Has fold (rows ++ l ∷ [])))
        → OnOk r (IsWalked Has meant to_row Are (given ++ raw ∷ []) (record { last = last; is_held = walk.is_held; fold = fold }))
    next_taken given raw walk next l fold last held is was typed less new (Ok x) takes =
        let below : is_lt (cmp (meant l) (meant next)) ≡ true = sym (ap (λ o. follows meant cmp o next) is) ∙ less in
        let so_far = next_row given raw walk next l fold held is was typed below takes in
        subst₂ (λ b o. IsWalkedAs Has meant to_row Are (given ++ raw ∷ []) (record { last = o; is_held = b; fold = fold }) b) (sym held) (sym new) so_far
    next_taken given raw walk next l fold last held is was typed less new (Err e) takes = tt

  -- ---- before the first row, and after the last

  pub none_given : (fold : F) → Has fold [] → AreSoFar Has meant to_row Are [] (record { last = None; is_held = true; fold = fold })
  none_given fold begun = record { done = []; first = λ h. refl; folded = begun; rows = record { are = record { rising = tt; each = tt }; is = refl } }

  pub none_told : (given : List Row) (walk : Walk X F) → walk.is_held ≡ false → IsWalked Has meant to_row Are given walk → TellsRows Has meant to_row Are given None
  none_told given walk lost was entries are =
      let none : BeginNone to_row Are given = subst (IsWalkedAs Has meant to_row Are given walk) lost was in
      none [] entries (subst (λ l. AreRowsOf to_row Are l entries) (sym (append-nil given)) are)

  pub all_told : (given : List Row) (walk : Walk X F) → walk.is_held ≡ true → walk.last ≡ None → IsWalked Has meant to_row Are given walk → TellsRows Has meant to_row Are given (Some walk.fold)
  all_told given walk held is was =
      let so_far : AreSoFar Has meant to_row Are given walk = subst (IsWalkedAs Has meant to_row Are given walk) held was in
      (so_far.done, subst (λ l. AreRowsOf to_row Are given (map meant l)) (append-nil so_far.done) (subst (λ o. AreRowsOf to_row Are given (map meant (so_far.done ++ last_of o))) is so_far.rows), so_far.folded)

  pub last_told : (given : List Row) (walk : Walk X F) (l : X) (fold : F) → walk.is_held ≡ true → walk.last ≡ Some l → IsWalked Has meant to_row Are given walk → ((rows : List X) → Has walk.fold rows → Has fold (rows ++ l ∷ []))
      → TellsRows Has meant to_row Are given (Some fold)
  last_told given walk l fold held is was takes =
      let so_far : AreSoFar Has meant to_row Are given walk = subst (IsWalkedAs Has meant to_row Are given walk) held was in
      (so_far.done ++ l ∷ [], subst (λ o. AreRowsOf to_row Are given (map meant (so_far.done ++ last_of o))) is so_far.rows, takes so_far.done so_far.folded)
