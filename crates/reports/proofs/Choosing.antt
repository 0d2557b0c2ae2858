-- What a sink is handed that takes the wanted rows alone.
use Rattle.reports.proofs.Common.{Bool, HandedOut, List, Progress, TakesWanted, [], ap, false, filter, if◌then◌else◌, refl, subst, suc, take, true, zero, ℕ, ◌∙◌, ◌∷◌, ◌≡◌}
use Rattle.std.specs.Bool.{MatchBool}
use Rattle.reports.proofs.Telling.{Took, SameName}

-- A sink with a name, a form and a pick that stay.
module _ {S P F N Row : Type 0} (progress : S → Progress) (name : S → N) (form_of : S → F) (pick_of : S → P) (piece : F → ℕ → Row → List ℕ) (wants : P → Row → Bool) where
  abbrev pub TakesRow : S → Row → Bool → S → Type 0
  TakesRow old row go new =
      (name new ≡ name old) × (form_of new ≡ form_of old) × (pick_of new ≡ pick_of old)
      × TakesWanted (wants (pick_of old) row) (piece (form_of old) (progress old).rows row) (progress old) go (progress new)

  -- as the proofs of a report see it
  abbrev pub seen : S → Progress × N
  seen s = (progress s, name s)

  abbrev pub Hands : F → List Row → Progress × N → Progress × N → Type 0
  Hands f rows old new = HandedOut (Took (λ q. q.0) (piece f) (SameName (λ q. q.0) (piece f) (λ q. q.1))) rows old new

  one_row : (b : Bool) (f : F) (row : Row) (rest : List Row) (old mid new : S) (go : Bool) → name mid ≡ name old
      → TakesWanted b (piece f (progress old).rows row) (progress old) go (progress mid)
      → MatchBool go (Hands f rest (seen mid) (seen new)) (new ≡ mid)
      → Hands f (if b then row ∷ rest else rest) (seen old) (seen new)
  one_row true f row rest old mid new true named took more = (true, seen mid, (named, took), more)
  one_row true f row rest old mid new false named took more = (false, seen mid, (named, took), ap seen more)
  one_row false f row rest old mid new true named took more = subst (λ (q : Progress × N). Hands f rest q (seen new)) (λ i. (took.1 i, named i)) more
  one_row false f row rest old mid new false named took more = absurd cc

  -- the sink is handed the wanted rows
  pub wanted_rows : (rows : List Row) (f : F) (old new : S) → form_of old ≡ f → HandedOut TakesRow rows old new → Hands f (filter (wants (pick_of old)) rows) (seen old) (seen new)
  wanted_rows [] f old new of h = ap seen h
  wanted_rows (row ∷ rows) f old new of (true, mid, took, more) =
      let took_f = subst (λ g. TakesWanted (wants (pick_of old) row) (piece g (progress old).rows row) (progress old) true (progress mid)) of took.3 in
      let rest = subst (λ (p : P). Hands f (filter (wants p) rows) (seen mid) (seen new)) took.2 (wanted_rows rows f mid new (took.1 ∙ of) more) in
      one_row (wants (pick_of old) row) f row (filter (wants (pick_of old)) rows) old mid new true took.0 took_f rest
  wanted_rows (row ∷ rows) f old new of (false, mid, took, more) =
      let took_f = subst (λ g. TakesWanted (wants (pick_of old) row) (piece g (progress old).rows row) (progress old) false (progress mid)) of took.3 in
      one_row (wants (pick_of old) row) f row (filter (wants (pick_of old)) rows) old mid new false took.0 took_f more

  -- what each row keeps is kept
  kept : {A : Type 0} (of : S → A) → ((old : S) (row : Row) (go : Bool) (new : S) → TakesRow old row go new → of new ≡ of old)
      → (rows : List Row) (old new : S) → HandedOut TakesRow rows old new → of new ≡ of old
  kept of step [] old new h = ap of h
  kept of step (row ∷ rows) old new (true, mid, took, more) = kept of step rows mid new more ∙ step old row true mid took
  kept of step (row ∷ rows) old new (false, mid, took, more) = ap of more ∙ step old row false mid took

  pub same_name : (rows : List Row) (old new : S) → HandedOut TakesRow rows old new → name new ≡ name old
  same_name = kept name (λ old row go new took. took.0)

  pub same_form : (rows : List Row) (old new : S) → HandedOut TakesRow rows old new → form_of new ≡ form_of old
  same_form = kept form_of (λ old row go new took. took.1)

one_more : {Row : Type 0} (b : Bool) (row : Row) (xs ys : List Row) → ((m : ℕ) × (xs ≡ take m ys)) → (m : ℕ) × ((if b then row ∷ xs else xs) ≡ take m (if b then row ∷ ys else ys))
one_more true row xs ys (m, is) = (suc m, ap (λ l. row ∷ l) is)
one_more false row xs ys is = is

-- of a beginning of the rows a beginning of the wanted ones is wanted
pub beginning : {Row : Type 0} (wants : Row → Bool) (rows : List Row) (n : ℕ) → (m : ℕ) × (filter wants (take n rows) ≡ take m (filter wants rows))
beginning wants rows zero = (zero, refl)
beginning wants [] (suc n) = (zero, refl)
beginning wants (row ∷ rows) (suc n) = one_more (wants row) row (filter wants (take n rows)) (filter wants rows) (beginning wants rows n)

-- every row
pub all_rows : {Row : Type 0} (rows : List Row) → filter (λ row. true) rows ≡ rows
all_rows [] = refl
all_rows (row ∷ rows) = ap (λ l. row ∷ l) (all_rows rows)
