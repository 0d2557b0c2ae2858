-- The value of a map when a row is stored in it.
use Rattle.std.proofs.Common.{◌≡◌, pos, Bool, true, false, cond, is_some, Option, Some, None, option_map, unwrap_or, refl, sym, arith, ap, ap₂, ◌∙◌, Ordering}
use Rattle.row_codec.proofs.Common.{FinMap, IfSome, IsRowOf, IsTotalOrder, Tally, come_to, eq_by_cmp, first_true, get, get-insert, get-remove, insert, is_nothing, pieces_found, plus, second_true, stored, unless_nothing}
use Rattle.row_codec.proofs.Tests.{is_int, from_zero, some_is}

abbrev pub zero_tally : Tally
zero_tally = record { pieces = pos 0; tenths = pos 0 }

pub nothing_is : (r : Tally) → is_nothing r ≡ true → zero_tally ≡ r
nothing_is r h = λ i. record { pieces = sym (is_int r.pieces (pos 0) (first_true _ _ h)) i; tenths = sym (is_int r.tenths (pos 0) (second_true _ _ h)) i }

pub rows_again : {V : Type 0} (row : Tally → V) (read : V → Tally) → ((t : Tally) → read (row t) ≡ t) → (o : Option Tally) → option_map read (option_map row o) ≡ o
rows_again row read same None = refl
rows_again row read same (Some t) = ap (λ (x : Tally). Some x) (same t)

module _ {V : Type 0} (row : Tally → V) (amount : V → Tally) (again : (r : Tally) → amount (row r) ≡ r) where
  pub comes_to_sum : (s by : Tally) → come_to amount (option_map row (unless_nothing s)) by ≡ plus s by
  comes_to_sum s by = go (is_nothing s) refl
    where
      go : (b : Bool) → is_nothing s ≡ b → come_to amount (option_map row (cond b None (Some s))) by ≡ plus s by
      go true e =
          let n = sym (nothing_is s e) in
          λ i. record { pieces = from_zero s.pieces by.pieces (ap (λ (r : Tally). r.pieces) n) i; tenths = from_zero s.tenths by.tenths (ap (λ (r : Tally). r.tenths) n) i }
      go false e = ap (λ r. plus r by) (again s)

  -- what is read in the row of a sum
  module _ (s : Tally) (found : Option V) (is : found ≡ option_map row (unless_nothing s)) where
    read : option_map amount found ≡ unless_nothing s
    read = ap (option_map amount) is ∙ rows_again row amount again (unless_nothing s)

    pub sum_there : (t : Tally) → Some t ≡ option_map amount found → t ≡ s
    sum_there t h = go (is_nothing s) (h ∙ read)
      where
        go : (b : Bool) → Some t ≡ cond b None (Some s) → t ≡ s
        go true e = absurd (cc)
        go false e = some_is t s e

    pub no_sum : None ≡ option_map amount found → zero_tally ≡ s
    no_sum h = go (is_nothing s) refl (h ∙ read)
      where
        go : (b : Bool) → is_nothing s ≡ b → None ≡ cond b None (Some s) → zero_tally ≡ s
        go true none e = nothing_is s none
        go false none e = absurd (cc)

    pub pieces_there : pieces_found (option_map amount found) ≡ s.pieces
    pieces_there = ap pieces_found read ∙ go (is_nothing s) refl
      where
        go : (b : Bool) → is_nothing s ≡ b → pieces_found (cond b None (Some s)) ≡ s.pieces
        go true none = ap (λ (r : Tally). r.pieces) (nothing_is s none)
        go false none = refl

    -- what is known of the sum is in the row
    pub known_there : (known : Option Tally) → IfSome known (λ t. t ≡ s) → IfSome known (IsRowOf amount found)
    known_there None are = tt
    known_there (Some t) are = read ∙ ap unless_nothing (sym are)

  there : (b : Bool) (r : Tally) → cond b None (Some (row r)) ≡ option_map row (cond b None (Some r))
  there b r = grind arith

  module _ {K : Type 0} {R : K → K → Ordering} (total : IsTotalOrder R) where
    get-stored : (m : FinMap R V) (o : Option V) (nothing : Bool) (key : K) (v : V) (q : K) → get m key ≡ o → get (stored m nothing (is_some o) key v) q ≡ cond (eq_by_cmp R q key) (cond nothing None (Some v)) (get m q)
    get-stored m o true key v q is = get-remove total m key q
    get-stored m None false key v q is = get-insert total m key v q
    get-stored m (Some w) false key v q is = ap (λ o. get (unwrap_or (option_map (λ _. insert m key v) o) m) q) is ∙ get-insert total m key v q

    -- a map that was one function is another, which differs at the key
    pub posted_as : (f g : K → Option V) (m : FinMap R V) (key : K) (by s : Tally) → ((q : K) → get m q ≡ f q) → f key ≡ option_map row (unless_nothing s)
        → ((q : K) → g q ≡ cond (eq_by_cmp R q key) (option_map row (unless_nothing (plus s by))) (f q))
        → (q : K) → get (stored m (is_nothing (come_to amount (get m key) by)) (is_some (get m key)) key (row (come_to amount (get m key) by))) q ≡ g q
    posted_as f g m key by s is at after q =
        let r : Tally = come_to amount (get m key) by in
        let sum : r ≡ plus s by = ap (λ o. come_to amount o by) (is key ∙ at) ∙ comes_to_sum s by in
        get-stored m (get m key) (is_nothing r) key (row r) q refl
        ∙ ap (λ o. cond (eq_by_cmp R q key) o (get m q)) (there (is_nothing r) r)
        ∙ ap₂ (λ x o. cond (eq_by_cmp R q key) (option_map row (unless_nothing x)) o) sum (is q)
        ∙ sym (after q)
