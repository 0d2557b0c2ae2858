-- What an amount that is posted makes of the sums.
use Rattle.table_audits.proofs.Common.{AreDistinct, AreSums, BookSums, Bool, Build, BuildPlace, Built, Count, CountKey, CountPlace, FlightDate, IsPosting, List, Move, None, Option, Place, Posting, Some, Sums, Tally, [], and_no, ap, ap₂, arith, build_due, build_place_cmp, build_row, build_told, come, come_to, comes_to_sum, cond, count_cmp, count_here, count_in, count_place_cmp, count_row, count_told, counts_total, eq_by_cmp, eq_by_cmp_equiv, false, gone, int_cmp, int_eq, int_tied, is_built, is_false, is_nat, nat_cmp, nat_tests, negated, negsuc, none_is, off, option_map, pair_eq, place_code, plain_place, plus, pos, posting, refl, running, running_in, running_on, same-is, same-refl, same_bool, same_flight_date, same_place, slice_get, some_is, subst, sym, unless_nothing, ℕ, ℤ, ◌&&◌, ◌++◌, ◌==◌, ◌∙◌, ◌∷◌, ◌≡◌, ◌≢◌, ints}
use Rattle.std.specs.BTreeMap.{get}
use Rattle.row_codec.proofs.Codes as codes
use Rattle.row_codec.proofs.Moved.{sums_then}

-- ---- no moves

pub no_sums : (flights : List FlightDate) (sums : BookSums) → sums.counts.entries ≡ [] → sums.builds.entries ≡ [] → AreSums flights sums (running [])
no_sums flights sums c b = record {
  counts = λ q. no_count q;
  builds = λ i awb. no_build i awb;
  others = λ w f none. refl;
}
  where
    none_here : (w : ℕ) (o : Option Place) → ◌≡◌ {A = Option Count} None (count_here (running []) w o)
    none_here w None = refl
    none_here w (Some p) = refl

    no_count : (q : CountKey) → count_told sums q ≡ count_in (running []) q
    no_count (pos w, code) = rw (c) (none_here w (plain_place code))
    no_count (negsuc n, code) = rw (c) refl

    none_due : (awb : ℤ) (o : Option FlightDate) → ◌≡◌ {A = Option Build} None (build_due (running []) awb o)
    none_due (pos w) None = refl
    none_due (pos w) (Some f) = refl
    none_due (negsuc n) o = refl

    no_build : (i : ℕ) (awb : ℤ) → build_told sums i awb ≡ build_due (running []) awb (slice_get flights i)
    no_build i awb = rw (b) (none_due awb (slice_get flights i))

-- ---- an amount more

pub mapped : {X Y : Type 0} (f : X → Y) (b : Bool) (x y : Option X) → option_map f (cond b x y) ≡ cond b (option_map f x) (option_map f y)
mapped f b x y = grind arith

-- what a row comes to, and the tally that it keeps
module _ {V : Type 0} (row : Tally → V) (amount : V → Tally) (again : (t : Tally) → amount (row t) ≡ t) where
  row_comes : (o : Option Tally) (by : Tally) → come_to (λ t. t) o by ≡ come_to amount (option_map row o) by
  row_comes None by = refl
  row_comes (Some t) by = ap (λ x. plus x by) (sym (again t))

  sum_row : (o : Option Tally) (r : Tally) (by : Tally) → option_map row o ≡ option_map row (unless_nothing r)
      → option_map row (unless_nothing (come_to (λ t. t) o by)) ≡ option_map row (unless_nothing (plus r by))
  sum_row o r by h = ap (λ x. option_map row (unless_nothing x)) (row_comes o by ∙ ap (λ v. come_to amount v by) h ∙ comes_to_sum row amount again r by)

not_posted : (s : Sums) (a : ℕ) (p : Place) (r : Tally) (w : ℕ) (at : Place) → same_place at p ≡ false → posting a p r s w at ≡ s w at
not_posted s a p r w at h = ap (λ b. cond b (plus (s w at) r) (s w at)) (ap (λ b. (a == w) && b) h ∙ and_no (a == w))

-- at a place that isn't built

module _ (s : Sums) (a : ℕ) (p : Place) (r : Tally) (plain : is_built p ≡ false) where
  due_stays : (awb : ℤ) (o : Option FlightDate) → build_due s awb o ≡ build_due (posting a p r s) awb o
  due_stays (pos w) None = refl
  due_stays (pos w) (Some f) = ap (λ x. option_map build_row (unless_nothing x)) (sym (not_posted s a p r w (Built f) (off f p plain)))
  due_stays (negsuc n) o = refl

pub posted_count : (flights : List FlightDate) (old new : BookSums) (s : Sums) (key : CountPlace) (by : Tally) → AreSums flights old s
    → ((q : CountPlace) → get count_place_cmp new.counts q ≡ cond (eq_by_cmp count_place_cmp key q) (unless_nothing (come_to (λ t. t) (get count_place_cmp old.counts key) by)) (get count_place_cmp old.counts q))
    → new.builds ≡ old.builds → (a : ℕ) (p : Place) → key.awb ≡ pos a → key.place ≡ pos (place_code p) → is_built p ≡ false
    → AreSums flights new (posting a p by s)
posted_count flights old new s key by are told same a p awb_is place_is plain = record {
  counts = λ q. count_at q;
  builds = λ i awb. ap (λ m. option_map build_row (get build_place_cmp m (record { flight = i; awb = awb }))) same ∙ are.builds i awb ∙ due_stays s a p by plain awb (slice_get flights i);
  others = λ w f none. ap unless_nothing (not_posted s a p by w (Built f) (off f p plain)) ∙ are.others w f none;
}
  where
    key_is : ◌≡◌ {A = CountKey} (key.awb, key.place) (pos a, pos (place_code p))
    key_is = λ i. (awb_is i, place_is i)

    count_at : (q : CountKey) → count_told new q ≡ count_in (posting a p by s) q
    count_at (w, c) =
        ap (option_map count_row) (told (record { awb = w; place = c }))
        ∙ mapped count_row (eq_by_cmp count_cmp (key.awb, key.place) (w, c)) (unless_nothing (come_to (λ t. t) (get count_place_cmp old.counts key) by)) (get count_place_cmp old.counts (record { awb = w; place = c }))
        ∙ ap₂ (λ x y. cond (eq_by_cmp count_cmp (key.awb, key.place) (w, c)) x y)
        (sum_row count_row running_in (λ t. refl) (get count_place_cmp old.counts key) (s a p) by (are.counts (key.awb, key.place) ∙ ap (count_in s) key_is ∙ codes.at_key s a p by plain))
        (are.counts (w, c))
        ∙ ap (λ b. cond b (option_map count_row (unless_nothing (plus (s a p) by))) (count_in s (w, c)))
        ((eq_by_cmp_equiv counts_total).symm (key.awb, key.place) (w, c) ∙ ap (λ k. eq_by_cmp count_cmp (w, c) k) key_is)
        ∙ sym (codes.after s a p by plain (w, c))

-- on a flight

turned : (x y : Bool) → (x && y) ≡ (y && x)
turned x y = grind arith

pub key_eq : (i j : ℕ) (a w : ℤ) → eq_by_cmp build_place_cmp (record { flight = i; awb = a }) (record { flight = j; awb = w }) ≡ ((i == j) && int_eq a w)
key_eq i j a w = pair_eq nat_cmp int_cmp (i, a) (j, w) ∙ ap₂ ◌&&◌ tied (int_tied a w)
  where
    tied : eq_by_cmp nat_cmp i j ≡ (i == j)
    tied = grind (arith, nat_tests)

module _ (flights : List FlightDate) (distinct : AreDistinct flights) (s : Sums) (a : ℕ) (f : FlightDate) (r : Tally) (at : ℕ) (is : slice_get flights at ≡ Some f) where
  abbrev pub sum : Option Build
  sum = option_map build_row (unless_nothing (plus (s a (Built f)) r))

  same_index : (i : ℕ) (g : FlightDate) → slice_get flights i ≡ Some g → (at == i) ≡ same_flight_date g f
  same_index i g here = same_bool _ _
      (λ e. let one : f ≡ g = some_is f g (sym is ∙ ap (slice_get flights) (is_nat at i e) ∙ here) in ap (λ x. same_flight_date x f) (sym one) ∙ same-refl f)
      (λ e. let one = distinct at i f is (here ∙ ap (λ x. Some x) (same-is g f e)) in grind (arith, nat_tests))

  no_index : (i : ℕ) → slice_get flights i ≡ None → (at == i) ≡ false
  no_index i none = is_false _ (λ e. none_is f (sym none ∙ ap (slice_get flights) (sym (is_nat at i e)) ∙ is))

  int_tests : (x y : ℕ) → int_eq (pos x) (pos y) ≡ (x == y)
  int_tests x y = grind (arith, ints, nat_tests)

  pub due_after : (i : ℕ) (awb : ℤ) → build_due (posting a (Built f) r s) awb (slice_get flights i) ≡ cond ((at == i) && int_eq (pos a) awb) sum (build_due s awb (slice_get flights i))
  due_after i (pos w) = go (slice_get flights i) refl
    where
      go : (o : Option FlightDate) → slice_get flights i ≡ o → build_due (posting a (Built f) r s) (pos w) o ≡ cond ((at == i) && int_eq (pos a) (pos w)) sum (build_due s (pos w) o)
      go None e = ap (λ b. cond (b && int_eq (pos a) (pos w)) sum None) (sym (no_index i e))
      go (Some g) e = codes.row_after build_row s a (Built f) r w (Built g)
          ∙ ap (λ b. cond b sum (option_map build_row (unless_nothing (s w (Built g)))))
          (turned (a == w) (same_flight_date g f) ∙ ap₂ ◌&&◌ (sym (same_index i g e)) (sym (int_tests a w)))
  due_after i (negsuc n) = ap (λ b. cond b sum None) (sym (and_no (at == i)))

  pub due_at : build_due s (pos a) (slice_get flights at) ≡ option_map build_row (unless_nothing (s a (Built f)))
  due_at = ap (build_due s (pos a)) is

  pub none_other : (w : ℕ) (g : FlightDate) → ((i : ℕ) → slice_get flights i ≢ Some g) → posting a (Built f) r s w (Built g) ≡ s w (Built g)
  none_other w g none = not_posted s a (Built f) r w (Built g) (is_false _ (λ e. absurd (none at (is ∙ ap (λ x. Some x) (sym (same-is g f e))))))

pub posted_build : (flights : List FlightDate) (old new : BookSums) (s : Sums) (key : BuildPlace) (by : Tally) → AreDistinct flights → AreSums flights old s
    → ((q : BuildPlace) → get build_place_cmp new.builds q ≡ cond (eq_by_cmp build_place_cmp key q) (unless_nothing (come_to (λ t. t) (get build_place_cmp old.builds key) by)) (get build_place_cmp old.builds q))
    → new.counts ≡ old.counts → (a : ℕ) (f : FlightDate) → key.awb ≡ pos a → slice_get flights key.flight ≡ Some f
    → AreSums flights new (posting a (Built f) by s)
posted_build flights old new s key by distinct are told same a f awb_is flight_is = record {
  counts = λ q. ap (λ m. option_map count_row (get count_place_cmp m (record { awb = q.0; place = q.1 }))) same ∙ are.counts q ∙ sym (codes.counts_stay s a f by q);
  builds = λ i awb. build_at i awb;
  others = λ w g none. ap unless_nothing (none_other flights distinct s a f by key.flight flight_is w g none) ∙ are.others w g none;
}
  where
    old_at : option_map build_row (get build_place_cmp old.builds key) ≡ option_map build_row (unless_nothing (s a (Built f)))
    old_at = are.builds key.flight key.awb ∙ ap (λ z. build_due s z (slice_get flights key.flight)) awb_is ∙ due_at flights distinct s a f by key.flight flight_is

    build_at : (i : ℕ) (awb : ℤ) → build_told new i awb ≡ build_due (posting a (Built f) by s) awb (slice_get flights i)
    build_at i awb =
        ap (option_map build_row) (told (record { flight = i; awb = awb }))
        ∙ mapped build_row (eq_by_cmp build_place_cmp key (record { flight = i; awb = awb })) (unless_nothing (come_to (λ t. t) (get build_place_cmp old.builds key) by)) (get build_place_cmp old.builds (record { flight = i; awb = awb }))
        ∙ ap₂ (λ x y. cond (eq_by_cmp build_place_cmp key (record { flight = i; awb = awb })) x y) (sum_row build_row running_on (λ t. refl) (get build_place_cmp old.builds key) (s a (Built f)) by old_at) (are.builds i awb)
        ∙ ap (λ b. cond b (option_map build_row (unless_nothing (plus (s a (Built f)) by))) (build_due s awb (slice_get flights i)))
        (key_eq key.flight i key.awb awb ∙ ap (λ z. (key.flight == i) && int_eq z awb) awb_is)
        ∙ sym (due_after flights distinct s a f by key.flight flight_is i awb)

-- ---- a move

pub moved : (flights : List FlightDate) (book : List Move) (m : Move) (p : Posting) (back : Tally) (new : BookSums) → IsPosting flights p m
    → back ≡ negated p.amount
    → AreSums flights new (posting m.awb m.to p.amount (posting m.awb m.from back (running book)))
    → AreSums flights new (running (book ++ m ∷ []))
moved flights book m p back new is back_is are =
    let came : p.amount ≡ come m = λ i. record { pieces = is.pieces_is i; tenths = is.tenths_is i } in
    let went : back ≡ gone m = back_is ∙ ap negated came in
    subst (AreSums flights new)
    (ap (λ r. posting m.awb m.to r (posting m.awb m.from back (running book))) came
    ∙ ap (λ r. posting m.awb m.to (come m) (posting m.awb m.from r (running book))) went
    ∙ sums_then book m)
    are
