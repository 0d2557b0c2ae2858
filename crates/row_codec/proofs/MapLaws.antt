-- What holds of each entry of a map holds at each key, and the other way round.
use Rattle.row_codec.proofs.Common.{AllByRecursion, Bool, Equal, FinMap, Greater, IsAntisymmetric, IsAscending, IsTotalOrder, Less, List, Ordering, Some, [], all_both, all_weaker, ap, ap₂, cond, entries, entries_rise, eq_by_cmp, eq_by_cmp_equiv, false, get, get-entries, get-insert, insert, is_eq, list_all, refl, subst, sym, tied_itself, true, ◌∙◌, ◌∷◌, ◌≡◌}
use Rattle.std.specs.FinMap.{find}
use Rattle.sqlite_keyed.proofs.ListLemmas.{all_from_test, test_from_all}

pub is_tied : (o : Ordering) → is_eq o ≡ true → o ≡ Equal
is_tied Less h = absurd (cc)
is_tied Equal h = refl
is_tied Greater h = absurd (cc)

turn : {K : Type 0} (R : K → K → Ordering) → IsTotalOrder R → (x y : K) → eq_by_cmp R x y ≡ eq_by_cmp R y x
turn R total = (eq_by_cmp_equiv total).symm

pub each_passes : {X : Type 0} (p : X → Bool) (xs : List X) → list_all p xs ≡ true → AllByRecursion (λ x. p x ≡ true) xs
each_passes p xs h = all_from_test p xs h

pub key_is : {K : Type 0} (R : K → K → Ordering) → IsAntisymmetric R → (q k : K) → eq_by_cmp R q k ≡ true → q ≡ k
key_is R same q k tied = same q k (is_tied _ tied)

module _ {K V : Type 0} (R : K → K → Ordering) (total : IsTotalOrder R) where
  each_found : (es : List (K × V)) → IsAscending (λ a b. R a.0 b.0 ≡ Less) es → AllByRecursion (λ e. find R e.0 es ≡ Some e.1) es
  each_found [] up = tt
  each_found (e ∷ es) up = (
    ap (λ o. cond (is_eq o) (Some e.1) (find R e.0 es)) (tied_itself total e.0),
    all_both (λ d. R e.0 d.0 ≡ Less) (λ d. find R d.0 es ≡ Some d.1) (λ d. find R d.0 (e ∷ es) ≡ Some d.1)
        (λ d low is. ap (λ b. cond b (Some e.1) (find R d.0 es)) (turn R total d.0 e.0 ∙ ap is_eq low) ∙ is) es up.0 (each_found es up.1),
  )

  pub each_entry : (P : K × V → Type 0) (m : FinMap R V) → ((q : K) (v : V) → get m q ≡ Some v → P (q, v)) → AllByRecursion P (entries m)
  each_entry P m h = all_weaker _ P (λ e is. h e.0 e.1 (get-entries m e.0 ∙ is)) (entries m) (each_found (entries m) (entries_rise R total m))

  module _ (same : IsAntisymmetric R) where
    found_in : (P : K × V → Type 0) (q : K) (v : V) (es : List (K × V)) → AllByRecursion P es → find R q es ≡ Some v → P (q, v)
    found_in P q v [] all is = absurd (cc)
    found_in P q v (e ∷ es) all is = elim (eq_by_cmp R q e.0) as (λ b. eq_by_cmp R q e.0 ≡ b → cond b (Some e.1) (find R q es) ≡ Some v → P (q, v)) [
      | true ↦ λ tied has. let value : e.1 ≡ v = cc in subst P (ap₂ (λ a b. (a, b)) (sym (key_is R same q e.0 tied)) value) all.0
      | false ↦ λ tied has. found_in P q v es all.1 has
    ] refl is

    pub at_key : (P : K × V → Type 0) (m : FinMap R V) → AllByRecursion P (entries m) → (q : K) (v : V) → get m q ≡ Some v → P (q, v)
    at_key P m all q v has = found_in P q v (entries m) all (sym (get-entries m q) ∙ has)

    -- a test that each entry passes
    pub all-insert : (p : K × V → Bool) (m : FinMap R V) (k : K) (v : V) → list_all p (entries m) ≡ true → p (k, v) ≡ true → list_all p (entries (insert m k v)) ≡ true
    all-insert p m k v all new = test_from_all p (entries (insert m k v)) (each_entry (λ e. p e ≡ true) (insert m k v) (λ q w has. go q w (eq_by_cmp R q k) refl (sym (get-insert total m k v q) ∙ has)))
      where
        go : (q : K) (w : V) (b : Bool) → eq_by_cmp R q k ≡ b → cond b (Some v) (get m q) ≡ Some w → p (q, w) ≡ true
        go q w true tied has = let value : v ≡ w = cc in ap₂ (λ a b. p (a, b)) (key_is R same q k tied) (sym value) ∙ new
        go q w false tied has = at_key (λ e. p e ≡ true) m (each_passes p (entries m) all) q w has
