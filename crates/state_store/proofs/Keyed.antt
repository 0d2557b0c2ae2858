-- Look-ups by a key of a map's order are those by what the key stands for.
use Rattle.std.proofs.Common.{◌≡◌, ◌∙◌, Bool, true, false, cond, Option, Some, None, is_some, option_map, List, [], ◌∷◌, refl, sym, ap, Less, Equal, Greater, Ordering, true≢false, is_eq}
use Rattle.state_store.proofs.Common.{AreApart, Equal-is, IsKeyTest, both_ways, eq_by_cmp, insert_entry, is_at, lookup, match_ordering}
use Rattle.std.specs.Map.{KeepsOthers}

-- keys tie where they stand for one thing, and a test decides whether two things are one
pub record IsKeyed {K F : Type 0} (cmp : K → K → Ordering) (of : K → F) (same : F → F → Bool) : Type 0 where
  pub one : (a b : F) → same a b ≡ true → a ≡ b
  pub itself : (a : F) → same a a ≡ true
  pub ties : (k e : K) → cmp k e ≡ Equal → of k ≡ of e
  pub tied : (k e : K) → of k ≡ of e → cmp k e ≡ Equal

pub at_same : {K F : Type 0} (cmp : K → K → Ordering) (of : K → F) (same : F → F → Bool) → IsKeyed cmp of same → (k e : K) → is_at (cmp k) e ≡ same (of k) (of e)
at_same cmp of same keyed k e = both_ways (is_at (cmp k) e) (same (of k) (of e))
    (λ at. ap (same (of k)) (sym (keyed.ties k e ((Equal-is (cmp k e)).0 at))) ∙ keyed.itself (of k))
    (λ at. (Equal-is (cmp k e)).1 (keyed.tied k e (keyed.one (of k) (of e) at)))

module _ {K F X : Type 0} (cmp : K → K → Ordering) (of : K → F) (same : F → F → Bool) (keyed : IsKeyed cmp of same) where
  -- a look-up by a key
  pub found_by : (es : List (K × X)) (k : K) (f : F) → of k ≡ f → lookup (is_at (cmp k)) es ≡ lookup (λ e. same f (of e)) es
  found_by es k f is = λ i. lookup (λ e. (at_same cmp of same keyed k e ∙ ap (λ g. same g (of e)) is) i) es

  -- after an entry is put in
  pub put_in : (es fs : List (K × X)) (k : K) (v : X) (f q : F) → of k ≡ f → fs ≡ insert_entry cmp es k v → lookup (λ e. same q (of e)) fs ≡ cond (same q f) (Some v) (lookup (λ e. same q (of e)) es)
  put_in es fs k v f q is entries = ap (λ l. lookup (λ e. same q (of e)) l) entries ∙ put es ∙ ap (λ g. cond (same q g) (Some v) (lookup (λ e. same q (of e)) es)) is
    where
      both : (e : K × X) (b c : Bool) → same q (of k) ≡ b → same q (of e.0) ≡ c → (b ≡ true → c ≡ true → cmp k e.0 ≡ Greater → ⊥)
      both e b c p r h g at =
          let one : of k ≡ of e.0 = sym (keyed.one q (of k) (p ∙ h)) ∙ keyed.one q (of e.0) (r ∙ g) in
          true≢false (sym (ap is_eq (keyed.tied k e.0 one)) ∙ ap is_eq at)

      swap : (b c : Bool) (x y z : Option X) → (b ≡ true → c ≡ true → ⊥) → cond c x (cond b y z) ≡ cond b y (cond c x z)
      swap true true x y z no_both = absurd (no_both refl refl)
      swap true false x y z no_both = refl
      swap false true x y z no_both = refl
      swap false false x y z no_both = refl

      twice : (b : Bool) (x y z : Option X) → cond b x z ≡ cond b x (cond b y z)
      twice true x y z = refl
      twice false x y z = refl

      put : (es : List (K × X)) → lookup (λ e. same q (of e)) (insert_entry cmp es k v) ≡ cond (same q (of k)) (Some v) (lookup (λ e. same q (of e)) es)
      put [] = refl
      put (e ∷ es) = by_order (cmp k e.0) refl (put es)
        where
          by_order : (r : Ordering) → cmp k e.0 ≡ r → lookup (λ e. same q (of e)) (insert_entry cmp es k v) ≡ cond (same q (of k)) (Some v) (lookup (λ e. same q (of e)) es)
              → lookup (λ e. same q (of e)) (match_ordering r ((k, v) ∷ e ∷ es) ((e.0, v) ∷ es) (e ∷ insert_entry cmp es k v)) ≡ cond (same q (of k)) (Some v) (lookup (λ e. same q (of e)) (e ∷ es))
          by_order Less at rest = refl
          by_order Equal at rest =
              let one : of k ≡ of e.0 = keyed.ties k e.0 at in
              twice (same q (of e.0)) (Some v) (Some e.1) (lookup (λ e. same q (of e)) es) ∙ ap (λ g. cond (same q g) (Some v) (cond (same q (of e.0)) (Some e.1) (lookup (λ e. same q (of e)) es))) (sym one)
          by_order Greater at rest =
              ap (cond (same q (of e.0)) (Some e.1)) rest
              ∙ swap (same q (of k)) (same q (of e.0)) (Some e.1) (Some v) (lookup (λ e. same q (of e)) es) (λ h g. both e (same q (of k)) (same q (of e.0)) refl refl h g at)

  -- after the entry of a key is taken out
  still_found : (test other : K → Bool) (es fs : List (K × X)) → KeepsOthers (eq_by_cmp cmp) test es fs → IsKeyTest (eq_by_cmp cmp) other → AreApart test other → lookup other fs ≡ lookup other es
  unfolding KeepsOthers
  still_found test other es fs keeps = keeps other

  pub taken_out : (es fs : List (K × X)) (k : K) (f q : F) → of k ≡ f → lookup (is_at (cmp k)) fs ≡ None → KeepsOthers (eq_by_cmp cmp) (is_at (cmp k)) es fs → lookup (λ e. same q (of e)) fs ≡ cond (same q f) None (lookup (λ e. same q (of e)) es)
  taken_out es fs k f q is gone keeps = by_case (same q f) refl
    where
      key_test : IsKeyTest (eq_by_cmp cmp) (λ e. same q (of e))
      key_test x y at = ap (λ g. same g (of y)) (keyed.one q (of x) at) ∙ sym (at_same cmp of same keyed x y)

      apart : same q f ≡ false → AreApart (is_at (cmp k)) (λ e. same q (of e))
      apart other e at = ap (same q) (sym (keyed.ties k e ((Equal-is (cmp k e)).0 at)) ∙ is) ∙ other

      by_case : (b : Bool) → same q f ≡ b → lookup (λ e. same q (of e)) fs ≡ cond (same q f) None (lookup (λ e. same q (of e)) es)
      by_case true at =
          ap (λ g. lookup (λ e. same g (of e)) fs) (keyed.one q f at) ∙ sym (found_by fs k f is) ∙ gone
          ∙ sym (ap (λ b. cond b None (lookup (λ e. same q (of e)) es)) at)
      by_case false at =
          still_found (is_at (cmp k)) (λ e. same q (of e)) es fs keeps key_test (apart at)
          ∙ sym (ap (λ b. cond b None (lookup (λ e. same q (of e)) es)) at)

pub some_mapped : {A B : Type 0} (f : A → B) (o : Option A) → is_some o ≡ is_some (option_map f o)
some_mapped f (Some a) = refl
some_mapped f None = refl
