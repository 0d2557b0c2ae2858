-- A map that is read under the keys of values, where only some values have a key.
use Rattle.std.proofs.Common.{◌≡◌, Bool, true, false, arith, cond, Option, Some, refl, sym, ap, ◌∙◌, true≢false, Ordering}
use Rattle.row_codec.proofs.Common.{FinMap, IsTotalOrder, eq_by_cmp, false_from_ne_true, get, get-insert, insert}

module _ {K V Q W : Type 0} (R : K → K → Ordering) (total : IsTotalOrder R) (key : Q → K) (guard : Q → Bool) (see : Option V → W) (nothing : W) (same : Q → Q → Bool)
    (same_keys : (a b : Q) → guard a ≡ true → guard b ≡ true → eq_by_cmp R (key a) (key b) ≡ same a b)
    (same_guard : (a b : Q) → guard b ≡ true → same a b ≡ true → guard a ≡ true) where
  -- what is seen of a value
  abbrev pub seen : FinMap R V → Q → W
  seen m q = cond (guard q) (see (get m (key q))) nothing

  chosen : (b : Bool) (v : V) (o : Option V) → see (cond b (Some v) o) ≡ cond b (see (Some v)) (see o)
  chosen b v o = grind arith

  pub seen-insert : (m : FinMap R V) (a : Q) (v : V) → guard a ≡ true → (q : Q) → seen (insert m (key a) v) q ≡ cond (same q a) (see (Some v)) (seen m q)
  seen-insert m a v may q = go (guard q) refl
    where
      go : (g : Bool) → guard q ≡ g → cond g (see (get (insert m (key a) v) (key q))) nothing ≡ cond (same q a) (see (Some v)) (cond g (see (get m (key q))) nothing)
      go true is =
          ap see (get-insert total m (key a) v (key q)) ∙ chosen (eq_by_cmp R (key q) (key a)) v (get m (key q))
          ∙ ap (λ b. cond b (see (Some v)) (see (get m (key q)))) (same_keys q a is may)
      go false is = sym (ap (λ b. cond b (see (Some v)) nothing) (false_from_ne_true (same q a) (λ e. true≢false (sym (same_guard q a may e) ∙ is))))
