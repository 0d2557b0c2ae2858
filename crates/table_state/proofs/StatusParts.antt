-- The status messages of a waybill are those of its span.
use Rattle.std.proofs.Common.{◌≡◌, ℕ, suc, ◌+◌, ◌<◌, ◌≤◌, ◌&&◌, Bool, true, false, Option, None, Some, List, [], ◌∷◌, ◌++◌, length, refl, sym, ap, subst, ◌∙◌, arith}
use Rattle.table_state.proofs.Common.{All, All-cons, All-nil, All-push, All-same, All-weaker, AreTold, HandedOut, IsSpanned, IsTold, LiesIn, Reaches, nat_cmp, numbered}
use Rattle.std.specs.BTreeMap.{BTreeMap, get}
use Rattle.std.specs.Prelude.{codes, nat_le, slice_range, take}
use Rattle.std.specs.Str.{bytes_eq}
use Rattle.std.proofs.lemmas.Bool.Decides.{nat_tests}
use Rattle.awb_number.specs.Number.{IsNumber, number_text}
use Rattle.imp_fields.proofs.SameFlight.{bytes_eq-true}
use Rattle.state_store.specs.Status.{AreWithin, IsWithin, is_beyond}
use Rattle.station_core.specs.Readers.{is_about, message}
use Rattle.station_core.specs.declared.rows.Message.{Message}
use Rattle.table_state.specs.declared.span.Span.{Span}
use Rattle.table_state.specs.declared.status_spans.StatusFilling.{StatusFilling}

numbered_more : (a : ℕ) (outbox : List (List ℕ)) (text : List ℕ) → numbered message a (outbox ++ text ∷ []) ≡ numbered message a outbox ++ message (a + length outbox) text ∷ []
numbered_more a [] text = let here : a ≡ a + 0 = omega arith in ap (λ n. message n text ∷ []) here
numbered_more a (x ∷ xs) text =
    let here : a + 1 + length xs ≡ a + suc (length xs) = omega arith in
    ap (λ (l : List Message). message a x ∷ l) (numbered_more (a + 1) xs text ∙ ap (λ n. numbered message (a + 1) xs ++ message n text ∷ []) here)

second : (a b : Bool) → (a && b) ≡ true → b ≡ true
second true b h = h
second false b h = cc

-- the number on the second line of a status message
pub told_number : (text : List ℕ) (n w : ℕ) → is_about w (message n text) ≡ true → slice_range text 8 20 ≡ number_text w
told_number text n w about = bytes_eq-true (slice_range text 8 20) (number_text w) (second (nat_le 20 (length text) && bytes_eq (take 8 text) (codes "FSU/12\r\n")) (bytes_eq (slice_range text 8 20) (number_text w)) about)

-- a message more
pub posted : (old new : Option (BTreeMap ℕ Span)) (outbox : List (List ℕ)) (text : List ℕ) (n : ℕ) → Reaches old new (message n text) → n ≡ length outbox + 1 → AreTold old outbox → AreTold new (outbox ++ text ∷ [])
posted old new outbox text n reaches one are =
    let next : n ≡ 1 + length outbox = omega (arith, one) in
    All-same (IsTold new) _ _ (numbered_more 1 outbox text)
    (All-push (IsTold new) (numbered message 1 outbox) (message (1 + length outbox) text)
    (All-weaker (IsTold old) (IsTold new) (λ m told w is about. reaches.grows w m.number (told w is about)) (numbered message 1 outbox) are)
    (subst (λ k. IsTold new (message k text)) next reaches.there))

-- messages that were handed to a filling lie in its spans
pub filled : (ms : List Message) (from to : StatusFilling) → HandedOut (λ (old : StatusFilling) m go (new : StatusFilling). (go ≡ true) × Reaches old.kept new.kept m) ms from to
    → ((w n : ℕ) → IsSpanned from.kept w n → IsSpanned to.kept w n) × All (IsTold to.kept) ms
filled [] from to end = (λ w n h. subst (λ (t : StatusFilling). IsSpanned t.kept w n) (sym end) h, All-nil (IsTold to.kept))
filled (m ∷ ms) from to (true, mid, (goes, reaches), rest) =
    let later = filled ms mid to rest in
    (λ w n h. later.0 w n (reaches.grows w n h), All-cons (IsTold to.kept) m ms (λ w is about. later.0 w m.number (reaches.there w is about)) later.1)
filled (m ∷ ms) from to (false, mid, (goes, reaches), rest) = absurd (cc)

-- where nothing is kept, they lie anywhere
pub within_all : (w : ℕ) (outbox : List (List ℕ)) (n : ℕ) → 1 ≤ n → All (IsWithin w 0 None) (numbered message n outbox)
within_all w [] n one = All-nil (IsWithin w 0 None)
within_all w (x ∷ xs) n one = All-cons (IsWithin w 0 None) (message n x) (numbered message (n + 1) xs) (λ _. (omega (arith, one), refl)) (within_all w xs (n + 1) (omega (arith, one)))

pub no_span : {X : Type 0} (o : Option X) → o ≡ None → (x : X) → o ≡ Some x → ⊥
no_span o none x some = let e = sym none ∙ some in cc

pub same_some : {X : Type 0} (x y : X) → Some x ≡ Some y → x ≡ y
same_some x y e = cc

module _ (spans : BTreeMap ℕ Span) (w : ℕ) (is : IsNumber w) where
  -- none is of a waybill without a span
  pub within_none : get nat_cmp spans w ≡ None → (outbox : List (List ℕ)) → AreTold (Some spans) outbox → AreWithin w 0 (Some 0) outbox
  within_none none outbox = All-weaker (IsTold (Some spans)) (IsWithin w 0 (Some 0)) (λ m told about. let there = told w is about in absurd (no_span _ none there.0 there.1)) (numbered message 1 outbox)

  -- those of a waybill lie in its span
  pub within_span : (span : Span) → get nat_cmp spans w ≡ Some span → (outbox : List (List ℕ)) → AreTold (Some spans) outbox → AreWithin w span.after (Some span.last) outbox
  within_span span has outbox = All-weaker (IsTold (Some spans)) (IsWithin w span.after (Some span.last)) (λ m told about.
      let there = told w is about in
      let same : there.0 ≡ span = same_some there.0 span (sym there.1 ∙ has) in
      let lies = subst (λ s. LiesIn s m.number) same there.2 in
      (lies.0, not_beyond span.last m.number lies.1)) (numbered message 1 outbox)
    where
      not_beyond : (last n : ℕ) → n ≤ last → is_beyond (Some last) n ≡ false
      not_beyond last n few = grind (arith, nat_tests, few)
