-- Connections that were served, one after another.
use Rattle.std.proofs.Common.{◌≡◌, ◌≤◌, ◌+◌, refl, ℕ, Option, Some, None, MatchOption, IfOk, List, [], ◌∷◌, ◌++◌, length, All, subst, sym, arith}
use Rattle.std.specs.Prelude.{⊤}
use Rattle.std.proofs.lemmas.List.{length-append}
use Rattle.std.proofs.lemmas.List.Elements.{All-nil, All-cons, All-append}
use Rattle.station_core.specs.Given.{Given, nothing_given}
use Rattle.station_core.specs.Keeping.{Keeping, IfWorks, KeepsSound, StaysIfBroken}
use Rattle.http_desk.specs.Reply.{station_after, HasServed}
use Rattle.desk_server.specs.Served.{AtMost, Exchange, GoesOn, HasServedOne, HaveServed}

-- over a writer that was fresh
pub served_fresh : {K : Type 0} (k : Keeping K) (one : Exchange) (old new : K) (sent_old sent : Given) → sent_old ≡ nothing_given
    → IfWorks k old new (λ s. HasServed s one.at one.came sent_old sent (station_after k new) one.end)
    → IfWorks k old new (λ s. IfOk one.end (λ served. served.reopen ≡ k.is_broken new))
    → StaysIfBroken k old new → KeepsSound k old new
    → HasServedOne k one old new
served_fresh k one old new sent_old sent none_sent served told same premise = record {
  sent = sent;
  served = λ s kept works good.
      subst (λ given. HasServed s one.at one.came given sent (station_after k new) one.end) none_sent (served s kept works good);
  told = told;
  same = same;
  premise = premise;
}

-- none was served
pub none : {K : Type 0} (k : Keeping K) (most : ℕ) (is_good : Type 0) (old new : K)
    → new ≡ old
    → AtMost k most is_good old new
none k most is_good old new same = ([], same, omega arith, λ good. All-nil GoesOn)

-- one was served
pub one : {K : Type 0} (k : Keeping K) (last : Exchange) (is_good : Type 0) (old new : K)
    → HasServedOne k last old new
    → (is_good → GoesOn last)
    → AtMost k 1 is_good old new
one k last is_good old new served goes = (
  last ∷ [],
  (old, refl, All-nil GoesOn, served),
  omega arith,
  λ good. All-cons GoesOn last [] (goes good) (All-nil GoesOn),
)

joined : {K : Type 0} (k : Keeping K) (first more : List Exchange) (old mid new : K)
    → HaveServed k first old mid
    → All GoesOn first
    → HaveServed k more mid new
    → HaveServed k (more ++ first) old new
joined k first [] old mid new begun goes same = subst (λ last. HaveServed k first old last) (sym same) begun
joined k first (ended ∷ more) old mid new begun goes (last, before, all, served) =
    (last, joined k first more old mid last begun goes before, All-append GoesOn more first all goes, served)

-- more were served after some that all went on
pub then_more : {K : Type 0} (k : Keeping K) (a b : ℕ) (is_good : Type 0) (old mid new : K)
    → AtMost k a ⊤ old mid
    → AtMost k b is_good mid new
    → AtMost k (a + b) is_good old new
then_more k a b is_good old mid new (first, begun, few, goes) (more, after, least, all) = (
  more ++ first,
  joined k first more old mid new begun (goes tt) after,
  omega (arith, length-append more first, few, least),
  λ good. All-append GoesOn more first (all good) (goes tt),
)

-- within a bound that is wider
pub wider : {K : Type 0} (k : Keeping K) (a b : ℕ) (is_good is_better : Type 0) (old new : K)
    → a ≤ b
    → (is_better → is_good)
    → AtMost k a is_good old new
    → AtMost k b is_better old new
wider k a b is_good is_better old new low better (ends, served, few, goes) =
    (ends, served, omega (arith, few, low), λ good. goes (better good))

-- the count of a service
pub counted : {K : Type 0} (k : Keeping K) (most : ℕ) (count : Option ℕ) (is_good : Type 0) (old new : K)
    → AtMost k most is_good old new
    → MatchOption count ⊤ (λ c. most ≡ c)
    → (all : List Exchange) × HaveServed k all old new × MatchOption count ⊤ (λ c. length all ≤ c)
    × (is_good → All GoesOn all)
counted k most None is_good old new (ends, served, few, goes) is = (ends, served, tt, goes)
counted k most (Some c) is_good old new (ends, served, few, goes) is = (ends, served, omega (arith, few, is), goes)
