use Rattle.table_audits.proofs.Common.{IsBookAs, listed_in, refl, subst, sym, true≢false, ◌∙◌}
use Rattle.table_audits.proofs.Listed.{flights_are}
use Rattle.table_audits.proofs.TakenMoves.{balances_in, departed_so, good_in, lawful_moves, whole_book}
use Rattle.table_audits.proofs.book.BookAudit.judged.Goals as goal

pub returns-then-not-self-clause-exact : goal.returns-then-not-self-clause-exact
returns-then-not-self-clause-exact c = λ t was within is. (
  λ h. absurd (true≢false (sym h)),
  λ law. absurd (subst (IsBookAs t t.moves c.args.self) c.if-not-self.true was (good_in t law)),
)

pub returns-then-not-are_balances_lawful-clause-exact : goal.returns-then-not-are_balances_lawful-clause-exact
returns-then-not-are_balances_lawful-clause-exact c = λ t was within is.
    let book = subst (IsBookAs t t.moves c.args.self) c.if-not-self.false was in (
      λ h. absurd (true≢false (sym h)),
      λ law. absurd (true≢false (sym ((c.are_balances_lawful.ensures.exact t (listed_in t) within is (flights_are t.flights within) book.sums).1 (balances_in t law)) ∙ c.if-not-are_balances_lawful.true)),
    )

pub returns-clause-exact : goal.returns-clause-exact
returns-clause-exact c = λ t was within is.
    let book = subst (IsBookAs t t.moves c.args.self) c.if-not-self.false was in
    let departures = (c.are_departures_lawful.ensures.exact t within is (departed_so t c.deref.result.now book.good (c.deref.ensures.value ∙ book.departed)) (lawful_moves t book.good)).0 c.if-not-are_departures_lawful.false in
    let balances = (c.are_balances_lawful.ensures.exact t (listed_in t) within is (flights_are t.flights within) book.sums).0 c.if-not-are_balances_lawful.false in
    (λ h. whole_book t book.good departures balances, λ law. refl)
