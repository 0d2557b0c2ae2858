use Rattle.state_store.proofs.Common.{Bool, ap, arith, false, find, holders_of, not, passes, range_with_len, subst, suc, sym, true, ℕ, ◌+◌, ◌-◌, ◌<◌, ◌∙◌, ◌≡◌, ◌≤◌}
use Rattle.awb_number.specs.Number.{IsNumber}
use Rattle.state_store.proofs.Ahead.{named_alike}
use Rattle.state_store.proofs.Named.{rises}
use Rattle.agent_stock.proofs.Serials.{find_here, given_as, IsNumber-covered}
use Rattle.state_store.proofs.Serials.{find_further}
use Rattle.state_store.proofs.maps.stock.MapStock.lowest_failing.Goals as goal

pub loop-key-init : goal.loop-key-init
loop-key-init c =
    let p : ℕ → Bool = λ q. not (passes c.args.test.now (holders_of c.args.self.now q)) in
    let same : (c.key.result + c.from.result) - c.key-key.result ≡ c.args.run.now.count = omega (arith, c.key.ensures.value, c.key-key.ensures.value, c.from.ensures, c.number.ensures.value) in
    sym (ap (λ n. find p (range_with_len n c.args.run.now.count)) c.key-key.ensures.value) ∙ sym (ap (λ n. find p (range_with_len c.key-key.result n)) same)

pub returns-then-not-passes : goal.returns-then-not-passes
returns-then-not-passes c =
    let p : ℕ → Bool = λ q. not (passes c.args.test.now (holders_of c.args.self.now q)) in
    let at : c.passes.result ≡ passes c.args.test.now (holders_of c.args.self.now c.loop-key.key) = c.passes.ensures ∙ ap (passes c.args.test.now) (c.at.ensures) in
    let fails : p c.loop-key.key ≡ true = ap not (sym at ∙ c.if-not-passes.true) in
    let ahead : (c.key.result + c.from.result) - c.loop-key.key ≡ suc ((c.key.result + c.from.result) - (c.loop-key.key + 1)) = omega arith in
    let number : IsNumber c.loop-key.key = IsNumber-covered c.args.run.now.first c.args.run.now.count c.loop-key.key (subst IsNumber c.key.ensures.value c.key.ensures.bound) c.requires.run (omega (arith, c.key.ensures.value, c.from.ensures, c.number.ensures.value)) in
    given_as c.of_key.result c.loop-key.key (c.of_key.ensures.in_range.1 number) c.of_key.ensures.value ∙ sym (c.loop-key.invariant ∙ find_here p c.loop-key.key _ _ ahead fails)

pub loop-key-preserved : goal.loop-key-preserved
loop-key-preserved c =
    let es = c.args.self.now.begins.entries in
    let key = c.loop-key.key in
    let next = c.next_from-key.result in
    let end = c.key.result + c.from.result in
    let p : ℕ → Bool = λ q. not (passes c.args.test.now (holders_of c.args.self.now q)) in
    let at : c.passes.result ≡ passes c.args.test.now (holders_of c.args.self.now key) = c.passes.ensures ∙ ap (passes c.args.test.now) (c.at.ensures) in
    let goes_on : p key ≡ false = ap not (sym at ∙ c.if-not-passes.false) in
    let ahead : key < next = c.next_from-key.ensures.after in
    let within : next ≤ end = c.next_from-key.ensures.within in
    let past : (q : ℕ) → key ≤ q → q < key + (next - key) → p q ≡ false = λ q le lt.
    ap (λ h. not (passes c.args.test.now h)) (named_alike es key q (rises es c.next_from-key.ensures.ordered) le (λ j after up_to. c.next_from-key.ensures.none j after (omega (arith, up_to, lt, ahead)))) ∙ goes_on in
    let a : key + (next - key) ≡ next = omega (arith, ahead) in
    let b : (end - key) - (next - key) ≡ end - next = omega (arith, ahead, within) in
    c.loop-key.invariant ∙ find_further p key (end - key) (next - key) (omega (arith, ahead, within)) past ∙ (λ i. find p (range_with_len (a i) (b i)))

pub returns : goal.returns
returns c =
    let p : ℕ → Bool = λ q. not (passes c.args.test.now (holders_of c.args.self.now q)) in
    let ended : (c.key.result + c.from.result) - c.loop-key.key ≡ 0 = omega arith in
    sym (c.loop-key.invariant ∙ ap (λ n. find p (range_with_len c.loop-key.key n)) ended)
