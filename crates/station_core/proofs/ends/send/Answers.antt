use Rattle.std.proofs.Common.{rules, arith, ◌≡◌, ◌∙◌, sym, ap, ℕ, List, ◌++◌, ◌-◌, length, take, drop, append_assoc}
use Rattle.std.proofs.Math.Seq.{take-add, take-length}
use Rattle.station_core.proofs.Common.{length-drop, length-take-le, nat_tests}
use Rattle.station_core.specs.Ends.{idle_count}
use Rattle.station_core.proofs.ends.send.Goals as goal

-- what is left of the bytes
rest_is : (n : ℕ) (xs : List ℕ) → take (length xs - n) (drop n xs) ≡ drop n xs
rest_is n xs = rw (← length-drop n xs) (take-length (drop n xs))

-- a call that moved a byte was not idle
not_idle : (n room : ℕ) → (n ≡ 0 → ⊥) → idle_count n room ≡ 0
not_idle n room some = grind (arith, nat_tests, some)

pub loop-sent-preserved : goal.loop-sent-preserved
loop-sent-preserved g c =
    let step = rw (c.in-Ok.is, rest_is c.loop-sent.sent c.args.bytes.now) at c.write.ensures in
    let inv = c.loop-sent.invariant in
    let buf = drop c.loop-sent.sent c.args.bytes.now in
    let busy = ap (λ n. idle_count n (length buf)) (length-take-le c.in-Ok.n buf step.0) ∙ not_idle c.in-Ok.n (length buf) c.in-Ok.n-test.1 in
    let front : List ℕ = (g.W.ByteOut.taken c.args.writer.now).bytes in
    record {
      within = grind (arith, rules, step.0, inv.within);
      bytes = step.1.bytes ∙ ap (λ front. front ++ take c.in-Ok.n (drop c.loop-sent.sent c.args.bytes.now)) inv.bytes
          ∙ append_assoc front (take c.loop-sent.sent c.args.bytes.now) (take c.in-Ok.n (drop c.loop-sent.sent c.args.bytes.now)) ∙ ap (λ back. (g.W.ByteOut.taken c.args.writer.now).bytes ++ back) (sym (take-add c.loop-sent.sent c.in-Ok.n c.args.bytes.now));
      failures = step.1.failures ∙ inv.failures;
      idle = omega (arith, step.1.idle, busy, inv.idle);
    }
