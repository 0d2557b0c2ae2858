use Rattle.std.proofs.Common.{◌≡◌, ◌≤◌, ◌<◌, ◌-◌, ◌++◌, List, ℕ, length, take, drop, get_or, get_or-take, sym, ap, subst, ◌∙◌, rules, arith, eq-eqb, eqb-true, true≢false, length-append, length-take-le, take-take}
use lib.Seq.{take-append_seam}
use Rattle.cli_run.proofs.Common.{Consumes, Consumes_shown, DropsConsumable, FillKeeps}
use Rattle.std.proofs.KnownBytes.{starts_with_rest}
use Rattle.cli_run.proofs.KeptLines.{no_end_in}
use Rattle.cli_run.proofs.takes.keep_part.Goals.{then-read-eq0, else-read-eq0}
use Rattle.cli_run.proofs.takes.keep_part.Goals as goal

pub returns-clause-part : goal.returns-clause-part
returns-clause-part g c =
    let old = c.args.line.now.items in
    let new = c.read_until.new.buf.items in
    let read = c.in_ok-read.ensures in
    let part = drop (length old) new in
    let n = c.in_ok-read.read in
    let whole : new ≡ old ++ part = starts_with_rest new old read.appends in
    let long : length part ≡ n = omega (arith, ap length whole, length-append old part, read.ok) in
    let most = c.min-most.result in
    let available = c.in_ok-available.available.now in
    let shown : List ℕ = take most available in
    let within = length-take-le most available (search rules) in
    let fits : n ≤ most = omega (arith, ap length read.none_lost, length-append part c.read_until.new.self.now, long, within) in
    let is : take n shown ≡ part = ap (take n) read.none_lost ∙ ap (λ k. take k (part ++ c.read_until.new.self.now)) (sym long) ∙ take-append_seam part _ in
    let last = λ (w : 0 < n). ap (λ k. get_or part (k - 1) 0) long ∙ ap (λ l. get_or l (n - 1) 0) (sym is) ∙ get_or-take n shown (n - 1) 0 (omega arith) in
    let rested = c.fill_buf.follows.lender-at-none in
    let filled = subst (FillKeeps _ (g.R.Read.remaining rested) (g.R.BufRead.consumable_len rested)) c.in_ok-available.was c.fill_buf.follows.holds-at-none in
    let same : c.if-read-eq0.reader ≡ rested = search rules in
    let drops = subst (λ r. DropsConsumable (g.R.Read.remaining r) (g.R.Read.remaining c.consume.new.self) (g.R.BufRead.consumable_len r) n) same c.consume.ensures.bytes in
    let moved = Consumes_shown _ _ _ _ available n (search rules) c.in_ok-available.ensures.front c.in_ok-available.ensures.end filled.0 filled.1 drops in (
      part,
      whole,
      subst (Consumes _ _) (sym (take-take n most available fits) ∙ is) moved.0,
      λ e. elim c.if-read-eq0.branch [
        | then-read-eq0 w ↦ absurd (true≢false (sym (eq-eqb _ _ w.if-read-eq0.true) ∙ sym w.ends-is ∙ e))
        | else-read-eq0 w ↦
            let some : 0 < n = omega (arith, w.if-read-eq0.false) in
            (omega (arith, long, some), no_end_in part read.stops (omega (arith, long, some)) (λ ten. true≢false (sym (w.ends-is ∙ eq-eqb _ _ (sym (last some) ∙ ten)) ∙ e)))
      ],
      λ e. (
        read.stops,
        λ some. elim c.if-read-eq0.branch [
          | then-read-eq0 w ↦ absurd (omega (arith, long, w.if-read-eq0.true))
          | else-read-eq0 w ↦ last (omega (arith, w.if-read-eq0.false)) ∙ eqb-true _ _ (sym w.ends-is ∙ e)
        ],
        λ none. moved.1 (omega (arith, ap length (read.end (sym long ∙ none)), within, c.min-most.ensures, c.requires.room)),
      ),
    )
