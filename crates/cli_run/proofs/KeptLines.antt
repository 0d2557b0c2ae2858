-- A line of `acts`, read in parts as far as it is kept.
use Rattle.cli_run.proofs.Common.{All, Consumes, Consumes_through, DropsThrough, IfSome, IsAtEnd, List, None, OnSome, Option, Some, ap, arith, drop_through, drop_through-append, get_or, kept, le_refl, length, most_line, subst, sym, take, take_all, take_through, take_through-append, ℕ, ◌++◌, ◌+◌, ◌-◌, ◌<◌, ◌∙◌, ◌≡◌, ◌≢◌, ◌≤◌}
use lib.Seq.{take-append_seam}
use Rattle.std.specs.Io.{IsEmptyOrEndsWith, StopsAt}
use Rattle.std.proofs.lemmas.List.Elements.{All-more}

-- a part that has no end
pub no_end_in : (part : List ℕ) → StopsAt part 10 → 0 < length part → get_or part (length part - 1) 0 ≢ 10 → All (λ x. x ≢ 10) part
no_end_in part stops some last =
    let all : length part - 1 + 1 ≡ length part = omega arith in
    subst (All (λ x. x ≢ 10)) (ap (λ k. take k part) all ∙ take_all (length part) part (le_refl _)) (All-more (λ x. x ≢ 10) part (length part - 1) 0 (omega arith) stops last)

-- the line was read to its end
pub kept_whole : (a b c : Option (List ℕ)) (line part new : List ℕ) → Consumes a b line → All (λ x. x ≢ 10) line → Consumes b c part → StopsAt part 10 → IsEmptyOrEndsWith part 10
    → (length part ≡ 0 → OnSome b (IsAtEnd c)) → new ≡ line ++ part → length new ≤ most_line + 1 → IfSome a (λ xs. (new ≡ kept (take_through 10 xs)) × (c ≡ Some (drop_through 10 xs)))
kept_whole None b c line part new before no_end after stops ends end is fits = tt
kept_whole (Some xs) b c line part new before no_end after stops ends end is fits =
    let read = Consumes_through 10 (Some xs) b c line part before no_end after stops ends end in
    let same : new ≡ take_through 10 xs = is ∙ read.0 in
    (sym (ap (take (most_line + 1)) (sym same) ∙ take_all (most_line + 1) new fits), read.1)

-- the rest of a line that is too long was skipped
pub kept_front : (a b c : Option (List ℕ)) (line : List ℕ) → Consumes a b line → All (λ x. x ≢ 10) line → DropsThrough b c 10 → length line ≡ most_line + 1
    → IfSome a (λ xs. (line ≡ kept (take_through 10 xs)) × (c ≡ Some (drop_through 10 xs)))
kept_front None b c line before no_end rest long = tt
kept_front (Some xs) None c line before no_end rest long = absurd before
kept_front (Some xs) (Some ys) c line before no_end rest long = (
  sym (ap (λ l. take (most_line + 1) (take_through 10 l)) before ∙ ap (take (most_line + 1)) (take_through-append 10 line ys no_end)
      ∙ ap (λ n. take n (line ++ take_through 10 ys)) (sym long) ∙ take-append_seam line (take_through 10 ys)),
  rest ∙ ap Some (sym (ap (drop_through 10) before ∙ drop_through-append 10 line ys no_end)),
)
