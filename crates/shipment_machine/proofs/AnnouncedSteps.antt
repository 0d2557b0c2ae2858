-- The lines of a manifest, one after another.
use Rattle.shipment_machine.proofs.Common.{CargoLine, Change, Earlier, Err, FlightDate, LineView, List, None, Ok, Option, Refusal, Result, add-one, announced_changes, ap, append_assoc, changes_now, drop, drop-cons, expected_now, get_or, length, refl, refusal_now, suc, sym, then_write, unless_refused, with_line, ℕ, ◌++◌, ◌+◌, ◌<◌, ◌∙◌, ◌∷◌, ◌≡◌}

abbrev ok : List Change → Result (List Change) Refusal
ok changes = Ok changes

then_again : (a b : List Change) (r : Result (List Change) Refusal) → then_write a (then_write b r) ≡ then_write (a ++ b) r
then_again a b (Ok rest) = ap ok (sym (append_assoc {A = Change} a b rest))
then_again a b (Err refusal) = refl

-- one more line that isn't refused
step : (earlier later : Earlier) (flight : FlightDate) (today : ℕ) (c : CargoLine) (row : LineView) (cs : List CargoLine) (rows : List LineView) → refusal_now (earlier c.awb) c row ≡ None →
    ((q : ℕ) → later q ≡ with_line earlier c.awb (expected_now (earlier c.awb) c row) q) →
    announced_changes earlier flight today (c ∷ cs) (row ∷ rows) ≡ then_write (changes_now (earlier c.awb) flight today c row) (announced_changes later flight today cs rows)
step earlier later flight today c row cs rows due same =
    ap (λ (o : Option Refusal). unless_refused o (then_write (changes_now (earlier c.awb) flight today c row) (announced_changes (with_line earlier c.awb (expected_now (earlier c.awb) c row)) flight today cs rows))) due
    ∙ ap (λ (known : Earlier). then_write (changes_now (earlier c.awb) flight today c row) (announced_changes known flight today cs rows)) (λ i q. sym (same q) i)

pub one_more : (whole : Result (List Change) Refusal) (done all : List Change) (earlier later : Earlier) (flight : FlightDate) (today : ℕ) (cs : List CargoLine) (rows : List LineView) (i : ℕ) (c : CargoLine) (row : LineView) →
    whole ≡ then_write done (announced_changes earlier flight today (drop i cs) (drop i rows)) →
    i < length cs → i < length rows → c ≡ get_or cs i c → row ≡ get_or rows i row →
    refusal_now (earlier c.awb) c row ≡ None → all ≡ done ++ changes_now (earlier c.awb) flight today c row →
    ((q : ℕ) → later q ≡ with_line earlier c.awb (expected_now (earlier c.awb) c row) q) →
    whole ≡ then_write all (announced_changes later flight today (drop (i + 1) cs) (drop (i + 1) rows))
one_more whole done all earlier later flight today cs rows i c row so_far in_cs in_rows c-is row-is due all-is same =
    let cs-is : drop i cs ≡ c ∷ drop (i + 1) cs = drop-at cs i c in_cs c-is in
    let rows-is : drop i rows ≡ row ∷ drop (i + 1) rows = drop-at rows i row in_rows row-is in
    so_far
    ∙ ap (λ (xs : List CargoLine). then_write done (announced_changes earlier flight today xs (drop i rows))) cs-is
    ∙ ap (λ (ys : List LineView). then_write done (announced_changes earlier flight today (c ∷ drop (i + 1) cs) ys)) rows-is
    ∙ ap (then_write done) (step earlier later flight today c row (drop (i + 1) cs) (drop (i + 1) rows) due same)
    ∙ then_again done (changes_now (earlier c.awb) flight today c row) (announced_changes later flight today (drop (i + 1) cs) (drop (i + 1) rows))
    ∙ ap (λ (m : List Change). then_write m (announced_changes later flight today (drop (i + 1) cs) (drop (i + 1) rows))) (sym all-is)
  where
    drop-at : {X : Type 0} (xs : List X) (i : ℕ) (x : X) → i < length xs → x ≡ get_or xs i x → drop i xs ≡ x ∷ drop (i + 1) xs
    drop-at xs i x within is = drop-cons xs i x within ∙ ap (λ y. y ∷ drop (suc i) xs) (sym is) ∙ ap (λ n. x ∷ drop n xs) (sym (add-one i))
