-- Where a question ends without an answer.
use Rattle.desk_client.proofs.Common.{AskFault, Bool, Err, Form, Given, HasAsked, HasCome, HasRead, HasTaken, HasTriedThrice, HasUnderstood, IsAskedUntil, IsWhole, List, Ok, Option, Response, Result, Talk, by_time, drop, false, inr, length, most_row_bytes, refl, subst, sym, true, ℕ, ◌++◌, ◌∙◌, ◌≡◌, ◌≤◌}
use Rattle.desk_client.specs.Try.{HasSent}
use Rattle.desk_client.specs.declared.ask.AskFault.TheVariants as fault
use Rattle.desk_client.specs.declared.ask.Until.{Until}
use Rattle.desk_client.specs.declared.ask.Until.TheVariants as until

-- the request went out, and its answer was read so
pub request_sent : (until : Until) (request : List ℕ) (sent_old sent_new read_old read_new : Given) (r : Result Response AskFault)
    → sent_new.bytes ≡ sent_old.bytes ++ request → HasRead until read_old read_new r → HasAsked until request sent_old sent_new read_old read_new r
request_sent until request sent_old sent_new read_old read_new (Ok a) sent read = (sent, read)
request_sent until request sent_old sent_new read_old read_new (Err fault.Write) sent read = absurd read
request_sent until request sent_old sent_new read_old read_new (Err _) sent read = (sent, read)

-- the request didn't go out whole, and nothing was read
pub not_sent : (until : Until) (request : List ℕ) (sent_old sent_new read_old : Given) (e : AskFault)
    → HasSent request sent_old sent_new (Err e) → HasAsked until request sent_old sent_new read_old read_old (Err e)
not_sent until request sent_old sent_new read_old fault.Write sent = (sent.0, sent.1, refl)
not_sent until request sent_old sent_new read_old _ sent = absurd sent

-- a reader whose time ran out has failed
pub timed : (until : Until) (request : List ℕ) (sent_old sent_new read_old read_new : Given) (late : Bool) (e : AskFault)
    → HasAsked until request sent_old sent_new read_old read_new (Err e) → HasAsked until request sent_old sent_new read_old read_new (Err (by_time late e))
timed until request sent_old sent_new read_old read_new true fault.Read asked = asked
timed until request sent_old sent_new read_old read_new true _ asked = asked
timed until request sent_old sent_new read_old read_new false e asked = asked

-- an answer to a question for rows that came whole
pub rows_read : (f : Form) (old new : Given) (came : List ℕ) (r : Result Response AskFault) → HasCome most_row_bytes old new came → HasUnderstood most_row_bytes came r
    → HasRead (until.Rows f) old new r
rows_read f old new came (Ok a) come (few, is, within, whole, none) =
    subst (λ (b : Option ℕ). HasTaken (until.Rows f) old new a b) (sym none) (record {
      come = subst (λ (l : List ℕ). HasCome most_row_bytes old new l) (sym is) come;
      few = subst (λ (l : List ℕ). length l ≤ most_row_bytes) (sym is) few;
      within = subst (λ (l : List ℕ). a.start ≤ length l) (sym is) within;
      whole = subst (λ (l : List ℕ). IsWhole l a.status (drop a.start l)) (sym is) whole;
    })
rows_read f old new came (Err fault.Cut) come is = (came, come, is)
rows_read f old new came (Err fault.Foreign) come is = (came, come, is)
rows_read f old new came (Err fault.Long) come is = (came, come, is)
rows_read f old new came (Err _) come is = absurd is

-- the tries of a request are those of its question
pub asked : (until u : Until) (request bytes items : List ℕ) (old new : Talk) (result : Result Response AskFault) → u ≡ until → bytes ≡ items → items ≡ request
    → HasTriedThrice u bytes old new result → IsAskedUntil until request old new result
asked until u request bytes items old new result until_is bytes_are items_are tried =
    let same : HasTriedThrice u request old new result = subst (λ (b : List ℕ). HasTriedThrice u b old new result) (bytes_are ∙ items_are) tried in
    inr (subst (λ (v : Until). HasTriedThrice v request old new result) until_is same)
