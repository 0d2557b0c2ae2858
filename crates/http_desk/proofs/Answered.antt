-- What a request leaves that has come, once its answer is written.
use Rattle.http_desk.proofs.Common.{BeginsAs503, Given, HasServed, HasServedShut, HasWritten, HasWrittenShut, IfOk, IsToldFor, IsToldShut, IsUnchangedOrBroken, Keeping, List, LocalMinute, OnlyReads, Printout, Response, Result, ServeFault, Served, State, added, false, station_after, subst, sym, tells_reopen, ℕ, ◌∙◌, ◌≡◌}
use Rattle.http_desk.specs.declared.asking.Response.TheVariants as told
use Rattle.http_desk.proofs.Joining.{served, gave_up, reopen_told, ok_more, all_shut}

-- by the keeper that was asked, and by what it is after the answer was read from it
module _ {K : Type 0} (k : Keeping K) (s : State) (at : LocalMinute) (came bytes : List ℕ) (come : came ≡ bytes) (mid new : K)
    (reads : OnlyReads k mid new) (sound : k.is_sound new) (before after : Given) (t : Response) (r : Result Served ServeFault)
    (told_mid : IsToldFor bytes s at t (station_after k mid))
    (written : ((name : Printout) → t ≡ told.Report name → k.keeps mid s × (k.is_broken mid ≡ false)) → k.is_sound new → HasWritten t s before after r) where
  open_at : (u : Response) → IsToldFor bytes s at u (station_after k mid) → (name : Printout) → u ≡ told.Report name → k.keeps mid s × (k.is_broken mid ≡ false)
  open_at u given name is =
      let report : IsToldFor bytes s at (told.Report name) (station_after k mid) = subst (λ (v : Response). IsToldFor bytes s at v (station_after k mid)) is given in
      (report.2.1, report.2.0)

  goes_out : HasWritten t s before after r
  goes_out = written (open_at t told_mid) sound

  asked : IsToldFor came s at t (station_after k mid)
  asked = subst (λ (b : List ℕ). IsToldFor b s at t (station_after k mid)) (sym come) told_mid

  pub served_all : HasServed s at came before after (station_after k new) r
  served_all =
      served s at came before after (station_after k mid) (station_after k new) reads.breaks (λ t kept. reads.same t kept sound) (λ found finds. reads.leaves sound found finds)
      t r asked goes_out

  pub unavailable_all : BeginsAs503 (added before after) → IsUnchangedOrBroken came s at (station_after k new)
  unavailable_all begins =
      gave_up s at came before after (station_after k mid) (station_after k new) reads.breaks (λ t kept. reads.same t kept sound) (λ found finds. reads.leaves sound found finds)
      t r asked goes_out begins

  pub reopen_all : tells_reopen t ≡ k.is_broken mid → IfOk r (λ v. v.reopen ≡ k.is_broken new)
  reopen_all tells =
      ok_more r (λ (v : Served). v.reopen ≡ tells_reopen t) (λ (v : Served). v.reopen ≡ k.is_broken new) (λ v is. is ∙ tells ∙ sym reads.breaks)
      (reopen_told t s before after r goes_out)

-- the same on a station that has to be opened again
pub shut_all : (at : LocalMinute) (came bytes : List ℕ) → came ≡ bytes → (before after : Given) (t : Response) (r : Result Served ServeFault)
    → IsToldShut bytes at t → HasWrittenShut t before after r → HasServedShut at came before after r
shut_all at came bytes come before after t r asked written =
    all_shut at came before after t r (subst (λ (b : List ℕ). IsToldShut b at t) (sym come) asked) written
