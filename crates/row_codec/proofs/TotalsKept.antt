-- What a store keeps when an amount was posted.
use Rattle.std.proofs.Common.{◌≡◌, ℕ, ℤ, pos, ◌==◌, true, false, ◌&&◌, cond, option_map, List, [], ◌∷◌, ◌++◌, refl, sym, ap, subst, ◌∙◌, int_cmp}
use Rattle.row_codec.proofs.Common.{AreBuilds, AreCounts, BuildKey, Built, CountKey, FlightDate, IsShowing, IsTotalOrder, IsTrue, Keeps, Move, Place, Posted, Sums, Tables, Tally, View, WereThere, build_cmp, build_in, build_row, bytes_cmp, come, count_cmp, count_in, count_row, eq_by_cmp, flight_text, get, gone, inside, int_cmp-IsAntisymmetric, int_cmp_total, is_built, is_designator, pair_cmp, pair_same, pair_total, place_code, plus, posting, posting_build, posting_count, running, running_in, running_on, texts_same, texts_total, unless_nothing}
use Rattle.row_codec.proofs.Tests.{and_no}
use Rattle.row_codec.proofs.Storing.{posted_as}
use Rattle.row_codec.proofs.Codes as codes
use Rattle.row_codec.proofs.MapLaws.{is_tied}
use Rattle.row_codec.proofs.TotalsWritten as written
use Rattle.row_codec.proofs.Moved.{sums_then}

pub counts_total : IsTotalOrder count_cmp
counts_total = pair_total int_cmp int_cmp int_cmp_total int_cmp_total

pub builds_total : IsTotalOrder build_cmp
builds_total = pair_total bytes_cmp (pair_cmp int_cmp int_cmp) texts_total (pair_total int_cmp int_cmp int_cmp_total int_cmp_total)

pub builds_same : (a b : BuildKey) → eq_by_cmp build_cmp a b ≡ true → a ≡ b
builds_same a b h = pair_same bytes_cmp (pair_cmp int_cmp int_cmp) texts_same (pair_same int_cmp int_cmp int_cmp-IsAntisymmetric int_cmp-IsAntisymmetric) a b (is_tied (build_cmp a b) h)

pub keeps_count : (old new : View) (before now : Tables) (sums : Sums) (a : ℕ) (place : Place) (by : Tally) (key : CountKey)
    → is_built place ≡ false → key ≡ (pos a, pos (place_code place)) → (k : Keeps old before now sums)
    → IsShowing new (inside before (posting_count key by (record now { counts = k.counts; builds = k.builds })))
    → Keeps new before now (posting a place by sums)
keeps_count old new before now sums a place by key plain at k shows =
    let was : Tables = record now { counts = k.counts; builds = k.builds } in
    let own : CountKey = (pos a, pos (place_code place)) in
    record {
      counts = (posting_count own by was).counts;
      builds = k.builds;
      shows = subst (λ q. IsShowing new (inside before (posting_count q by was))) at shows;
      are_counts = posted_as count_row running_in (λ r. refl) counts_total (count_in sums) (count_in (posting a place by sums)) k.counts own by (sums a place) k.are_counts
          (codes.at_key sums a place by plain) (codes.after sums a place by plain);
      are_builds = λ q. k.are_builds q ∙ sym (written.builds_stay sums a place by plain q);
    }

pub keeps_build : (old new : View) (before now : Tables) (sums : Sums) (a : ℕ) (f : FlightDate) (by : Tally) (key : BuildKey)
    → IsTrue (is_designator f.flight) → key ≡ (flight_text f.flight, (pos f.day, pos a)) → (k : Keeps old before now sums)
    → IsShowing new (inside before (posting_build key by (record now { counts = k.counts; builds = k.builds })))
    → Keeps new before now (posting a (Built f) by sums)
keeps_build old new before now sums a f by key designator at k shows =
    let was : Tables = record now { counts = k.counts; builds = k.builds } in
    let own : BuildKey = (flight_text f.flight, (pos f.day, pos a)) in
    record {
      counts = k.counts;
      builds = (posting_build own by was).builds;
      shows = subst (λ q. IsShowing new (inside before (posting_build q by was))) at shows;
      are_counts = λ q. k.are_counts q ∙ sym (codes.counts_stay sums a f by q);
      are_builds = posted_as build_row running_on (λ r. refl) builds_total (build_in sums) (build_in (posting a (Built f) by sums)) k.builds own by (sums a (Built f)) k.are_builds
          (written.at_key sums a f by designator) (written.after sums a f by designator);
    }

pub keeps_book : (v : View) (before now : Tables) (book : List Move) → IsShowing v (inside before now) → AreCounts now.counts book → AreBuilds now.builds book → Keeps v before now (running book)
keeps_book v before now book shows counts builds = record {
  counts = now.counts;
  builds = now.builds;
  shows = shows;
  are_counts = counts;
  are_builds = builds;
}

pub posted_book : (v : View) (before now : Tables) (book : List Move) (m : Move) (away by : Tally) → away ≡ gone m → by ≡ come m
    → Keeps v before now (posting m.awb m.to by (posting m.awb m.from away (running book))) → Posted v before now (book ++ m ∷ [])
posted_book v before now book m away by is_away is_by k =
    let then = ap (λ r. posting m.awb m.to r (posting m.awb m.from away (running book))) is_by ∙ ap (λ r. posting m.awb m.to (come m) (posting m.awb m.from r (running book))) is_away ∙ sums_then book m in
    subst (Keeps v before now) then k

-- the rows of a sum before it

pub count_kept : (v : View) (before now : Tables) (sums : Sums) (a : ℕ) (place : Place) (key : CountKey) → is_built place ≡ false → key ≡ (pos a, pos (place_code place))
    → (k : Keeps v before now sums) → get k.counts key ≡ option_map count_row (unless_nothing (sums a place))
count_kept v before now sums a place key plain at k = ap (get k.counts) at ∙ k.are_counts (pos a, pos (place_code place)) ∙ codes.at_key sums a place (sums a place) plain

pub build_kept : (v : View) (before now : Tables) (sums : Sums) (a : ℕ) (f : FlightDate) (key : BuildKey) → IsTrue (is_designator f.flight) → key ≡ (flight_text f.flight, (pos f.day, pos a))
    → (k : Keeps v before now sums) → get k.builds key ≡ option_map build_row (unless_nothing (sums a (Built f)))
build_kept v before now sums a f key designator at k = ap (get k.builds) at ∙ k.are_builds (flight_text f.flight, (pos f.day, pos a)) ∙ written.at_key sums a f (sums a (Built f)) designator

-- what left another place changed nothing of it
pub there_before : (book : List Move) (m : Move) (away : Tally) (pieces : ℤ) → pieces ≡ (posting m.awb m.from away (running book) m.awb m.to).pieces → WereThere book m pieces
there_before book m away pieces is other =
    is ∙ ap (λ b. (cond b (plus (running book m.awb m.to) away) (running book m.awb m.to)).pieces) (ap (λ b. (m.awb == m.awb) && b) other ∙ and_no (m.awb == m.awb))
