-- From the calls of a store to what was posted.
use Rattle.std.proofs.Common.{◌≡◌, Bool, true, false, is_some, Ordering, Option, Some, None, Result, option_map, refl, sym, ap, ap₂, subst, ◌∙◌}
use Rattle.row_codec.proofs.Tests.{same_some, twice}
use Rattle.row_codec.proofs.Common.{Build, BuildKey, Displays, Err, FinMap, IfOk, IsShowing, Ok, OnOk, Reads, Seen, ShowsChange, Survives, Tables, Tally, View, adjust, come_to, get, insert, inside, remove, running_on, stored}

pub survives_on : (old mid new : View) → Survives old mid → Survives mid new → Survives old new
survives_on old mid new a b = record {
  clean = λ clean. a.clean (b.clean clean);
  still = λ was clean. b.still (a.still was (b.clean clean)) clean;
  sound = λ sound. a.sound (b.sound sound);
  crash = λ sound t left. a.crash (b.sound sound) t (b.crash sound t left);
}

-- a row of a table that is written, changed or removed
module _ {X E K V : Type 0} {R : K → K → Ordering} (rows : Tables → FinMap R V) (with : FinMap R V → Tables → Tables) (old new : View) (result : Result X E) (nothing there : Bool) (key : K) (v : V) where
  abbrev Shows : (FinMap R V → FinMap R V) → Type 0
  Shows change = ShowsChange old new result (λ t. with (change (rows t)) t)

  pub row_removed : nothing ≡ true → Shows (λ m. remove m key) → Shows (λ m. stored m nothing there key v)
  row_removed is h = subst (λ b. Shows (λ m. stored m b there key v)) (sym is) h

  pub row_changed : nothing ≡ false → there ≡ true → Shows (λ m. adjust m key (λ _. v)) → Shows (λ m. stored m nothing there key v)
  row_changed is so h = subst (λ b. Shows (λ m. stored m b there key v)) (sym is) (subst (λ b. Shows (λ m. stored m false b key v)) (sym so) h)

  pub row_added : nothing ≡ false → there ≡ false → Shows (λ m. insert m key v) → Shows (λ m. stored m nothing there key v)
  row_added is so h = subst (λ b. Shows (λ m. stored m b there key v)) (sym is) (subst (λ b. Shows (λ m. stored m false b key v)) (sym so) h)

come_told : {V : Type 0} (amount : V → Tally) (o : Option V) (by : Tally) → come_to amount o by ≡ come_to (λ r. r) (option_map amount o) by
come_told amount None by = refl
come_told amount (Some v) by = refl

module _ {V : Type 0} (amount : V → Tally) (o : Option V) (t : Option Tally) (told : t ≡ option_map amount o) where
  same_there : is_some t ≡ is_some o
  same_there = ap is_some told ∙ same_some amount o

  same_sum : (by : Tally) → come_to (λ t. t) t by ≡ come_to amount o by
  same_sum by = ap (λ r. come_to (λ x. x) r by) told ∙ sym (come_told amount o by)

-- the row that is written is what the one that was read comes to
pub row_posted : {K V : Type 0} {R : K → K → Ordering} (rows : Tables → FinMap R V) (amount : V → Tally) (made : Tally → V) (storing : Bool → K × V → Tables → Tables)
    → (mid new : View) (before now : Tables) (key : K) (by : Tally) (t : Option Tally) (sum : Tally) (there : Bool) → Survives mid new
    → (mid.IsSound → t ≡ option_map amount (get (rows now) key)) → there ≡ is_some t → sum ≡ come_to (λ t. t) t by
    → IsShowing new (inside before (storing there (key, made sum) now))
    → IsShowing new (inside before (storing (is_some (get (rows now) key)) (key, made (come_to amount (get (rows now) key) by)) now))
row_posted rows amount made storing mid new before now key by t sum there survives read is_there is_sum shows sound =
    let told = read (survives.sound sound) in
    let same : there ≡ is_some (get (rows now) key) = is_there ∙ same_there amount (get (rows now) key) t told in
    let total : sum ≡ come_to amount (get (rows now) key) by = is_sum ∙ same_sum amount (get (rows now) key) t told by in
    subst (λ tables. Displays new (inside before tables)) (ap₂ (λ b r. storing b (key, made r) now) same total) (shows sound)

-- a row that was read with its key
pub tally_read : (key : BuildKey) (p : Option Build) (found : Option (BuildKey × Build)) (t : Option Tally) → found ≡ option_map (λ v. (key, v)) p → t ≡ option_map (λ (e : BuildKey × Build). running_on e.1) found → t ≡ option_map running_on p
tally_read key p found t is told = told ∙ ap (option_map (λ (e : BuildKey × Build). running_on e.1)) is ∙ twice (λ (e : BuildKey × Build). running_on e.1) (λ v. (key, v)) p

answered : {X E A : Type 0} (r : Result X E) → A → OnOk r A
answered (Ok x) a = a
answered (Err e) a = tt

-- what is made of what was read
pub made_of : {X Y E F : Type 0} (old new : View) (r : Result Y F) (Q : Tables → Y → Type 0) {x : X} {P : Tables → X → Type 0} → Reads {E = E} old new (Ok x) P
    → ((seen : Seen) → IsShowing old seen → new.IsSound → IfOk r (Q seen.now)) → Reads old new r Q
made_of old new r Q read value = record {
  read = value;
  same = λ seen showing. answered r (read.same seen showing);
  was_open = answered r read.was_open;
  rests = read.rests;
  survives = read.survives;
}
