-- What a store shows after a call, from what it showed before.
use Rattle.stock_tables.proofs.Common.{Err, IfOk, IsShowing, Ok, OnOk, Result, Seen, Survives, Tables, View, sym, ◌∙◌}
use Rattle.station_rows.specs.Shown.{Reads, RestsIfSound}

pub survives_itself : (a : View) → Survives a a
survives_itself a = record { clean = λ clean. clean; still = λ was clean. was; sound = λ sound. sound; crash = λ sound t left. left }

pub survives_goes_on : (a b c : View) → Survives a b → Survives b c → Survives a c
survives_goes_on a b c first second = record {
  clean = λ clean. first.clean (second.clean clean);
  still = λ was clean. second.still (first.still was (second.clean clean)) clean;
  sound = λ sound. first.sound (second.sound sound);
  crash = λ sound t left. first.crash (second.sound sound) t (second.crash sound t left);
}

-- what is said under a premise
pub if_given : {X E A : Type 0} (P : X → Type 0) (r : Result X E) → (A → IfOk r P) → IfOk r (λ x. A → P x)
if_given P (Ok x) so = so
if_given P (Err e) so = tt

answered : {X E A : Type 0} (r : Result X E) → A → OnOk r A
answered (Ok x) a = a
answered (Err e) a = tt

-- what is made of what was read
pub made_of : {X Y E F : Type 0} (old new : View) (r : Result Y F) (Q : Tables → Y → Type 0) {x : X} {P : Tables → X → Type 0} → Reads {E = E} old new (Ok x) P
    → ((seen : Seen) → IsShowing old seen → new.IsSound → IfOk r (Q seen.now)) → Reads old new r Q
made_of old new r Q read value = record {
  read = value;
  same = λ seen showing. answered r (read.same seen showing);
  was_open = answered r read.was_open;
  rests = read.rests;
  survives = read.survives;
}

rests_then : (a b c : View) → (new : c.IsSound → b.IsSound) → RestsIfSound a b → RestsIfSound b c → RestsIfSound a c
rests_then a b c down first second sound =
    let r = first (down sound) in
    let s = second sound in
    record {
      was_open = λ up. r.was_open (s.was_open up);
      same = λ rest up.
          let u = r.same rest (s.was_open up) in
          let v = s.same (record { mode = u.mode ∙ rest.mode; same = u.now_is ∙ rest.same ∙ sym u.committed_is }) up in
          record { was_open = u.was_open; is_open = v.is_open; now_is = v.now_is ∙ u.now_is; committed_is = v.committed_is ∙ u.committed_is; mode = v.mode ∙ u.mode };
    }

on_so : {X E A B : Type 0} (r : Result X E) → (A → B) → OnOk r A → OnOk r B
on_so (Ok x) so a = so a
on_so (Err e) so a = tt

-- a read after another
pub reads_after : {X Y E F : Type 0} (a b c : View) (r : Result Y F) {x : X} {P : Tables → X → Type 0} {Q : Tables → Y → Type 0} → Reads {E = E} a b (Ok x) P → Reads b c r Q → Reads a c r Q
reads_after a b c r first second = record {
  read = λ seen showing sound. second.read seen (first.same seen showing) sound;
  same = λ seen showing. second.same seen (first.same seen showing);
  was_open = on_so r (λ up sound. first.was_open (second.survives.sound sound)) second.was_open;
  rests = rests_then a b c second.survives.sound first.rests second.rests;
  survives = survives_goes_on a b c first.survives second.survives;
}
