-- A report that is printed as it comes, read by read.
use Rattle.desk_client.proofs.Common.{AskFault, Err, Form, Given, HasCause, HasGrown, HasPrintedBody, HasPrintedFront, HasPrintedLast, HasPrintedMore, HasSent, HasStopped, HasTurned, IsErrAnd, IsFrontEnd, IsHeld, List, NoneFailed, Ok, PrintFault, Result, [], ap, append-nil, append_assoc, append_cancel_left, arith, cause_behind, drop, false, first_part, grown_more, has_end, inl, inr, length, length-append, length-drop, length-take, mark_of, next_part, refl, subst, suc, sym, take, take-append-drop, take-length, untroubled_more, zero, ℕ, ⊎_elim, ◌++◌, ◌-◌, ◌<◌, ◌∙◌, ◌∷◌, ◌≡◌, ◌≤◌}
use Rattle.reports.specs.declared.layout.Form.TheVariants as form
use Rattle.desk_client.specs.Printed.{HasGiven, IsReadersFault}
use Rattle.desk_client.specs.declared.ask.AskFault.TheVariants as fault
use Rattle.desk_client.specs.declared.printing.PrintFault.TheVariants as print
use Rattle.desk_client.proofs.Tails.{tail_decides}

-- This much of a body had been received, and then more. All but the held text was printed.
pub record HasPrintedSome (form : Form) (body held : List ℕ) (read_old read_new old new : Given) : Type 0 where
  pub come : List ℕ
  pub grown : HasGrown read_old read_new [] come
  pub done : List ℕ
  pub text_is : body ++ come ≡ done ++ held
  pub held_so : IsHeld form held
  pub printed : new.bytes ≡ old.bytes ++ (done ++ mark_of form ∷ [])
  pub unended : has_end (done ++ mark_of form ∷ []) ≡ false
  pub smooth : NoneFailed old new

-- what follows a front

held_behind : (f : Form) (end : ℕ) (text held : List ℕ) → IsFrontEnd f text end → held ≡ drop (end - 1) text → IsHeld f held
held_behind f end text held front is =
    let m = mark_of f in
    let behind : drop (end - 1) text ≡ m ∷ drop end text = append_cancel_left (take (end - 1) text) (drop (end - 1) text) (m ∷ drop end text)
    (take-append-drop (end - 1) text ∙ sym (take-append-drop end text) ∙ ap (λ l. l ++ drop end text) front.ends ∙ append_assoc (take (end - 1) text) (m ∷ []) (drop end text)) in
    record { tail = drop end text; held_is = is ∙ behind; some = omega (arith, front.more, length-drop end text) }

rest_is : (text : List ℕ) (n : ℕ) → take (length text - n) (drop n text) ≡ drop n text
rest_is text n = ap (λ (k : ℕ). take k (drop n text)) (sym (length-drop n text)) ∙ take-length (drop n text)

-- the first front was printed
pub begun : (f : Form) (body held : List ℕ) (end : ℕ) (read old new : Given) → IsFrontEnd f body end → held ≡ take (length body - (end - 1)) (drop (end - 1) body)
    → new.bytes ≡ old.bytes ++ take end body → NoneFailed old new → HasPrintedSome f body held read read old new
begun f body held end read old new front held_is printed smooth =
    let is = held_is ∙ rest_is body (end - 1) in
    record {
      come = [];
      grown = record { part = []; bytes = refl; given = sym (append-nil read.bytes); failures = refl; idle = omega arith };
      done = take (end - 1) body;
      text_is = append-nil body ∙ sym (take-append-drop (end - 1) body) ∙ ap (λ l. take (end - 1) body ++ l) (sym is);
      held_so = held_behind f end body held front is;
      printed = printed ∙ ap (λ l. old.bytes ++ l) front.ends;
      unended = ap has_end (sym front.ends) ∙ front.unended;
      smooth = smooth;
    }

-- the writer failed at the first front
pub unbegun : (f : Form) (body : List ℕ) (end : ℕ) (read old new : Given) → HasSent (take end body) old new → HasCause old new
    → HasPrintedBody f body read read old new (Err print.Write)
unbegun f body end read old new sent cause = (
  [],
  sym (append-nil read.bytes),
  subst (λ (l : List ℕ). HasSent l old new) (take-append-drop end body ∙ sym (append-nil body)) (first_part (take end body) (drop end body) old new sent),
  cause,
)

module _ {f : Form} {body held : List ℕ} {ra rb old mid : Given} (some : HasPrintedSome f body held ra rb old mid) where
  abbrev m : ℕ
  m = mark_of f

  -- more was read behind what is held
  pub reads : {after : List ℕ} {rd : Given} → HasGrown rb rd held after → HasPrintedSome f body after ra rd old mid
  reads {after} {rd} more = record {
    come = some.come ++ more.part;
    grown = grown_more ra rb rd some.come (some.come ++ more.part) some.grown
        (record { part = more.part; bytes = refl; given = more.given; failures = more.failures; idle = more.idle });
    done = some.done;
    text_is =
        sym (append_assoc body some.come more.part) ∙ ap (λ l. l ++ more.part) some.text_is ∙ append_assoc some.done held more.part
        ∙ ap (λ l. some.done ++ l) (sym more.bytes);
    held_so = record {
      tail = some.held_so.tail ++ more.part;
      held_is = more.bytes ∙ ap (λ l. l ++ more.part) some.held_so.held_is;
      some = omega (arith, some.held_so.some, length-append some.held_so.tail more.part);
    };
    printed = some.printed;
    unended = some.unended;
    smooth = some.smooth;
  }

  -- a front of what is held was printed
  pub turns : {after : List ℕ} {new : Given} → HasPrintedMore f held after mid new → HasPrintedSome f body after ra rb old new
  turns {after} {new} more =
      let behind : (some.done ++ m ∷ []) ++ more.part ≡ some.done ++ m ∷ more.part = append_assoc some.done (m ∷ []) more.part in
      let all : (some.done ++ more.gone) ++ m ∷ [] ≡ some.done ++ m ∷ more.part =
      append_assoc some.done more.gone (m ∷ []) ∙ ap (λ l. some.done ++ l) (sym more.part_is) in
      record {
        come = some.come;
        grown = some.grown;
        done = some.done ++ more.gone;
        text_is = some.text_is ∙ ap (λ l. some.done ++ l) more.held_is ∙ sym (append_assoc some.done more.gone after);
        held_so = more.held;
        printed =
            more.printed ∙ ap (λ l. l ++ more.part) some.printed ∙ append_assoc old.bytes (some.done ++ m ∷ []) more.part
            ∙ ap (λ l. old.bytes ++ l) (behind ∙ sym all);
        unended =
            ap has_end all
            ∙ ⊎_elim (λ (none : more.part ≡ []). ap (λ l. has_end (some.done ++ m ∷ l)) none ∙ some.unended)
            (λ (two : 2 ≤ length more.part). tail_decides f some.done more.part two ∙ more.unended) more.some;
        smooth = untroubled_more old mid new some.smooth more.smooth;
      }

  -- what was printed so far, and what wasn't

  text_parts : body ++ some.come ≡ (some.done ++ m ∷ []) ++ some.held_so.tail
  text_parts = some.text_is ∙ ap (λ l. some.done ++ l) some.held_so.held_is ∙ sym (append_assoc some.done (m ∷ []) some.held_so.tail)

  front_printed : (part : List ℕ) → HasPrintedFront f (body ++ (some.come ++ part)) old mid
  front_printed part = record {
    front = some.done ++ m ∷ [];
    rest = some.held_so.tail ++ part;
    text_is = sym (append_assoc body some.come part) ∙ ap (λ l. l ++ part) text_parts ∙ append_assoc (some.done ++ m ∷ []) some.held_so.tail part;
    is_front = record { before = some.done; ends = refl; unended = some.unended };
    printed = some.printed;
    smooth = some.smooth;
  }

  all_come : rb.bytes ≡ ra.bytes ++ some.come
  all_come = some.grown.given ∙ ap (λ l. ra.bytes ++ l) (sym some.grown.bytes)

  more_come : (rd : Given) (part : List ℕ) → rd.bytes ≡ rb.bytes ++ part → rd.bytes ≡ ra.bytes ++ (some.come ++ part)
  more_come rd part given = given ∙ ap (λ l. l ++ part) all_come ∙ append_assoc ra.bytes some.come part

  -- a read stopped it
  read_fault : {T : Type 0} (e : AskFault) (text : List ℕ) (rd : Given) → IsReadersFault {T = T} (Err e)
      → (◌≡◌ {A = Result T AskFault} (Err e) (Err fault.Read) → rb.failures < rd.failures) → HasStopped e text ra rd
  read_fault fault.Read text rd is failed = inl (subst (λ (n : ℕ). n < rd.failures) some.grown.failures (failed refl))
  read_fault fault.Memory text rd is failed = tt
  read_fault _ text rd is failed = absurd is

  pub read_stopped : {T : Type 0} (rd : Given) (e : AskFault) → HasGiven rb rd → IsReadersFault {T = T} (Err e)
      → (◌≡◌ {A = Result T AskFault} (Err e) (Err fault.Read) → rb.failures < rd.failures) → HasPrintedBody f body ra rd old mid (Err (print.Rest e))
  read_stopped rd e (part, given) is failed =
      (some.come ++ part, more_come rd part given, front_printed part, read_fault e (body ++ (some.come ++ part)) rd is failed)

  -- or memory did, or the count of the reads
  pub stopped : (e : AskFault) → ((text : List ℕ) → HasStopped e text ra rb) → HasPrintedBody f body ra rb old mid (Err (print.Rest e))
  stopped e why = (some.come ++ [], more_come rb [] (sym (append-nil rb.bytes)), front_printed [], why (body ++ (some.come ++ [])))

  write_failed : (new : Given) → HasSent (drop 1 held) mid new → HasCause mid new → HasPrintedBody f body ra rb old new (Err print.Write)
  write_failed new sent cause =
      let tail : HasSent some.held_so.tail mid new = subst (λ (l : List ℕ). HasSent (drop 1 l) mid new) some.held_so.held_is sent in (
        some.come,
        all_come,
        subst (λ (l : List ℕ). HasSent l old new) (sym text_parts) (next_part (some.done ++ m ∷ []) some.held_so.tail old mid new some.printed tail),
        cause_behind old mid new some.smooth cause,
      )

  turn_failed : (after : List ℕ) (new : Given) (e : PrintFault) → HasTurned f held after mid new (Err e) → HasPrintedBody f body ra rb old new (Err e)
  turn_failed after new print.Write (sent, cause) = write_failed new sent cause
  turn_failed after new (print.Rest fault.Memory) same =
      subst (λ (g : Given). HasPrintedBody f body ra rb old g (Err (print.Rest fault.Memory))) (sym same) (stopped fault.Memory (λ text. tt))
  turn_failed after new (print.Rest _) is = absurd is

  pub turn_ended : (after : List ℕ) (new : Given) (r : Result (Unit {0}) PrintFault) (e : PrintFault) → IsErrAnd r (λ x. x ≡ e)
      → HasTurned f held after mid new (Err e) → HasPrintedBody f body ra rb old new r
  turn_ended after new (Ok x) e is turned = absurd is
  turn_ended after new (Err x) e is turned = subst (λ (k : PrintFault). HasPrintedBody f body ra rb old new (Err k)) (sym is) (turn_failed after new e turned)

  -- the connection ended

  end_decides : has_end (body ++ some.come) ≡ has_end held
  end_decides =
      ap has_end (some.text_is ∙ ap (λ l. some.done ++ l) some.held_so.held_is)
      ∙ tail_decides f some.done some.held_so.tail some.held_so.some ∙ ap has_end (sym some.held_so.held_is)

  pub ended : (new : Given) (r : Result (Unit {0}) PrintFault) → ra.idle < rb.idle → HasPrintedLast held mid new r → HasPrintedBody f body ra rb old new r
  ended new (Ok x) idle (end, printed) = (
    some.come,
    all_come,
    idle,
    end_decides ∙ end,
    printed ∙ ap (λ l. mid.bytes ++ drop 1 l) some.held_so.held_is ∙ ap (λ l. l ++ some.held_so.tail) some.printed
        ∙ append_assoc old.bytes (some.done ++ m ∷ []) some.held_so.tail ∙ ap (λ l. old.bytes ++ l) (sym text_parts),
  )
  ended new (Err print.Write) idle (sent, cause) = write_failed new sent cause
  ended new (Err (print.Rest fault.Cut)) idle (open_end, same) =
      let is : HasPrintedBody f body ra rb old mid (Err (print.Rest fault.Cut)) = (
        some.come,
        all_come,
        subst (λ (l : List ℕ). HasPrintedFront f (body ++ l) old mid) (append-nil some.come) (front_printed []),
        (idle, end_decides ∙ open_end),
      ) in
      subst (λ (g : Given). HasPrintedBody f body ra rb old g (Err (print.Rest fault.Cut))) (sym same) is
  ended new (Err (print.Rest _)) idle is = absurd is

-- one turn

nothing_open : (f : Form) → has_end (mark_of f ∷ []) ≡ false
nothing_open form.Text = refl
nothing_open form.Json = refl

pub unturned : (f : Form) (held : List ℕ) (old : Given) → IsHeld f held → HasPrintedMore f held held old old
unturned f held old is = record {
  gone = [];
  part = [];
  held_is = refl;
  held = is;
  part_is = refl;
  some = inl refl;
  unended = nothing_open f;
  printed = sym (append-nil old.bytes);
  smooth = (refl, refl);
}

taken_part : (f : Form) (held tail : List ℕ) (end : ℕ) → held ≡ mark_of f ∷ tail → 1 ≤ end → take end held ≡ mark_of f ∷ take (end - 1) (drop 1 held)
taken_part f held tail zero is some = absurd (omega (arith, some))
taken_part f held tail (suc k) is some =
    let same : k ≡ suc k - 1 = omega arith in
    ap (take (suc k)) is ∙ (λ i. mark_of f ∷ take (same i) (drop 1 (sym is i)))

pub turned : (f : Form) (held rest : List ℕ) (end : ℕ) (old new : Given) → IsHeld f held → IsFrontEnd f held end → rest ≡ take (length held - (end - 1)) (drop (end - 1) held)
    → new.bytes ≡ old.bytes ++ take (end - 1) (drop 1 held) → NoneFailed old new → HasPrintedMore f held rest old new
turned f held rest end old new is front rest_so printed smooth =
    let part = take (end - 1) (drop 1 held) in
    let taken : take end held ≡ mark_of f ∷ part = taken_part f held is.tail end is.held_is (omega (arith, front.some)) in
    let left : rest ≡ drop (end - 1) held = rest_so ∙ rest_is held (end - 1) in
    record {
      gone = take (end - 1) held;
      part = part;
      held_is = sym (take-append-drop (end - 1) held) ∙ ap (λ l. take (end - 1) held ++ l) (sym left);
      held = held_behind f end held rest front left;
      part_is = sym taken ∙ front.ends;
      some = inr (omega (arith, front.some, front.more, ap length taken, length-take end held));
      unended = ap has_end (sym taken) ∙ front.unended;
      printed = printed;
      smooth = smooth;
    }
