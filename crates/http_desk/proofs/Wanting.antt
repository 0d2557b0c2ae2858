-- What a head or a body wants.
use Rattle.http_desk.proofs.Common.{Bool, Err, FaultTold, HasWants, Head, HeadAsks, HeadWants, IsAnsweredAs, List, MatchResult, None, Ok, Option, Place, Printout, Replied, Reply, Result, Some, Wanted, WantsNow, [], ap, codes, false, fault, fault_reply, got_history, got_holder, got_report, got_waybill, head_asks, history_of, holder_reply, if◌then◌else◌, is_foreign, looks_up, meant, number_of, numbered, own_asks, place_asks, refl, refuses, result_ok, subst, sym, true, unknown, waybill_reply, ℕ, ◌∙◌, ◌≡◌}
use Rattle.std.specs.Array.{IsWholeChunk}
use Rattle.awb_number.specs.declared.awb.AwbFault.{AwbFault}
use Rattle.station_core.specs.Readers.{waybill_of}
use Rattle.http_desk.specs.declared.wanted.Wanted.TheVariants as wanted
use Rattle.http_desk.specs.declared.request.Asks.{Asks}
use Rattle.http_desk.specs.Came.{asks_meant}
use Rattle.http_desk.specs.declared.wanted.HeadWants.TheVariants as wants

option_of : {A : Type 0} → Option A → A → A
option_of (Some x) other = x
option_of None other = other

some_is : {A : Type 0} (x y : A) → ◌≡◌ {A = Option A} (Some x) (Some y) → x ≡ y
unfolding option_of
some_is x y e = ap (λ o. option_of o x) e

-- twelve bytes that are the whole of a text
pub chunk_is : {E : Type 0} (P : E → Type 0) (r : Result (List ℕ) E) (text bytes : List ℕ) → ◌≡◌ {A = Option (List ℕ)} (Some bytes) (result_ok r) → MatchResult r (λ y. IsWholeChunk text y 12) P → bytes ≡ text
chunk_is P (Ok y) text bytes e chunk = some_is bytes y e ∙ chunk.same
chunk_is P (Err fault) text bytes e chunk = cc e

-- a number that is read is looked up, and one that isn't is unknown
module _ (reply : ℕ → Reply) where
  number_read : (r : Result ℕ AwbFault) (w : ℕ) → ◌≡◌ {A = Option ℕ} (Some w) (result_ok r) → reply w ≡ numbered r reply
  number_read (Ok v) w e = ap reply (some_is w v e)
  number_read (Err f) w e = cc e

  none_read : (r : Result ℕ AwbFault) → ◌≡◌ {A = Option ℕ} None (result_ok r) → unknown ≡ numbered r reply
  none_read (Ok v) e = cc e
  none_read (Err f) e = refl

pub waybill_wanted : (name : List ℕ) (w : ℕ) → ◌≡◌ {A = Option ℕ} (Some w) (result_ok (number_of name)) → WantsNow (looks_up (got_waybill name)) (wanted.Waybill w)
waybill_wanted name w e = record {
  answered = λ head rest s at status out after r. subst (λ reply. Replied s reply s status out after) (number_read (λ v. waybill_reply v (waybill_of s.cargo v)) (number_of name) w e) r;
  report = λ report is. cc is;
  input = λ i is. cc is;
}

pub history_wanted : (name : List ℕ) (w : ℕ) → ◌≡◌ {A = Option ℕ} (Some w) (result_ok (number_of name)) → WantsNow (looks_up (got_history name)) (wanted.History w)
history_wanted name w e = record {
  answered = λ head rest s at status out after r. subst (λ reply. Replied s reply s status out after) (number_read (λ v. history_of v (waybill_of s.cargo v)) (number_of name) w e) r;
  report = λ report is. cc is;
  input = λ i is. cc is;
}

pub holder_wanted : (name : List ℕ) (w : ℕ) → ◌≡◌ {A = Option ℕ} (Some w) (result_ok (number_of name)) → WantsNow (looks_up (got_holder name)) (wanted.Holder w)
holder_wanted name w e = record {
  answered = λ head rest s at status out after r. subst (λ reply. Replied s reply s status out after) (number_read (λ v. holder_reply v (s.cargo.holders v)) (number_of name) w e) r;
  report = λ report is. cc is;
  input = λ i is. cc is;
}

pub no_waybill : (name : List ℕ) (f : FaultTold) → meant f ≡ fault 404 [] → ◌≡◌ {A = Option ℕ} None (result_ok (number_of name)) → WantsNow (looks_up (got_waybill name)) (wanted.Fault f)
no_waybill name f is e = record {
  answered = λ head rest s at status out after r.
      subst (λ reply. Replied s reply s status out after) (ap fault_reply is ∙ none_read (λ v. waybill_reply v (waybill_of s.cargo v)) (number_of name) e) r;
  report = λ report is. cc is;
  input = λ i is. cc is;
}

pub no_history : (name : List ℕ) (f : FaultTold) → meant f ≡ fault 404 [] → ◌≡◌ {A = Option ℕ} None (result_ok (number_of name)) → WantsNow (looks_up (got_history name)) (wanted.Fault f)
no_history name f is e = record {
  answered = λ head rest s at status out after r.
      subst (λ reply. Replied s reply s status out after) (ap fault_reply is ∙ none_read (λ v. history_of v (waybill_of s.cargo v)) (number_of name) e) r;
  report = λ report is. cc is;
  input = λ i is. cc is;
}

pub no_holder : (name : List ℕ) (f : FaultTold) → meant f ≡ fault 404 [] → ◌≡◌ {A = Option ℕ} None (result_ok (number_of name)) → WantsNow (looks_up (got_holder name)) (wanted.Fault f)
no_holder name f is e = record {
  answered = λ head rest s at status out after r.
      subst (λ reply. Replied s reply s status out after) (ap fault_reply is ∙ none_read (λ v. holder_reply v (s.cargo.holders v)) (number_of name) e) r;
  report = λ report is. cc is;
  input = λ i is. cc is;
}

report_of : Wanted → Printout → Printout
report_of (wanted.Report name) other = name
report_of _ other = other

report_is : (name other : Printout) → ◌≡◌ {A = Wanted} (wanted.Report name) (wanted.Report other) → name ≡ other
unfolding report_of
report_is name other e = ap (λ w. report_of w name) e

pub fault_wanted : (asks : HeadAsks) (f : FaultTold) → asks ≡ refuses (meant f) → WantsNow asks (wanted.Fault f)
fault_wanted asks f is = record {
  answered = λ head rest s at status out after r. subst (λ (a : HeadAsks). IsAnsweredAs a head rest s at status out after) (sym is) r;
  report = λ report is. cc is;
  input = λ i is. cc is;
}

-- what a head wants, by whether a page of another host sent it
pub foreign_wants : (head : Head) (f : FaultTold) → is_foreign head.fields ≡ true → meant f ≡ fault 400 (codes "origin") → HasWants (head_asks head) (wants.Now (wanted.Fault f))
foreign_wants head f foreign is =
    fault_wanted (head_asks head) f
    (ap (λ (b : Bool). if b then refuses (fault 400 (codes "origin")) else own_asks head) foreign ∙ ap refuses (sym is))

pub wants_on : (head : Head) (w : HeadWants) → is_foreign head.fields ≡ false → HasWants (own_asks head) w → HasWants (head_asks head) w
wants_on head w own told =
    subst (λ (b : Bool). HasWants (if b then refuses (fault 400 (codes "origin")) else own_asks head) w) (sym own) told

-- what a head asks of a place, by the route that leads there
pub of_place : (asks : Asks) (head : Head) (place other : Place) → place ≡ other → asks_meant (Some other) asks ≡ place_asks head (Some other)
    → asks_meant (Some place) asks ≡ place_asks head (Some place)
of_place asks head place other is = subst (λ (p : Place). asks_meant (Some p) asks ≡ place_asks head (Some p)) (sym is)
