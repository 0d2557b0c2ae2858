-- The lines of a manifest, found from their rows, are those of the state.
use Rattle.shipment_machine.proofs.Common.{Bool, Cargo, CargoLine, Change, Earlier, Expected, FlightDate, Holder, LineView, List, None, Option, Refusal, Result, Some, [], announced_changes, ap, arith, dated, declared_by, expected_after, expected_so_far, false, first_refusal, if◌then◌else◌, is_new, is_none, line_changes, line_refusals, line_view_of, lines_changes, map, nat_tests, no_earlier, refl, row_changes, row_refusals, subst, sym, then_write, true, unless_refused, with_line, written_all, ℕ, ◌&&◌, ◌==◌, ◌∙◌, ◌∷◌, ◌≡◌}
use Rattle.agent_stock.specs.declared.stock.Holder.TheVariants as holder
use Rattle.shipment_machine.proofs.FlightKeys.{same-refl}

-- what the lines before have left of a waybill: nothing, or an expected row of a declared waybill
abbrev LeftBy : Cargo → Cargo → FlightDate → ℕ → Option Expected → Type 0
LeftBy s0 s flight q None = (s.declared q ≡ s0.declared q) × (s.holders q ≡ s0.holders q) × (s.expected flight q ≡ s0.expected flight q)
LeftBy s0 s flight q (Some e) = (is_none (s.declared q) ≡ false) × (s.expected flight q ≡ Some e)

abbrev Follows : Cargo → Earlier → FlightDate → Cargo → Type 0
Follows s0 earlier flight s = (q : ℕ) → LeftBy s0 s flight q (earlier q)

-- the state after a line
abbrev next_state : Bool → Option Holder → Option Expected → FlightDate → ℕ → CargoLine → Cargo → Cargo
next_state new who so_far flight today c s = written_all [] (row_changes new who so_far flight today c) s

-- of its own waybill
now_declared : (new : Bool) (who : Option Holder) (so_far : Option Expected) (flight : FlightDate) (today : ℕ) (c : CargoLine) (s : Cargo) (q : ℕ) → (q == c.awb) ≡ true → (new ≡ false → is_none (s.declared q) ≡ false) →
    is_none ((next_state new who so_far flight today c s).declared q) ≡ false
now_declared true (Some (holder.Agent code)) so_far flight today c s q e known = ap (λ (b : Bool). is_none (if b then Some (dated today (declared_by c)) else s.declared q)) e
now_declared true (Some holder.Desk) so_far flight today c s q e known = ap (λ (b : Bool). is_none (if b then Some (dated today (declared_by c)) else s.declared q)) e
now_declared true (Some holder.Used) so_far flight today c s q e known = ap (λ (b : Bool). is_none (if b then Some (dated today (declared_by c)) else s.declared q)) e
now_declared true (Some holder.Void) so_far flight today c s q e known = ap (λ (b : Bool). is_none (if b then Some (dated today (declared_by c)) else s.declared q)) e
now_declared true None so_far flight today c s q e known = ap (λ (b : Bool). is_none (if b then Some (dated today (declared_by c)) else s.declared q)) e
now_declared false who so_far flight today c s q e known = known refl

now_expected : (new : Bool) (who : Option Holder) (so_far : Option Expected) (flight : FlightDate) (today : ℕ) (c : CargoLine) (s : Cargo) (q : ℕ) →
    (next_state new who so_far flight today c s).expected flight q ≡ (if q == c.awb then Some (expected_after so_far c) else s.expected flight q)
now_expected true (Some (holder.Agent code)) so_far flight today c s q = ap (λ (b : Bool). if b && (q == c.awb) then Some (expected_after so_far c) else s.expected flight q) (same-refl flight)
now_expected true (Some holder.Desk) so_far flight today c s q = ap (λ (b : Bool). if b && (q == c.awb) then Some (expected_after so_far c) else s.expected flight q) (same-refl flight)
now_expected true (Some holder.Used) so_far flight today c s q = ap (λ (b : Bool). if b && (q == c.awb) then Some (expected_after so_far c) else s.expected flight q) (same-refl flight)
now_expected true (Some holder.Void) so_far flight today c s q = ap (λ (b : Bool). if b && (q == c.awb) then Some (expected_after so_far c) else s.expected flight q) (same-refl flight)
now_expected true None so_far flight today c s q = ap (λ (b : Bool). if b && (q == c.awb) then Some (expected_after so_far c) else s.expected flight q) (same-refl flight)
now_expected false who so_far flight today c s q = ap (λ (b : Bool). if b && (q == c.awb) then Some (expected_after so_far c) else s.expected flight q) (same-refl flight)

-- of another
still_declared : (new : Bool) (who : Option Holder) (so_far : Option Expected) (flight : FlightDate) (today : ℕ) (c : CargoLine) (s : Cargo) (q : ℕ) → (q == c.awb) ≡ false → (next_state new who so_far flight today c s).declared q ≡ s.declared q
still_declared true (Some (holder.Agent code)) so_far flight today c s q e = ap (λ (b : Bool). if b then Some (dated today (declared_by c)) else s.declared q) e
still_declared true (Some holder.Desk) so_far flight today c s q e = ap (λ (b : Bool). if b then Some (dated today (declared_by c)) else s.declared q) e
still_declared true (Some holder.Used) so_far flight today c s q e = ap (λ (b : Bool). if b then Some (dated today (declared_by c)) else s.declared q) e
still_declared true (Some holder.Void) so_far flight today c s q e = ap (λ (b : Bool). if b then Some (dated today (declared_by c)) else s.declared q) e
still_declared true None so_far flight today c s q e = ap (λ (b : Bool). if b then Some (dated today (declared_by c)) else s.declared q) e
still_declared false who so_far flight today c s q e = refl

still_held : (new : Bool) (who : Option Holder) (so_far : Option Expected) (flight : FlightDate) (today : ℕ) (c : CargoLine) (s : Cargo) (q : ℕ) → (q == c.awb) ≡ false → (next_state new who so_far flight today c s).holders q ≡ s.holders q
still_held true (Some (holder.Agent code)) so_far flight today c s q e = ap (λ (b : Bool). if b then Some holder.Used else s.holders q) e
still_held true (Some holder.Desk) so_far flight today c s q e = refl
still_held true (Some holder.Used) so_far flight today c s q e = refl
still_held true (Some holder.Void) so_far flight today c s q e = refl
still_held true None so_far flight today c s q e = refl
still_held false who so_far flight today c s q e = refl

left_as_before : (s0 s s' : Cargo) (flight : FlightDate) (q : ℕ) (o : Option Expected) → s'.declared q ≡ s.declared q → s'.holders q ≡ s.holders q → s'.expected flight q ≡ s.expected flight q → LeftBy s0 s flight q o → LeftBy s0 s' flight q o
left_as_before s0 s s' flight q None d h x left = (d ∙ left.0, h ∙ left.1, x ∙ left.2)
left_as_before s0 s s' flight q (Some e) d h x left = (ap is_none d ∙ left.0, x ∙ left.1)

follows_on : (s0 s : Cargo) (earlier : Earlier) (flight : FlightDate) (today : ℕ) (c : CargoLine) (new : Bool) (who : Option Holder) (so_far : Option Expected) → Follows s0 earlier flight s →
    ((q : ℕ) → (q == c.awb) ≡ true → new ≡ false → is_none (s.declared q) ≡ false) →
    Follows s0 (with_line earlier c.awb (expected_after so_far c)) flight (next_state new who so_far flight today c s)
follows_on s0 s earlier flight today c new who so_far follows known q =
    elim (q == c.awb) as (λ b. (q == c.awb) ≡ b → LeftBy s0 (next_state new who so_far flight today c s) flight q (if b then Some (expected_after so_far c) else earlier q)) [
      | true ↦ λ e. (now_declared new who so_far flight today c s q e (known q e), now_expected new who so_far flight today c s q ∙ ap (λ (b : Bool). if b then Some (expected_after so_far c) else s.expected flight q) e)
      | false ↦ λ e. left_as_before s0 s (next_state new who so_far flight today c s) flight q (earlier q) (still_declared new who so_far flight today c s q e) (still_held new who so_far flight today c s q e)
          (now_expected new who so_far flight today c s q ∙ ap (λ (b : Bool). if b then Some (expected_after so_far c) else s.expected flight q) e) (follows q)
    ] refl

-- A line that is not new asks nothing of the holder.
abbrev Blind : (Bool → Option Holder → Option Expected → Result (List Change) Refusal) → Type 0
Blind whole = (a b : Option Holder) (x : Option Expected) → whole false a x ≡ whole false b x

row_is : (s0 s : Cargo) (flight : FlightDate) (w : ℕ) (o : Option Expected) (row : LineView) (whole : Bool → Option Holder → Option Expected → Result (List Change) Refusal) → Blind whole →
    row.declared ≡ s0.declared w → row.holder ≡ s0.holders w → row.expected ≡ s0.expected flight w → LeftBy s0 s flight w o →
    whole (is_new o row) row.holder (expected_so_far o row) ≡ whole (is_none (s.declared w)) (s.holders w) (s.expected flight w)
row_is s0 s flight w None row whole blind d h x left =
    ap (λ (n : Bool). whole n row.holder row.expected) (ap is_none (d ∙ sym left.0))
    ∙ ap (λ (k : Option Holder). whole (is_none (s.declared w)) k row.expected) (h ∙ sym left.1)
    ∙ ap (λ (k : Option Expected). whole (is_none (s.declared w)) (s.holders w) k) (x ∙ sym left.2)
row_is s0 s flight w (Some e) row whole blind d h x left =
    blind row.holder (s.holders w) (Some e)
    ∙ ap (λ (n : Bool). whole n (s.holders w) (Some e)) (sym left.0)
    ∙ ap (λ (k : Option Expected). whole (is_none (s.declared w)) (s.holders w) k) (sym left.1)

same_number : (q w : ℕ) → (q == w) ≡ true → q ≡ w
same_number q w e = grind (arith, nat_tests)

abbrev whole_line : Earlier → FlightDate → ℕ → CargoLine → List CargoLine → List LineView → Bool → Option Holder → Option Expected → Result (List Change) Refusal
whole_line earlier flight today c cs rows new who so_far =
    unless_refused (first_refusal (row_refusals new who so_far c)) (then_write (row_changes new who so_far flight today c) (announced_changes (with_line earlier c.awb (expected_after so_far c)) flight today cs rows))

follows_is : (s0 s : Cargo) (earlier : Earlier) (flight : FlightDate) (today : ℕ) (cs : List CargoLine) → Follows s0 earlier flight s → announced_changes earlier flight today cs (map (line_view_of s0 flight) cs) ≡ lines_changes s flight today cs
follows_is s0 s earlier flight today [] follows = refl
follows_is s0 s earlier flight today (c ∷ cs) follows =
    let rows : List LineView = map (line_view_of s0 flight) cs in
    row_is s0 s flight c.awb (earlier c.awb) (line_view_of s0 flight c) (whole_line earlier flight today c cs rows) (λ a b x. refl) refl refl refl (follows c.awb)
    ∙ ap (λ (rest : Result (List Change) Refusal). unless_refused (first_refusal (line_refusals s flight c)) (then_write (line_changes s flight today c) rest))
    (follows_is s0 (written_all [] (line_changes s flight today c) s) (with_line earlier c.awb (expected_after (s.expected flight c.awb) c)) flight today cs
    (follows_on s0 s earlier flight today c (is_none (s.declared c.awb)) (s.holders c.awb) (s.expected flight c.awb) follows
    (λ q e new. subst (λ k. is_none (s.declared k) ≡ false) (sym (same_number q c.awb e)) new)))

-- what the rows of the lines say is what the state says
pub announced_is : (s : Cargo) (flight : FlightDate) (today : ℕ) (cs : List CargoLine) → announced_changes no_earlier flight today cs (map (line_view_of s flight) cs) ≡ lines_changes s flight today cs
announced_is s flight today cs = follows_is s s no_earlier flight today cs (λ q. (refl, refl, refl))
