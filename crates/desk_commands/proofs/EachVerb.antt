-- What is shown verb by verb: a further verb has a case in each lemma here, and in no other file of proofs.
use Rattle.desk_commands.proofs.Common.{Amend, Book, Cargo, CheckIn, Command, Confirm, Deliver, Depart, FieldValue, Found, GiveBack, IsCommand, Issue, List, Manifest, Missing, None, Notify, Offload, Option, Receive, Reroute, Some, Stock, Strike, TakeIn, Transfer, Verb, Void, Withdraw, [], command_in, command_of, length, prefix_of, refl, row, serial_of, subst, take, values_of, verb_of, ◌∷◌, ◌≡◌}
use Rattle.desk_commands.specs.declared.verb.Verb.TheVariants as verb
use Rattle.desk_commands.proofs.Free.{free_padded, free_number, free_day, free_airport, free_carrier, free_name, free_goods, free_agent}
use Rattle.desk_commands.proofs.Fields.{awb_is, airport_is, airline_is, pieces_is, tenths_is, name_is, goods_is, agent_is, counted_is, number_is, run_is, flight_date_is, awb_again, airport_again, airline_again, pieces_again, tenths_again, name_again, goods_again, agent_again, counted_again, run_again, flight_date_again, flight_if_any_again}
use Rattle.desk_commands.proofs.Steps.{some_is, reads}
use Rattle.desk_commands.proofs.Fit.{AreFit, pieces_fit, tenths_fit, counted_fit, count_fits, day_long, values_in_places}
use Rattle.desk_commands.proofs.Made.{IsTyped, AreTyped, date_range, flight_if_any_is}

-- ---- what the fields of a command hold fits their kinds

pub fits : (c : Command) → IsCommand c → AreFit (row (verb_of c)) (values_of c)
fits (Stock (TakeIn run)) h = (free_padded 3 (prefix_of run.first), (free_padded 7 (serial_of run.first), (count_fits run.count h.1, tt)))
fits (Stock (Issue run agent)) h = (free_padded 3 (prefix_of run.first), (free_padded 7 (serial_of run.first), (count_fits run.count h.0.1, (free_agent agent h.1, tt))))
fits (Stock (GiveBack run agent)) h = (free_padded 3 (prefix_of run.first), (free_padded 7 (serial_of run.first), (count_fits run.count h.0.1, (free_agent agent h.1, tt))))
fits (Stock (Void run)) h = (free_padded 3 (prefix_of run.first), (free_padded 7 (serial_of run.first), (count_fits run.count h.1, tt)))
fits (Cargo (Book w o d p t g)) h = (free_number w, (free_airport o h.1, (free_airport d h.2, (pieces_fit p h.3, (tenths_fit t h.4, (free_goods g h.5, tt))))))
fits (Cargo (Amend w o d p t g)) h = (free_number w, (free_airport o h.1, (free_airport d h.2, (pieces_fit p h.3, (tenths_fit t h.4, (free_goods g h.5, tt))))))
fits (Cargo (Receive w p t n)) h = (free_number w, (pieces_fit p h.1, (tenths_fit t h.2, (free_name n h.3, tt))))
fits (Cargo (Withdraw w p n)) h = (free_number w, (pieces_fit p h.1, (free_name n h.2, tt)))
fits (Cargo (Manifest w f u p)) h = (free_number w, (h.1.0, (free_day f.day, (free_airport u h.2, (pieces_fit p h.3, tt)))))
fits (Cargo (Offload w f p)) h = (free_number w, (h.1.0, (free_day f.day, (pieces_fit p h.2, tt))))
fits (Cargo (Reroute f u)) h = (h.0.0, (free_day f.day, (free_airport u h.1, tt)))
fits (Cargo (Depart f)) h = (h.0, (free_day f.day, tt))
fits (Cargo (CheckIn w f k)) h = (free_number w, (h.1.0, (free_day f.day, (counted_fit k h.2, tt))))
fits (Cargo (Strike w f p)) h = (free_number w, (h.1.0, (free_day f.day, (pieces_fit p h.2, tt))))
fits (Cargo (Notify w n)) h = (free_number w, (free_name n h.1, tt))
fits (Cargo (Deliver w p n)) h = (free_number w, (pieces_fit p h.1, (free_name n h.2, tt)))
fits (Cargo (Transfer w p a)) h = (free_number w, (pieces_fit p h.1, (free_carrier a h.2, tt)))
fits (Cargo (Missing w p None)) h = (free_number w, (pieces_fit p h.1, (tt, (tt, tt))))
fits (Cargo (Missing w p (Some f))) h = (free_number w, (pieces_fit p h.1, (h.2.0, ((free_day f.day, day_long f.day), tt))))
fits (Cargo (Found w p t None)) h = (free_number w, (pieces_fit p h.1, (tenths_fit t h.2, (tt, (tt, tt)))))
fits (Cargo (Found w p t (Some f))) h = (free_number w, (pieces_fit p h.1, (tenths_fit t h.2, (h.3.0, ((free_day f.day, day_long f.day), tt)))))
fits (Cargo (Confirm upto)) h = (h, tt)

-- ---- what a command's fields hold makes that command

pub made_again : (c : Command) → IsCommand c → command_of (verb_of c) (values_in_places 6 (values_of c)) ≡ Some c
made_again (Stock (TakeIn run)) h = rw (run_again run h)
made_again (Stock (Issue run agent)) h = rw (run_again run h.0, agent_again agent h.1)
made_again (Stock (GiveBack run agent)) h = rw (run_again run h.0, agent_again agent h.1)
made_again (Stock (Void run)) h = rw (run_again run h)
made_again (Cargo (Book w o d p t g)) h = rw (awb_again w h.0, airport_again o h.1, airport_again d h.2, pieces_again p h.3, tenths_again t h.4, goods_again g h.5)
made_again (Cargo (Amend w o d p t g)) h = rw (awb_again w h.0, airport_again o h.1, airport_again d h.2, pieces_again p h.3, tenths_again t h.4, goods_again g h.5)
made_again (Cargo (Receive w p t n)) h = rw (awb_again w h.0, pieces_again p h.1, tenths_again t h.2, name_again n h.3)
made_again (Cargo (Withdraw w p n)) h = rw (awb_again w h.0, pieces_again p h.1, name_again n h.2)
made_again (Cargo (Manifest w f u p)) h = rw (awb_again w h.0, flight_date_again f h.1, airport_again u h.2, pieces_again p h.3)
made_again (Cargo (Offload w f p)) h = rw (awb_again w h.0, flight_date_again f h.1, pieces_again p h.2)
made_again (Cargo (Reroute f u)) h = rw (flight_date_again f h.0, airport_again u h.1)
made_again (Cargo (Depart f)) h = rw (flight_date_again f h)
made_again (Cargo (CheckIn w f k)) h = rw (awb_again w h.0, flight_date_again f h.1, counted_again k h.2)
made_again (Cargo (Strike w f p)) h = rw (awb_again w h.0, flight_date_again f h.1, pieces_again p h.2)
made_again (Cargo (Notify w n)) h = rw (awb_again w h.0, name_again n h.1)
made_again (Cargo (Deliver w p n)) h = rw (awb_again w h.0, pieces_again p h.1, name_again n h.2)
made_again (Cargo (Transfer w p a)) h = rw (awb_again w h.0, pieces_again p h.1, airline_again a h.2)
made_again (Cargo (Missing w p f)) h = rw (awb_again w h.0, pieces_again p h.1, flight_if_any_again f h.2)
made_again (Cargo (Found w p t f)) h = rw (awb_again w h.0, pieces_again p h.1, tenths_again t h.2, flight_if_any_again f h.3)
made_again (Cargo (Confirm upto)) h = refl

-- ---- what makes a command is what its fields hold

-- the command of a verb whose fields hold what stands in the first places
pub record IsMadeOf (v : Verb) (six : List FieldValue) (c : Command) : Type 0 where
  pub in_range : IsCommand c
  pub verb_is : verb_of c ≡ v
  pub front : take (length (row v)) six ≡ values_of c

made : {v : Verb} {six : List FieldValue} {c d : Command} → ◌≡◌ {A = Option Command} (Some c) (Some d) → IsCommand c → verb_of c ≡ v → take (length (row v)) six ≡ values_of c → IsMadeOf v six d
made {v} {six} {c} {d} h range verb front = subst (IsMadeOf v six) (some_is c d h) (record { in_range = range; verb_is = verb; front = front })

pub made_of : (v : Verb) (a b c d e f : FieldValue) (cmd : Command) → IsTyped a → IsTyped b → IsTyped c → IsTyped d → command_in v a b c d e f ≡ Some cmd → IsMadeOf v (a ∷ b ∷ c ∷ d ∷ e ∷ f ∷ []) cmd
made_of verb.TakeIn a b c d e f cmd ha hb hc hd h =
    reads (run_is a b c) (λ _ x1 h.
    made h x1.range refl (λ i. x1.prefix_is i ∷ x1.serial_is i ∷ x1.count_is i ∷ [])) h
made_of verb.Issue a b c d e f cmd ha hb hc hd h =
    reads (run_is a b c) (λ _ x1. reads (agent_is d) (λ _ x2 h.
    made h (x1.range, x2.0) refl (λ i. x1.prefix_is i ∷ x1.serial_is i ∷ x1.count_is i ∷ x2.1 i ∷ []))) h
made_of verb.Return a b c d e f cmd ha hb hc hd h =
    reads (run_is a b c) (λ _ x1. reads (agent_is d) (λ _ x2 h.
    made h (x1.range, x2.0) refl (λ i. x1.prefix_is i ∷ x1.serial_is i ∷ x1.count_is i ∷ x2.1 i ∷ []))) h
made_of verb.Void a b c d e f cmd ha hb hc hd h =
    reads (run_is a b c) (λ _ x1 h.
    made h x1.range refl (λ i. x1.prefix_is i ∷ x1.serial_is i ∷ x1.count_is i ∷ [])) h
made_of verb.Book a b c d e f cmd ha hb hc hd h =
    reads (awb_is a) (λ _ x1. reads (airport_is b) (λ _ x2. reads (airport_is c) (λ _ x3.
    reads (pieces_is d) (λ _ x4. reads (tenths_is e) (λ _ x5. reads (goods_is f) (λ _ x6 h.
    made h (x1.0, x2.0, x3.0, x4.0, x5.0, x6.0) refl (λ i. x1.1 i ∷ x2.1 i ∷ x3.1 i ∷ x4.1 i ∷ x5.1 i ∷ x6.1 i ∷ []))))))) h
made_of verb.Amend a b c d e f cmd ha hb hc hd h =
    reads (awb_is a) (λ _ x1. reads (airport_is b) (λ _ x2. reads (airport_is c) (λ _ x3.
    reads (pieces_is d) (λ _ x4. reads (tenths_is e) (λ _ x5. reads (goods_is f) (λ _ x6 h.
    made h (x1.0, x2.0, x3.0, x4.0, x5.0, x6.0) refl (λ i. x1.1 i ∷ x2.1 i ∷ x3.1 i ∷ x4.1 i ∷ x5.1 i ∷ x6.1 i ∷ []))))))) h
made_of verb.Receive a b c d e f cmd ha hb hc hd h =
    reads (awb_is a) (λ _ x1. reads (pieces_is b) (λ _ x2. reads (tenths_is c) (λ _ x3. reads (name_is d) (λ _ x4 h.
    made h (x1.0, x2.0, x3.0, x4.0) refl (λ i. x1.1 i ∷ x2.1 i ∷ x3.1 i ∷ x4.1 i ∷ []))))) h
made_of verb.Withdraw a b c d e f cmd ha hb hc hd h =
    reads (awb_is a) (λ _ x1. reads (pieces_is b) (λ _ x2. reads (name_is c) (λ _ x3 h.
    made h (x1.0, x2.0, x3.0) refl (λ i. x1.1 i ∷ x2.1 i ∷ x3.1 i ∷ [])))) h
made_of verb.Manifest a b c d e f cmd ha hb hc hd h =
    reads (awb_is a) (λ _ x1. reads (flight_date_is b c) (λ y x2. reads (airport_is d) (λ _ x3. reads (pieces_is e) (λ _ x4 h.
    made h (x1.0, date_range b c y hb x2, x3.0, x4.0) refl (λ i. x1.1 i ∷ x2.flight_is i ∷ x2.date_is i ∷ x3.1 i ∷ x4.1 i ∷ []))))) h
made_of verb.Offload a b c d e f cmd ha hb hc hd h =
    reads (awb_is a) (λ _ x1. reads (flight_date_is b c) (λ y x2. reads (pieces_is d) (λ _ x3 h.
    made h (x1.0, date_range b c y hb x2, x3.0) refl (λ i. x1.1 i ∷ x2.flight_is i ∷ x2.date_is i ∷ x3.1 i ∷ [])))) h
made_of verb.Reroute a b c d e f cmd ha hb hc hd h =
    reads (flight_date_is a b) (λ y x1. reads (airport_is c) (λ _ x2 h.
    made h (date_range a b y ha x1, x2.0) refl (λ i. x1.flight_is i ∷ x1.date_is i ∷ x2.1 i ∷ []))) h
made_of verb.Depart a b c d e f cmd ha hb hc hd h =
    reads (flight_date_is a b) (λ y x1 h.
    made h (date_range a b y ha x1) refl (λ i. x1.flight_is i ∷ x1.date_is i ∷ [])) h
made_of verb.CheckIn a b c d e f cmd ha hb hc hd h =
    reads (awb_is a) (λ _ x1. reads (flight_date_is b c) (λ y x2. reads (counted_is d) (λ _ x3 h.
    made h (x1.0, date_range b c y hb x2, x3.0) refl (λ i. x1.1 i ∷ x2.flight_is i ∷ x2.date_is i ∷ x3.1 i ∷ [])))) h
made_of verb.Strike a b c d e f cmd ha hb hc hd h =
    reads (awb_is a) (λ _ x1. reads (flight_date_is b c) (λ y x2. reads (pieces_is d) (λ _ x3 h.
    made h (x1.0, date_range b c y hb x2, x3.0) refl (λ i. x1.1 i ∷ x2.flight_is i ∷ x2.date_is i ∷ x3.1 i ∷ [])))) h
made_of verb.Notify a b c d e f cmd ha hb hc hd h =
    reads (awb_is a) (λ _ x1. reads (name_is b) (λ _ x2 h.
    made h (x1.0, x2.0) refl (λ i. x1.1 i ∷ x2.1 i ∷ []))) h
made_of verb.Deliver a b c d e f cmd ha hb hc hd h =
    reads (awb_is a) (λ _ x1. reads (pieces_is b) (λ _ x2. reads (name_is c) (λ _ x3 h.
    made h (x1.0, x2.0, x3.0) refl (λ i. x1.1 i ∷ x2.1 i ∷ x3.1 i ∷ [])))) h
made_of verb.Transfer a b c d e f cmd ha hb hc hd h =
    reads (awb_is a) (λ _ x1. reads (pieces_is b) (λ _ x2. reads (airline_is c) (λ _ x3 h.
    made h (x1.0, x2.0, x3.0) refl (λ i. x1.1 i ∷ x2.1 i ∷ x3.1 i ∷ [])))) h
made_of verb.Missing a b c d e f cmd ha hb hc hd h =
    reads (awb_is a) (λ _ x1. reads (pieces_is b) (λ _ x2. reads (λ y h. flight_if_any_is c d y hc h) (λ _ x3 h.
    made h (x1.0, x2.0, x3.in_range) refl (λ i. x1.1 i ∷ x2.1 i ∷ x3.flight_is i ∷ x3.date_is i ∷ [])))) h
made_of verb.Found a b c d e f cmd ha hb hc hd h =
    reads (awb_is a) (λ _ x1. reads (pieces_is b) (λ _ x2. reads (tenths_is c) (λ _ x3. reads (λ y h. flight_if_any_is d e y hd h) (λ _ x4 h.
    made h (x1.0, x2.0, x3.0, x4.in_range) refl (λ i. x1.1 i ∷ x2.1 i ∷ x3.1 i ∷ x4.flight_is i ∷ x4.date_is i ∷ []))))) h
made_of verb.Confirm a b c d e f cmd ha hb hc hd h =
    reads (number_is a) (λ _ x1 h.
    made h (subst IsTyped x1 ha) refl (λ i. x1 i ∷ [])) h

pub made_of_list : (v : Verb) (six : List FieldValue) (c : Command) → AreTyped six → command_of v six ≡ Some c → IsMadeOf v six c
made_of_list v (g0 ∷ g1 ∷ g2 ∷ g3 ∷ g4 ∷ g5 ∷ []) c h e = made_of v g0 g1 g2 g3 g4 g5 c h.0 h.1.0 h.1.1.0 h.1.1.1.0 e
made_of_list v _ c h e = cc e
