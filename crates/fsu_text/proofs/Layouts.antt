-- A status line's code decides its layout.
use Rattle.fsu_text.proofs.Common.{Bool, Carriage, Handling, List, None, Option, Reading, Some, [], ap, carriage_code, carriage_of, carried_of, codes, differs_of, false, fields, handled_of, handling_code, handling_of, or_else, received_of, refl, status_of, subst, sym, true, where_true, ℕ, ◌∙◌, ◌∷◌, ◌≡◌}
use Rattle.std.specs.Str.{bytes_eq}
use Rattle.imp_fields.proofs.SameFlight.{bytes_eq-true, bytes_eq-refl}
use Rattle.fsu_text.specs.declared.status.Handling.TheVariants as handling
use Rattle.fsu_text.specs.declared.status.Carriage.TheVariants as carriage

abbrev pub status_by : List (List ℕ) → Option Reading
status_by parts = or_else (handled_of parts) (or_else (received_of parts) (or_else (carried_of parts) (differs_of parts)))

-- ---- a line of another code is not of this layout

handled_other : (code : List ℕ) (parts : List (List ℕ)) → handling_of code ≡ None → handled_of (code ∷ parts) ≡ None
handled_other code [] h = refl
handled_other code (a ∷ []) h = refl
handled_other code (a ∷ b ∷ []) h = refl
handled_other code (a ∷ b ∷ c ∷ more) h = rw h refl

received_other : (code : List ℕ) (parts : List (List ℕ)) → bytes_eq (codes "RCF") code ≡ false → received_of (code ∷ parts) ≡ None
received_other code [] h = refl
received_other code (a ∷ []) h = refl
received_other code (a ∷ b ∷ []) h = refl
received_other code (a ∷ b ∷ c ∷ []) h = refl
received_other code (a ∷ b ∷ c ∷ d ∷ []) h = rw h refl
received_other code (a ∷ b ∷ c ∷ d ∷ e ∷ more) h = refl

carried_other : (code : List ℕ) (parts : List (List ℕ)) → carriage_of code ≡ None → carried_of (code ∷ parts) ≡ None
carried_other code [] h = refl
carried_other code (a ∷ []) h = refl
carried_other code (a ∷ b ∷ []) h = refl
carried_other code (a ∷ b ∷ c ∷ []) h = refl
carried_other code (a ∷ b ∷ c ∷ d ∷ more) h = rw h refl

differs_other : (code : List ℕ) (parts : List (List ℕ)) → bytes_eq (codes "DIS") code ≡ false → differs_of (code ∷ parts) ≡ None
differs_other code [] h = refl
differs_other code (a ∷ []) h = refl
differs_other code (a ∷ b ∷ []) h = refl
differs_other code (a ∷ b ∷ c ∷ []) h = refl
differs_other code (a ∷ b ∷ c ∷ d ∷ []) h = refl
differs_other code (a ∷ b ∷ c ∷ d ∷ e ∷ []) h = rw h refl
differs_other code (a ∷ b ∷ c ∷ d ∷ e ∷ f ∷ more) h = refl

-- ---- the code of a layout

handling_known : (code : List ℕ) (event : Handling) → handling_of code ≡ Some event → handling_code event ≡ code
handling_known code event e = at (bytes_eq (codes "RCS") code) (bytes_eq (codes "NFD") code) (bytes_eq (codes "DLV") code) refl refl refl e
  where
    at : (a b c : Bool) → bytes_eq (codes "RCS") code ≡ a → bytes_eq (codes "NFD") code ≡ b → bytes_eq (codes "DLV") code ≡ c
        → or_else (where_true a handling.ReceivedFromShipper) (or_else (where_true b handling.Notified) (where_true c handling.Delivered)) ≡ Some event
        → handling_code event ≡ code
    at true b c ha hb hc same = ap handling_code (let it : event ≡ handling.ReceivedFromShipper = cc in it) ∙ bytes_eq-true (codes "RCS") code ha
    at false true c ha hb hc same = ap handling_code (let it : event ≡ handling.Notified = cc in it) ∙ bytes_eq-true (codes "NFD") code hb
    at false false true ha hb hc same = ap handling_code (let it : event ≡ handling.Delivered = cc in it) ∙ bytes_eq-true (codes "DLV") code hc
    at false false false ha hb hc same = absurd cc

carriage_known : (code : List ℕ) (event : Carriage) → carriage_of code ≡ Some event → carriage_code event ≡ code
carriage_known code event e = at (bytes_eq (codes "BKD") code) (bytes_eq (codes "MAN") code) (bytes_eq (codes "DEP") code) refl refl refl e
  where
    at : (a b c : Bool) → bytes_eq (codes "BKD") code ≡ a → bytes_eq (codes "MAN") code ≡ b → bytes_eq (codes "DEP") code ≡ c
        → or_else (where_true a carriage.Booked) (or_else (where_true b carriage.Manifested) (where_true c carriage.Departed)) ≡ Some event
        → carriage_code event ≡ code
    at true b c ha hb hc same = ap carriage_code (let it : event ≡ carriage.Booked = cc in it) ∙ bytes_eq-true (codes "BKD") code ha
    at false true c ha hb hc same = ap carriage_code (let it : event ≡ carriage.Manifested = cc in it) ∙ bytes_eq-true (codes "MAN") code hb
    at false false true ha hb hc same = ap carriage_code (let it : event ≡ carriage.Departed = cc in it) ∙ bytes_eq-true (codes "DEP") code hc
    at false false false ha hb hc same = absurd cc

-- ---- a line's code leaves one layout

or_else_none : {A : Type 0} (o : Option A) → or_else o None ≡ o
or_else_none (Some x) = refl
or_else_none None = refl

abbrev status_in : Option Reading → Option Reading → Option Reading → Option Reading → Option Reading
status_in handled received carried differs = or_else handled (or_else received (or_else carried differs))

by_handled : (code : List ℕ) (parts : List (List ℕ)) → bytes_eq (codes "RCF") code ≡ false → carriage_of code ≡ None → bytes_eq (codes "DIS") code ≡ false
    → status_by (code ∷ parts) ≡ handled_of (code ∷ parts)
by_handled code parts r c d =
    let line = code ∷ parts in
    ap (λ o. status_in (handled_of line) o (carried_of line) (differs_of line)) (received_other code parts r)
    ∙ ap (λ o. status_in (handled_of line) None o (differs_of line)) (carried_other code parts c)
    ∙ ap (λ o. status_in (handled_of line) None None o) (differs_other code parts d) ∙ or_else_none (handled_of line)

by_carried : (code : List ℕ) (parts : List (List ℕ)) → handling_of code ≡ None → bytes_eq (codes "RCF") code ≡ false → bytes_eq (codes "DIS") code ≡ false
    → status_by (code ∷ parts) ≡ carried_of (code ∷ parts)
by_carried code parts h r d =
    let line = code ∷ parts in
    ap (λ o. status_in o (received_of line) (carried_of line) (differs_of line)) (handled_other code parts h)
    ∙ ap (λ o. status_in None o (carried_of line) (differs_of line)) (received_other code parts r)
    ∙ ap (λ o. status_in None None (carried_of line) o) (differs_other code parts d) ∙ or_else_none (carried_of line)

by_received : (code : List ℕ) (parts : List (List ℕ)) → handling_of code ≡ None → carriage_of code ≡ None → bytes_eq (codes "DIS") code ≡ false
    → status_by (code ∷ parts) ≡ received_of (code ∷ parts)
by_received code parts h c d =
    let line = code ∷ parts in
    ap (λ o. status_in o (received_of line) (carried_of line) (differs_of line)) (handled_other code parts h)
    ∙ ap (λ o. status_in None (received_of line) o (differs_of line)) (carried_other code parts c)
    ∙ ap (λ o. status_in None (received_of line) None o) (differs_other code parts d) ∙ or_else_none (received_of line)

by_differs : (code : List ℕ) (parts : List (List ℕ)) → handling_of code ≡ None → carriage_of code ≡ None → bytes_eq (codes "RCF") code ≡ false
    → status_by (code ∷ parts) ≡ differs_of (code ∷ parts)
by_differs code parts h c r =
    let line = code ∷ parts in
    ap (λ o. status_in o (received_of line) (carried_of line) (differs_of line)) (handled_other code parts h)
    ∙ ap (λ o. status_in None o (carried_of line) (differs_of line)) (received_other code parts r)
    ∙ ap (λ o. status_in None None o (differs_of line)) (carried_other code parts c)

handled_alone : (event : Handling) (parts : List (List ℕ)) → status_by (handling_code event ∷ parts) ≡ handled_of (handling_code event ∷ parts)
handled_alone handling.ReceivedFromShipper parts = by_handled (codes "RCS") parts refl refl refl
handled_alone handling.Notified parts = by_handled (codes "NFD") parts refl refl refl
handled_alone handling.Delivered parts = by_handled (codes "DLV") parts refl refl refl

carried_alone : (event : Carriage) (parts : List (List ℕ)) → status_by (carriage_code event ∷ parts) ≡ carried_of (carriage_code event ∷ parts)
carried_alone carriage.Booked parts = by_carried (codes "BKD") parts refl refl refl
carried_alone carriage.Manifested parts = by_carried (codes "MAN") parts refl refl refl
carried_alone carriage.Departed parts = by_carried (codes "DEP") parts refl refl refl

-- ---- what a line says, by its code

pub tells_handled : (line code rest : List ℕ) (event : Handling) → fields line ≡ code ∷ fields rest → handling_of code ≡ Some event
    → status_of line ≡ handled_of (code ∷ fields rest)
tells_handled line code rest event cut e =
    ap status_by cut
    ∙ subst (λ c. status_by (c ∷ fields rest) ≡ handled_of (c ∷ fields rest)) (handling_known code event e) (handled_alone event (fields rest))

pub tells_carried : (line code rest : List ℕ) (event : Carriage) → fields line ≡ code ∷ fields rest → carriage_of code ≡ Some event
    → status_of line ≡ carried_of (code ∷ fields rest)
tells_carried line code rest event cut e =
    ap status_by cut
    ∙ subst (λ c. status_by (c ∷ fields rest) ≡ carried_of (c ∷ fields rest)) (carriage_known code event e) (carried_alone event (fields rest))

pub tells_received : (line code rest word : List ℕ) → fields line ≡ code ∷ fields rest → word ≡ codes "RCF" → bytes_eq code word ≡ true
    → status_of line ≡ received_of (codes "RCF" ∷ fields rest)
tells_received line code rest word cut w e =
    ap status_by cut ∙ ap (λ c. status_by (c ∷ fields rest)) (bytes_eq-true code word e ∙ w) ∙ by_received (codes "RCF") (fields rest) refl refl refl

pub tells_differs : (line code rest word : List ℕ) → fields line ≡ code ∷ fields rest → word ≡ codes "DIS" → bytes_eq code word ≡ true
    → status_of line ≡ differs_of (codes "DIS" ∷ fields rest)
tells_differs line code rest word cut w e =
    ap status_by cut ∙ ap (λ c. status_by (c ∷ fields rest)) (bytes_eq-true code word e ∙ w) ∙ by_differs (codes "DIS") (fields rest) refl refl refl

other_way : (a b : List ℕ) → bytes_eq a b ≡ false → bytes_eq b a ≡ false
other_way a b h = at (bytes_eq b a) refl
  where
    at : (same : Bool) → bytes_eq b a ≡ same → bytes_eq b a ≡ false
    at false e = e
    at true e = absurd (let same : true ≡ false = sym (bytes_eq-refl a) ∙ ap (bytes_eq a) (sym (bytes_eq-true b a e)) ∙ h in cc)

pub tells_nothing : (line code rest rcf dis : List ℕ) → fields line ≡ code ∷ fields rest → handling_of code ≡ None → carriage_of code ≡ None
    → rcf ≡ codes "RCF" → bytes_eq code rcf ≡ false → dis ≡ codes "DIS" → bytes_eq code dis ≡ false → status_of line ≡ None
tells_nothing line code rest rcf dis cut h c is_rcf r is_dis d =
    let not_rcf : bytes_eq (codes "RCF") code ≡ false = other_way code (codes "RCF") (ap (bytes_eq code) (sym is_rcf) ∙ r) in
    let not_dis : bytes_eq (codes "DIS") code ≡ false = other_way code (codes "DIS") (ap (bytes_eq code) (sym is_dis) ∙ d) in
    ap status_by cut ∙ by_differs code (fields rest) h c not_rcf ∙ differs_other code (fields rest) not_dis
