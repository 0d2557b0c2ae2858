-- Each line is seen once, and says what is read of it.
use Rattle.input_reasons.proofs.Common.{AreNumbered, AreRead, Bool, Content, InboundLine, IsLook, IsReadFrom, IsTrue, LinePart, List, MatchBool, None, Ok, Result, SeenLine, Some, TextFault, [], ap, cargo_of, cond, cons_option, drop, dropped_line, dropped_texts, false, filter_map, is_some, left_behind, length, lines_of, loaded_by, loaded_in, loaded_part, lower_lines, map, not, refl, seen_line, seen_lines, seen_texts, subst, sym, true, ℕ, ◌++◌, ◌+◌, ◌==◌, ◌∙◌, ◌∷◌, ◌≡◌}
use Rattle.imp_fields.specs.Message.{consignment_of}
use Rattle.ffm_text.specs.Ffm.{IsCargo, Manifest, Unloaded, is_cargo_line, last_point, unloading_point}
use Rattle.shipment_machine.specs.declared.command.CargoLine.{CargoLine}
use Rattle.telegrams.specs.Meaning.{Says, inbound_line, part_content}
use Rattle.telegrams.specs.declared.telegram.Content.TheVariants as content
use Rattle.telegrams.specs.declared.telegram.PartContent.{PartContent}
use Rattle.telegrams.specs.declared.telegram.StatusContent.{StatusContent}
use Rattle.input_reasons.specs.declared.look.LinePart.TheVariants as part
use Rattle.input_reasons.specs.declared.look.Look.{Look}

-- ---- each line once, and numbered

lower_texts : (says : Content) (n : ℕ) (left : List InboundLine) (lines : List (List ℕ)) → seen_texts (lower_lines says n left lines) ≡ lines
lower_texts says n left [] = refl
lower_texts says n left (line ∷ lines) = ap (λ ls. line ∷ ls) (lower_texts says (n + 1) (left_behind line left) lines)

all_texts : (says : Content) (lines : List (List ℕ)) → seen_texts (seen_lines says lines) ≡ lines
all_texts says [] = refl
all_texts says (head ∷ []) = refl
all_texts says (head ∷ second ∷ lower) = ap (λ ls. head ∷ second ∷ ls) (lower_texts says 3 (cargo_of says) lower)

front_texts : (front : List (List ℕ)) → dropped_texts (map dropped_line front) ≡ front
front_texts [] = refl
front_texts (line ∷ front) = ap (λ ls. line ∷ ls) (front_texts front)

pub each_once : (bytes : List ℕ) (look : Look) → IsLook bytes look → dropped_texts look.dropped.items ++ seen_texts look.lines.items ≡ lines_of bytes
each_once bytes look h =
    (λ k. (ap dropped_texts h.dropped ∙ front_texts h.front) k ++ (ap seen_texts h.seen ∙ all_texts look.telegram.content h.lines) k) ∙ h.whole

lower_numbers : (says : Content) (n : ℕ) (left : List InboundLine) (lines : List (List ℕ)) → AreNumbered n (lower_lines says n left lines)
lower_numbers says n left [] = tt
lower_numbers says n left (line ∷ lines) = (refl, lower_numbers says (n + 1) (left_behind line left) lines)

all_numbers : (says : Content) (lines : List (List ℕ)) → AreNumbered 1 (seen_lines says lines)
all_numbers says [] = tt
all_numbers says (head ∷ []) = (refl, tt)
all_numbers says (head ∷ second ∷ lower) = (refl, (refl, lower_numbers says 3 (cargo_of says) lower))

pub numbered : (bytes : List ℕ) (look : Look) → IsLook bytes look → AreNumbered 1 look.lines.items
numbered bytes look h = subst (AreNumbered 1) (sym h.seen) (all_numbers look.telegram.content h.lines)

-- ---- what is read of each line

-- what is neither a line of cargo nor read
plain_part : (text : List ℕ) (point last : Bool) → IsReadFrom text (cond point part.Point (cond last part.Last part.Passed))
plain_part text true last = tt
plain_part text false true = tt
plain_part text false false = tt

no_cargo : (point last : Bool) → loaded_in (cond point part.Point (cond last part.Last part.Passed)) ≡ None
no_cargo true last = refl
no_cargo false true = refl
no_cargo false false = refl

-- lines of a manifest, of which this cargo is read
record SayCargo (cargo : List InboundLine) (lines : List SeenLine) : Type 0 where
  read : AreRead lines
  loaded : filter_map loaded_by lines ≡ cargo

-- a line in front of them, by whether it is a line of cargo
abbrev part_by : Bool → List InboundLine → List ℕ → Bool → LinePart
part_by cargo left line last = cond cargo (loaded_part left) (cond (is_some (unloading_point line)) part.Point (cond last part.Last part.Passed))

abbrev left_by : Bool → List InboundLine → List InboundLine
left_by cargo left = cond cargo (drop 1 left) left

abbrev lines_by : Bool → PartContent → ℕ → List InboundLine → List ℕ → List (List ℕ) → List SeenLine
lines_by cargo p n left line below =
    seen_line n (part_by cargo left line (length below == 0)) line ∷ lower_lines (content.Ffm p) (n + 1) (left_by cargo left) below

plain_line : (p : PartContent) (n : ℕ) (left : List InboundLine) (line : List ℕ) (below : List (List ℕ)) → SayCargo left (lower_lines (content.Ffm p) (n + 1) left below)
    → SayCargo left (lines_by false p n left line below)
plain_line p n left line below h =
    record {
      read = (plain_part line (is_some (unloading_point line)) (length below == 0), h.read);
      loaded =
          ap (λ o. cons_option o (filter_map loaded_by (lower_lines (content.Ffm p) (n + 1) left below))) (no_cargo (is_some (unloading_point line)) (length below == 0))
          ∙ h.loaded;
    }

abbrev Below : PartContent → ℕ → List (List ℕ) → List (List ℕ) → Type 0
Below p n above below = (cargo : List Unloaded) → IsCargo above below cargo → SayCargo (map inbound_line cargo) (lower_lines (content.Ffm p) n (map inbound_line cargo) below)

none_left : (test : Bool) (p : PartContent) (n : ℕ) (line : List ℕ) (above below : List (List ℕ)) → Below p (n + 1) above below → IsTrue (not test) → IsCargo above below []
    → SayCargo [] (lines_by test p n [] line below)
none_left true p n line above below next fails h = absurd cc
none_left false p n line above below next fails h = plain_line p n [] line below (next [] h)

some_left : (test : Bool) (p : PartContent) (n : ℕ) (line : List ℕ) (above below : List (List ℕ)) (u : Unloaded) (cargo : List Unloaded) (Point : Type 0) → Below p (n + 1) above below
    → MatchBool test ((consignment_of line ≡ Ok u.shipment) × Point × IsCargo above below cargo) (IsCargo above below (u ∷ cargo))
    → SayCargo (map inbound_line (u ∷ cargo)) (lines_by test p n (map inbound_line (u ∷ cargo)) line below)
some_left true p n line above below u cargo Point next h =
    let rest = next cargo h.2 in
    record { read = ((u.shipment, h.0, refl), rest.read); loaded = ap (λ ls. inbound_line u ∷ ls) rest.loaded }
some_left false p n line above below u cargo Point next h = plain_line p n (map inbound_line (u ∷ cargo)) line below (next (u ∷ cargo) h)

lower_cargo : (p : PartContent) (n : ℕ) (above below : List (List ℕ)) → Below p n above below
lower_cargo p n above [] [] h = record { read = tt; loaded = refl }
lower_cargo p n above [] (u ∷ cargo) h = absurd h
lower_cargo p n above (line ∷ below) [] h =
    none_left (is_cargo_line line) p n line (above ++ line ∷ []) below (lower_cargo p (n + 1) (above ++ line ∷ []) below) h.0 h.1
lower_cargo p n above (line ∷ below) (u ∷ cargo) h =
    some_left (is_cargo_line line) p n line (above ++ line ∷ []) below u cargo (last_point above ≡ Some u.unload) (lower_cargo p (n + 1) (above ++ line ∷ []) below) h

-- the lines below the second of a manifest
manifest_lines : (p : PartContent) (m : Manifest) (below : List (List ℕ)) → p ≡ part_content m → IsCargo [] below m.cargo
    → SayCargo p.lines (lower_lines (content.Ffm p) 3 p.lines below)
manifest_lines p m below same h =
    let cargo : map inbound_line m.cargo ≡ p.lines = ap (λ (q : PartContent). q.lines) (sym same) in
    subst (λ left. SayCargo left (lower_lines (content.Ffm p) 3 left below)) cargo (lower_cargo p 3 [] below m.cargo h)

lower_passed : (c : CargoLine) (n : ℕ) (left : List InboundLine) (lines : List (List ℕ)) → AreRead (lower_lines (content.Fwb c) n left lines)
lower_passed c n left [] = tt
lower_passed c n left (line ∷ lines) = (tt, lower_passed c (n + 1) (left_behind line left) lines)

lower_kept : (t : StatusContent) (n : ℕ) (left : List InboundLine) (lines : List (List ℕ)) → AreRead (lower_lines (content.Fsu t) n left lines)
lower_kept t n left [] = tt
lower_kept t n left (line ∷ lines) = (tt, lower_kept t (n + 1) (left_behind line left) lines)

all_read : (says : Content) (lines : List (List ℕ)) → Says lines says → AreRead (seen_lines says lines)
all_read (content.Fwb c) [] h = absurd h.1
all_read (content.Fwb c) (head ∷ []) h = absurd h.1
all_read (content.Fwb c) (head ∷ line ∷ lower) h = (tt, ((h.0, h.1.1, h.2), lower_passed c 3 [] lower))
all_read (content.Ffm p) [] h = absurd h.1
all_read (content.Ffm p) (head ∷ []) h = absurd h.1
all_read (content.Ffm p) (head ∷ flight ∷ below) h = (tt, (tt, (manifest_lines p h.0 below h.2 h.1.2).read))
all_read (content.Fsu t) [] h = tt
all_read (content.Fsu t) (head ∷ []) h = (tt, tt)
all_read (content.Fsu t) (head ∷ line ∷ lower) h = (tt, (tt, lower_kept t 3 [] lower))

all_loaded : (p : PartContent) (lines : List (List ℕ)) → Says lines (content.Ffm p) → filter_map loaded_by (seen_lines (content.Ffm p) lines) ≡ p.lines
all_loaded p [] h = absurd h.1
all_loaded p (head ∷ []) h = absurd h.1
all_loaded p (head ∷ flight ∷ below) h = (manifest_lines p h.0 below h.2 h.1.2).loaded

-- ---- of what is seen

abbrev done : List (List ℕ) → Result (List (List ℕ)) TextFault
done lines = Ok lines

same_lines : (a b : List (List ℕ)) → done a ≡ done b → a ≡ b
same_lines a b e = cc

says : (bytes : List ℕ) (look : Look) (h : IsLook bytes look) → Says h.lines look.telegram.content
says bytes look h =
    subst (λ lines. Says lines look.telegram.content) (same_lines h.telegram.lines h.lines (sym h.telegram.normal ∙ h.normal)) h.telegram.content

pub read_of : (bytes : List ℕ) (look : Look) → IsLook bytes look → AreRead look.lines.items
read_of bytes look h = subst AreRead (sym h.seen) (all_read look.telegram.content h.lines (says bytes look h))

pub loaded_of : (bytes : List ℕ) (look : Look) (p : PartContent) → IsLook bytes look → look.telegram.content ≡ content.Ffm p → filter_map loaded_by look.lines.items ≡ p.lines
loaded_of bytes look p h same =
    ap (filter_map loaded_by) (h.seen ∙ ap (λ c. seen_lines c h.lines) same) ∙ all_loaded p h.lines (subst (Says h.lines) same (says bytes look h))
