-- Which paths lead where.
use Rattle.http_desk.proofs.Common.{Bool, IsName, IsPage, IsPath, LeadsTo, LeadsToPage, List, None, Option, Place, Printout, Some, Verb, [], and_parts, ap, arith, asked_place, bytes_eq, bytes_eq-true, called_again, called_is, codes, cond, false, gets, got_history, got_holder, got_report, got_waybill, has_slash, if◌then◌else◌, inl, inr, is_path_byte, length, list_all, lt-ltb, ltb-true, nat_lt, not, of_every, option_map, page_at, page_named, page_part, page_word, path_of, path_text, place_of, position_or_len, posted_check, posted_command, posted_look, posted_telegram, posts, printout_at, refl, segments, subst, suc, sym, take, take-append_seam, take-length, true, verb_called, word, ℕ, ◌&&◌, ◌++◌, ◌+◌, ◌==◌, ◌↔◌, ◌∙◌, ◌∷◌, ◌≡◌}
use Rattle.http_desk.proofs.Segments.{all_plain, at_three, at_two, found, IsFound}

-- The page of a path.

word_plain : (v : Verb) → has_slash (word v) ≡ false
word_plain v = not_is (has_slash (word v)) (of_every (λ v. not (has_slash (word v))) refl v)
  where
    not_is : (b : Bool) → not b ≡ true → b ≡ false
    not_is true e = cc e
    not_is false e = refl

pub page_there : (place : Place) → IsPage place → page_at (path_text (segments place)) ≡ Some place
page_there (posts (posted_command v)) is =
    at_two page_word page_named page_part (codes "act") (word v) refl (word_plain v) ∙ ap (option_map (λ verb. posts (posted_command verb))) (called_again v)
page_there (posts (posted_check v)) is =
    at_two page_word page_named page_part (codes "check") (word v) refl (word_plain v) ∙ ap (option_map (λ verb. posts (posted_check verb))) (called_again v)
page_there (posts posted_telegram) is = refl
page_there (posts posted_look) is = refl
page_there (gets (got_waybill name)) (some, plain) =
    at_two page_word page_named page_part (codes "waybills") name refl plain
    ∙ ap (λ (v : Bool). if v then Some (gets (got_waybill name)) else None) (lt-ltb 0 (length name) some)
page_there (gets (got_history name)) (some, plain) =
    at_three page_word page_named page_part (codes "waybills") name (codes "history") refl (all_plain name plain)
    ∙ ap (λ (v : Bool). if v then Some (gets (got_history name)) else None) (lt-ltb 0 (length name) some)
page_there (gets (got_holder name)) (some, plain) =
    at_two page_word page_named page_part (codes "stock") name refl plain
    ∙ ap (λ (v : Bool). if v then Some (gets (got_holder name)) else None) (lt-ltb 0 (length name) some)
page_there (gets (got_report p)) is = absurd is

there : (path : List ℕ) (place : Place) → LeadsToPage path place → page_at path ≡ Some place
there path place (is, e) = ap page_at e ∙ page_there place is

-- Only those.

some_is : {A : Type 0} (x y : A) → ◌≡◌ {A = Option A} (Some x) (Some y) → x ≡ y
some_is x y e = cc e

no_some : {A : Type 0} (y : A) → ◌≡◌ {A = Option A} None (Some y) → ⊥
no_some y e = cc e

map_some : {A B : Type 0} (f : A → B) (o : Option A) (y : B) → option_map f o ≡ Some y → (x : A) × (o ≡ Some x) × (f x ≡ y)
map_some f None y e = absurd (no_some y e)
map_some f (Some x) y e = (x, refl, some_is (f x) y e)

-- a test that holds, or the next one
module _ (place : Place) (P : Type 0) where
  either : (v : Bool) (here rest : Option Place) → (v ≡ true → here ≡ Some place → P) → (rest ≡ Some place → P) → (if v then here else rest) ≡ Some place → P
  either true here rest holds next e = holds refl e
  either false here rest holds next e = next e

word_only : (a : List ℕ) (place : Place) → page_word a ≡ Some place → LeadsToPage (path_text (a ∷ [])) place
word_only a place =
    let at : (text : List ℕ) (page : Place) → IsPage page → segments page ≡ text ∷ [] → bytes_eq a text ≡ true → Some page ≡ Some place → LeadsToPage (path_text (a ∷ [])) place =
    λ text page is of same e. subst (LeadsToPage (path_text (a ∷ []))) (some_is page place e) (is, ap (λ (t : List ℕ). path_text (t ∷ [])) (bytes_eq-true a text same) ∙ ap path_text (sym of)) in
    either place (LeadsToPage (path_text (a ∷ [])) place) (bytes_eq a (codes "telegrams")) _ _ (at (codes "telegrams") (posts posted_telegram) tt refl)
    (either place (LeadsToPage (path_text (a ∷ [])) place) (bytes_eq a (codes "read")) _ None (at (codes "read") (posts posted_look) tt refl) (λ e. absurd (no_some place e)))

named_only : (a b : List ℕ) (place : Place) → has_slash b ≡ false → page_named a b ≡ Some place → LeadsToPage (path_text (a ∷ b ∷ [])) place
named_only a b place plain =
    let Goal : Type 0 = LeadsToPage (path_text (a ∷ b ∷ [])) place in
    let at : (kind name : List ℕ) (page : Place) → IsPage page → segments page ≡ kind ∷ name ∷ [] → bytes_eq a kind ≡ true → b ≡ name → page ≡ place → Goal =
    λ kind name page is of same named e. subst (LeadsToPage (path_text (a ∷ b ∷ []))) e
    (is, ap (λ (t : List ℕ). path_text (t ∷ b ∷ [])) (bytes_eq-true a kind same) ∙ ap (λ (t : List ℕ). path_text (kind ∷ t ∷ [])) named ∙ ap path_text (sym of)) in
    let verb : (kind : List ℕ) (page : Verb → Place) → ((v : Verb) → IsPage (page v)) → ((v : Verb) → segments (page v) ≡ kind ∷ word v ∷ []) → bytes_eq a kind ≡ true → option_map page (verb_called b) ≡ Some place → Goal =
    λ kind page is of same e. let told = map_some page (verb_called b) place e in
    at kind (word told.0) (page told.0) (is told.0) (of told.0) same (sym (called_is b told.0 told.1)) told.2 in
    let name : (kind : List ℕ) (page : List ℕ → Place) → (IsName b → IsPage (page b)) → segments (page b) ≡ kind ∷ b ∷ [] → (bytes_eq a kind && nat_lt 0 (length b)) ≡ true → Some (page b) ≡ Some place → Goal =
    λ kind page is of both e. let tests = and_parts (bytes_eq a kind) (nat_lt 0 (length b)) both in
    at kind b (page b) (is (ltb-true 0 (length b) tests.1, plain)) of tests.0 refl (some_is (page b) place e) in
    either place Goal (bytes_eq a (codes "act")) _ _ (verb (codes "act") (λ v. posts (posted_command v)) (λ v. tt) (λ v. refl))
    (either place Goal (bytes_eq a (codes "check")) _ _ (verb (codes "check") (λ v. posts (posted_check v)) (λ v. tt) (λ v. refl))
    (either place Goal (bytes_eq a (codes "waybills") && nat_lt 0 (length b)) _ _ (name (codes "waybills") (λ n. gets (got_waybill n)) (λ is. is) refl)
    (either place Goal (bytes_eq a (codes "stock") && nat_lt 0 (length b)) _ None (name (codes "stock") (λ n. gets (got_holder n)) (λ is. is) refl)
    (λ e. absurd (no_some place e)))))

part_only : (a b c : List ℕ) (place : Place) → has_slash b ≡ false → page_part a b c ≡ Some place → LeadsToPage (path_text (a ∷ b ∷ c ∷ [])) place
part_only a b c place plain =
    let Goal : Type 0 = LeadsToPage (path_text (a ∷ b ∷ c ∷ [])) place in
    either place Goal (bytes_eq a (codes "waybills") && (bytes_eq c (codes "history") && nat_lt 0 (length b))) (Some (gets (got_history b))) None
    (λ tests e.
    let kind = and_parts (bytes_eq a (codes "waybills")) (bytes_eq c (codes "history") && nat_lt 0 (length b)) tests in
    let part = and_parts (bytes_eq c (codes "history")) (nat_lt 0 (length b)) kind.1 in
    subst (LeadsToPage (path_text (a ∷ b ∷ c ∷ []))) (some_is (gets (got_history b)) place e)
    ((ltb-true 0 (length b) part.1, plain), ap (λ (t : List ℕ). path_text (t ∷ b ∷ c ∷ [])) (bytes_eq-true a (codes "waybills") kind.0) ∙ ap (λ (t : List ℕ). path_text (codes "waybills" ∷ b ∷ t ∷ [])) (bytes_eq-true c (codes "history") part.0)))
    (λ e. absurd (no_some place e))

only_there : (path : List ℕ) (place : Place) → page_at path ≡ Some place → LeadsToPage path place
only_there path place e = of (found page_word page_named page_part path place e)
  where
    of : IsFound page_word page_named page_part path place → LeadsToPage path place
    of (inl (a, is, at)) = subst (λ (p : List ℕ). LeadsToPage p place) (sym is) (word_only a place at)
    of (inr (inl (a, b, is, plain, at))) = subst (λ (p : List ℕ). LeadsToPage p place) (sym is) (named_only a b place plain at)
    of (inr (inr (a, b, c, is, plain, at))) = subst (λ (p : List ℕ). LeadsToPage p place) (sym is) (part_only a b c place plain at)

-- A query after a question mark isn't part of the path.

no_mark : (b : ℕ) → is_path_byte b ≡ true → not (b == 63) ≡ true
no_mark b h = (and_parts (nat_lt b 256) (not (b == 63)) h).1

suc_is : (n m : ℕ) → n ≡ m → 1 + n ≡ suc m
suc_is n m e = omega (arith, e)

mark_is : (path query : List ℕ) → IsPath path → position_or_len (λ b. b == 63) (path ++ 63 ∷ query) ≡ length path
mark_is [] query all = refl
mark_is (b ∷ bs) query all =
    let parts = and_parts (is_path_byte b) (list_all is_path_byte bs) all in
    ap (λ (t : Bool). cond t (1 + position_or_len (λ b. b == 63) (bs ++ 63 ∷ query)) 0) (no_mark b parts.0)
    ∙ suc_is _ (length bs) (mark_is bs query parts.1)

no_mark_is : (path : List ℕ) → IsPath path → position_or_len (λ b. b == 63) path ≡ length path
no_mark_is [] all = refl
no_mark_is (b ∷ bs) all =
    let parts = and_parts (is_path_byte b) (list_all is_path_byte bs) all in
    ap (λ (t : Bool). cond t (1 + position_or_len (λ b. b == 63) bs) 0) (no_mark b parts.0)
    ∙ suc_is _ (length bs) (no_mark_is bs parts.1)

path_is : (path : List ℕ) → IsPath path → path_of path ≡ path
path_is path all = ap (λ n. take n path) (no_mark_is path all) ∙ take-length path

path_before : (path query : List ℕ) → IsPath path → path_of (path ++ 63 ∷ query) ≡ path
path_before path query all = ap (λ n. take n (path ++ 63 ∷ query)) (mark_is path query all) ∙ take-append_seam path (63 ∷ query)

-- A path that leads to no page asks for rows, or leads nowhere.

pub place_is : (path : List ℕ) → IsPath path → place_of path ≡ asked_place (page_at path) path
place_is path all = ap (λ p. asked_place (page_at p) p) (path_is path all)

asked_only : (path : List ℕ) (place : Place) (page : Option Place) → page_at path ≡ page → asked_place page path ≡ Some place → LeadsTo path place
asked_only path place (Some page) is e = inl (only_there path place (is ∙ e))
asked_only path place None is e =
    let told = map_some (λ (p : Printout). gets (got_report p)) (printout_at path) place e in
    inr (record {
      no_page = λ page leads. no_some page (sym is ∙ there path page leads);
      printout = told.0;
      asks = told.1;
      is = sym told.2;
    })

asked_there : (path : List ℕ) (place : Place) (page : Option Place) → page_at path ≡ page → LeadsTo path place → asked_place page path ≡ Some place
asked_there path place (Some page) is (inl leads) = sym is ∙ there path place leads
asked_there path place (Some page) is (inr rows) = absurd (rows.no_page page (only_there path page is))
asked_there path place None is (inl leads) = absurd (no_some place (sym is ∙ there path place leads))
asked_there path place None is (inr rows) = ap (option_map (λ (p : Printout). gets (got_report p))) rows.asks ∙ ap Some (sym rows.is)

pub leads : (path : List ℕ) (place : Place) → IsPath path → (place_of path ≡ Some place) ↔ LeadsTo path place
leads path place all = (
  λ e. asked_only path place (page_at path) refl (sym (place_is path all) ∙ e),
  λ leads. place_is path all ∙ asked_there path place (page_at path) refl leads,
)

pub query_off : (path query : List ℕ) → IsPath path → place_of (path ++ 63 ∷ query) ≡ place_of path
query_off path query all = ap (λ p. asked_place (page_at p) p) (path_before path query all ∙ sym (path_is path all))
