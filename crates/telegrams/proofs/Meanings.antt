-- Bytes mean a telegram exactly where they have no fault, and then one telegram only.
use Rattle.telegrams.proofs.Common.{Err, IsTelegram, List, Meant, None, Ok, Option, Result, Says, Some, TextFault, ap, cargo_line, fault_by, first_kind, kind_said, message_fault, normal_lines, normal_text, part_content, refl, status_content, subst, sym, telegram_fault, ℕ, ◌∙◌, ◌≡◌}
use Rattle.imp_fields.specs.declared.line.MessageKind.{MessageKind}
use Rattle.imp_fields.specs.declared.line.MessageKind.TheVariants as kinds
use Rattle.fwb_text.proofs.Laws as fwb
use Rattle.ffm_text.proofs.Laws as ffm
use Rattle.fsu_text.proofs.Laws as fsu
use Rattle.telegrams.specs.declared.telegram.Content.{Content}
use Rattle.telegrams.specs.declared.telegram.Content.TheVariants as content

said_has_no_fault : (lines : List (List ℕ)) (c : Content) → Says lines c → message_fault (Some (kind_said c)) lines ≡ None
said_has_no_fault lines (content.Fwb c) h = fwb.read_has_no_fault lines h.0 h.1
said_has_no_fault lines (content.Ffm p) h = ffm.read_has_no_fault lines h.0 h.1
said_has_no_fault lines (content.Fsu t) h = fsu.read_has_no_fault lines h.0 h.1

pub meant_has_no_fault : (bytes : List ℕ) (t : Meant) → IsTelegram bytes t → telegram_fault bytes ≡ None
meant_has_no_fault bytes t h =
    ap fault_by h.normal ∙ ap (λ k. message_fault k h.lines) h.kind ∙ said_has_no_fault h.lines t.content h.content

telegram : List (List ℕ) → Content → Meant
telegram lines c = record { text = normal_text lines; content = c }

meant_of_kind : (bytes : List ℕ) (lines : List (List ℕ)) → normal_lines bytes ≡ Ok lines → (k : Option MessageKind) → first_kind lines ≡ k
    → message_fault k lines ≡ None → (t : Meant) × IsTelegram bytes t
unfolding telegram
meant_of_kind bytes lines normal None kind e = absurd cc
meant_of_kind bytes lines normal (Some kinds.Fwb) kind e =
    let read = fwb.faultless_is_read lines e in
    (telegram lines (content.Fwb (cargo_line read.0)), record { lines = lines; normal = normal; text = refl; kind = kind; content = (read.0, read.1, refl) })
meant_of_kind bytes lines normal (Some kinds.Ffm) kind e =
    let read = ffm.faultless_is_read lines e in
    (telegram lines (content.Ffm (part_content read.0)), record { lines = lines; normal = normal; text = refl; kind = kind; content = (read.0, read.1, refl) })
meant_of_kind bytes lines normal (Some kinds.Fsu) kind e =
    let read = fsu.faultless_is_read lines e in
    (telegram lines (content.Fsu (status_content read.0)), record { lines = lines; normal = normal; text = refl; kind = kind; content = (read.0, read.1, refl) })

meant_by : (bytes : List ℕ) (r : Result (List (List ℕ)) TextFault) → normal_lines bytes ≡ r → fault_by r ≡ None → (t : Meant) × IsTelegram bytes t
meant_by bytes (Ok lines) normal e = meant_of_kind bytes lines normal (first_kind lines) refl e
meant_by bytes (Err told) normal e = absurd cc

pub faultless_is_meant : (bytes : List ℕ) → telegram_fault bytes ≡ None → (t : Meant) × IsTelegram bytes t
faultless_is_meant bytes e = meant_by bytes (normal_lines bytes) refl e

abbrev done : List (List ℕ) → Result (List (List ℕ)) TextFault
done lines = Ok lines

same_lines : (a b : List (List ℕ)) → done a ≡ done b → a ≡ b
same_lines a b e = cc

abbrev of_kind : MessageKind → Option MessageKind
of_kind k = Some k

one_content : (lines : List (List ℕ)) (c d : Content) → Says lines c → Says lines d → of_kind (kind_said c) ≡ of_kind (kind_said d) → c ≡ d
one_content lines (content.Fwb c) (content.Fwb d) g h e = ap content.Fwb (g.2 ∙ ap cargo_line (fwb.one_reading lines g.0 h.0 g.1 h.1) ∙ sym h.2)
one_content lines (content.Ffm p) (content.Ffm q) g h e = ap content.Ffm (g.2 ∙ ap part_content (ffm.one_reading lines g.0 h.0 g.1 h.1) ∙ sym h.2)
one_content lines (content.Fsu t) (content.Fsu u) g h e = ap content.Fsu (g.2 ∙ ap status_content (fsu.one_reading lines g.0 h.0 g.1 h.1) ∙ sym h.2)
one_content lines (content.Fwb c) (content.Ffm q) g h e = absurd cc
one_content lines (content.Fwb c) (content.Fsu u) g h e = absurd cc
one_content lines (content.Ffm p) (content.Fwb d) g h e = absurd cc
one_content lines (content.Ffm p) (content.Fsu u) g h e = absurd cc
one_content lines (content.Fsu t) (content.Fwb d) g h e = absurd cc
one_content lines (content.Fsu t) (content.Ffm q) g h e = absurd cc

pub one_meaning : (bytes : List ℕ) (s t : Meant) → IsTelegram bytes s → IsTelegram bytes t → s ≡ t
one_meaning bytes s t g h =
    let lines : h.lines ≡ g.lines = same_lines h.lines g.lines (sym h.normal ∙ g.normal) in
    let text : s.text ≡ t.text = g.text ∙ sym (ap normal_text lines) ∙ sym h.text in
    let said : Says g.lines t.content = subst (λ l. Says l t.content) lines h.content in
    let kind : of_kind (kind_said s.content) ≡ of_kind (kind_said t.content) = sym g.kind ∙ sym (ap first_kind lines) ∙ h.kind in
    let same : s.content ≡ t.content = one_content g.lines s.content t.content g.content said kind in
    λ i. record { text = text i; content = same i }
