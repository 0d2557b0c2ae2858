-- The four parts of a waybill's members are its text.
use Rattle.http_desk.proofs.Common.{List, Waybill, ap, append_assoc, boolean, codes, compact_text, number_text, pair_data, string, waybill_data, ℕ, ◌++◌, ◌∙◌, ◌≡◌}
use Rattle.serde_json.proofs.OnLiterals.{serde_json_on_literals}
use Rattle.http_desk.specs.Came.{first_members, second_members, third_members, last_members}

three_more : (j a k b l c m x : List ℕ) → (j ++ (a ++ (k ++ (b ++ (l ++ (c ++ m)))))) ++ x ≡ j ++ (a ++ (k ++ (b ++ (l ++ (c ++ (m ++ x))))))
three_more j a k b l c m x = simp append_assoc

-- three members, and what stands behind them
abbrev three : (j a k b l c m x : List ℕ) → List ℕ
three j a k b l c m x = j ++ (a ++ (k ++ (b ++ (l ++ (c ++ (m ++ x))))))

pub whole : (w : ℕ) (known : Waybill) → first_members w known ++ (second_members known ++ (third_members known ++ last_members known)) ≡ compact_text (waybill_data w known)
unfolding serde_json_on_literals
whole w known =
    let text : List ℕ → List ℕ = λ s. compact_text (string s) in
    let rest : List ℕ = last_members known in
    let third = three_more (codes "\"missing\":") (compact_text (pair_data known.missing)) (codes ",\"notified\":") (compact_text (boolean known.declared.notified)) (codes ",\"origin\":") (text known.declared.origin) (codes ",") rest in
    let second = three_more (codes "\"destination\":") (text known.declared.destination) (codes ",\"found\":") (compact_text (pair_data known.found)) (codes ",\"goods\":") (text known.declared.goods) (codes ",") (third_members known ++ rest) in
    let first = three_more (codes "{\"awb\":") (text (number_text w)) (codes ",\"delivered\":") (compact_text (pair_data known.delivered)) (codes ",\"departed\":") (compact_text (pair_data known.departed)) (codes ",") (second_members known ++ (third_members known ++ rest)) in
    first ∙ ap (λ x. three (codes "{\"awb\":") (text (number_text w)) (codes ",\"delivered\":") (compact_text (pair_data known.delivered)) (codes ",\"departed\":") (compact_text (pair_data known.departed)) (codes ",") x)
    (second ∙ ap (λ x. three (codes "\"destination\":") (text known.declared.destination) (codes ",\"found\":") (compact_text (pair_data known.found)) (codes ",\"goods\":") (text known.declared.goods) (codes ",") x) third)
