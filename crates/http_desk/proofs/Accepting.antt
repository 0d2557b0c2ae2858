-- The answer to an accepted input, piece by piece.
use Rattle.http_desk.proofs.Common.{List, None, ap, append_assoc, arith, codes, compact_text, decimal, json_answer, length, length-decimal-le, ok_data, refl, status_line, sym, ℕ, ◌++◌, ◌<◌, ◌^◌, ◌∙◌, ◌≡◌, ◌≤◌}
use Rattle.std.specs.Fmt.{digits}
use Rattle.serde_json.proofs.OnLiterals.{serde_json_on_literals}

-- a count has at most ten digits, and the length of the body few
pub ten_digits : (n : ℕ) → n < 2 ^ 32 → length (decimal n) ≤ 10
ten_digits n lt = length-decimal-le 10 n (omega arith) (omega (arith, lt)) (omega (arith, lt))

pub two_digits : (n : ℕ) → n ≤ 33 → length (decimal n) ≤ 2
two_digits n le = length-decimal-le 2 n (omega arith) (omega (arith, le)) (omega (arith, le))

-- the body
pub body_is : (count : ℕ) (first second third : List ℕ) → first ≡ codes "{\"count\":" → second ≡ first ++ decimal count → third ≡ second ++ codes ",\"reply\":\"ok\"}" → third ≡ compact_text (ok_data count)
unfolding serde_json_on_literals
body_is count first second third front number behind =
    behind ∙ ap (λ l. l ++ codes ",\"reply\":\"ok\"}") (number ∙ ap (λ l. l ++ decimal count) front) ∙ append_assoc (codes "{\"count\":") (decimal count) (codes ",\"reply\":\"ok\"}")

ok_line : status_line 200 ≡ codes "HTTP/1.1 200 OK\r\n"
unfolding digits
ok_line = refl

joined : (a b d e x : List ℕ) → (((a ++ b) ++ d) ++ e) ++ x ≡ a ++ ((b ++ (d ++ e)) ++ x)
joined a b d e x = simp append_assoc

-- the whole answer
pub answer_is : (n : ℕ) (body first second third fourth : List ℕ) → n ≡ length body → first ≡ codes "HTTP/1.1 200 OK\r\nContent-Type: application/json\r\nContent-Length: "
    → second ≡ first ++ decimal n → third ≡ second ++ codes "\r\nConnection: close\r\n\r\n" → fourth ≡ third ++ body → fourth ≡ json_answer 200 None body
answer_is n body first second third fourth len front number behind rest =
    let line : List ℕ = codes "HTTP/1.1 200 OK\r\n" in
    let fields : List ℕ = codes "Content-Type: application/json\r\nContent-Length: " in
    let close : List ℕ = codes "\r\nConnection: close\r\n\r\n" in
    rest ∙ ap (λ l. l ++ body) (behind ∙ ap (λ l. l ++ close) (number ∙ ap (λ l. l ++ decimal n) front))
    ∙ joined line fields (decimal n) close body
    ∙ (λ i. sym ok_line i ++ ((fields ++ (decimal (len i) ++ close)) ++ body))
