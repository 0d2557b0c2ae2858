-- A desk reads the request of a command as what it is.
use Rattle.desk_client.proofs.Common.{Bool, Err, Got, HasPath, Head, HeadAsks, IsPathOf, List, None, Ok, Option, Posted, ReadsRequest, RequestHead, Some, Verb, [], and_from, and_parts, ap, append_assoc, arith, codes, command_head, command_lines, decimal, decimal_nonempty, decimal_value, drop, drop-append_seam, get_request, gets, head_asks, if◌then◌else◌, is_digit, is_number, is_ows, is_value_byte, key_line, key_of, le-leb, leb-true, length, length-append, length-decimal-le, length_in, list_all, looks_up, lt-ltb, map, most_path, name_and_value, nat_le, nat_tests, not, place_asks, place_of, posted_command, posted_telegram, posts, refl, reverse, sends, sends_body, subst, sym, take, take-append-add, telegram_head, true, where_true, within_length, word, ℕ, ◌&&◌, ◌++◌, ◌+◌, ◌-◌, ◌<◌, ◌^◌, ◌∙◌, ◌∷◌, ◌≡◌, ◌≤◌}
use Rattle.std.specs.Char.{is_ascii_graphic}
use Rattle.std.proofs.lemmas.List.Sums.{AllPass-from_list_all, list_all-from_AllPass}
use Rattle.httparse.specs.Grammar.{is_token_byte}
use Rattle.httparse.proofs.TrimLemmas.{AllPass-reverse}
use Rattle.http1.specs.Fields.{Header}
use Rattle.http1.specs.Head.{starts_visible, is_trimmed_value, are_headers, is_request_line, head_refusal, request_head, request_text, print_headers, section_text}
use Rattle.http1.proofs.HeadLemmas.{request_text_is}
use Rattle.http1.proofs.HeadRoundTrip.{RequestReadsBack, request_reads_back}
use Rattle.imp_fields.proofs.WrittenLaws.{decimal_digits}
use Rattle.desk_commands.proofs.Words.{of_every}
use Rattle.station_core.specs.Readers.{is_key, is_key_byte}
use Rattle.http_desk.proofs.Printed.{writes}
use Rattle.http_desk.proofs.Segments.{all_weaker}
use Rattle.http_desk.specs.Reply.{HasHead}
use Rattle.desk_client.specs.Printed.{IsRead}

abbrev fields_of : List ℕ → List ℕ → List Header
fields_of key count = (codes "Host", codes "127.0.0.1") ∷ (codes "Connection", codes "close") ∷ (codes "Request-Key", key) ∷ (codes "Content-Length", count) ∷ []

abbrev target_of : List ℕ → List ℕ
target_of name = codes "/v1/act/" ++ name

-- the bytes

count_tail : (count : List ℕ) → ((count ++ (13 ∷ 10 ∷ [])) ++ []) ++ (13 ∷ 10 ∷ []) ≡ count ++ codes "\r\n\r\n"
count_tail count = append_assoc (count ++ (13 ∷ 10 ∷ [])) [] (13 ∷ 10 ∷ []) ∙ append_assoc count (13 ∷ 10 ∷ []) (13 ∷ 10 ∷ [])

tail_is : (key count : List ℕ)
    → ((key ++ (13 ∷ 10 ∷ [])) ++ (codes "Content-Length: " ++ ((count ++ (13 ∷ 10 ∷ [])) ++ []))) ++ (13 ∷ 10 ∷ [])
    ≡ (key ++ (13 ∷ 10 ∷ [])) ++ (codes "Content-Length: " ++ (count ++ codes "\r\n\r\n"))
tail_is key count =
    append_assoc (key ++ (13 ∷ 10 ∷ [])) (codes "Content-Length: " ++ ((count ++ (13 ∷ 10 ∷ [])) ++ [])) (13 ∷ 10 ∷ [])
    ∙ ap (λ l. (key ++ (13 ∷ 10 ∷ [])) ++ (codes "Content-Length: " ++ l)) (count_tail count)

lines_are : (name key count : List ℕ)
    → section_text (codes "POST" ++ (32 ∷ (target_of name ++ (codes " HTTP/1." ++ (49 ∷ 13 ∷ 10 ∷ []))))) (fields_of key count)
    ≡ command_lines name ++ (key_line key ++ (codes "Content-Length: " ++ (count ++ codes "\r\n\r\n")))
lines_are name key count =
    let crlf : List ℕ = 13 ∷ 10 ∷ [] in
    let behind : List ℕ = (key ++ crlf) ++ (codes "Content-Length: " ++ (count ++ codes "\r\n\r\n")) in
    ap (λ l. codes "POST /v1/act/" ++ l)
    (append_assoc name (codes " HTTP/1.1\r\n") (print_headers (fields_of key count) ++ crlf)
    ∙ ap (λ l. name ++ (codes " HTTP/1.1\r\nHost: 127.0.0.1\r\nConnection: close\r\nRequest-Key: " ++ l)) (tail_is key count)
    ∙ sym (append_assoc name (codes " HTTP/1.1\r\nHost: 127.0.0.1\r\nConnection: close\r\n") (codes "Request-Key: " ++ behind)))

text_is : (name key : List ℕ) (n : ℕ) → request_text (codes "POST") (target_of name) 1 (fields_of key (decimal n)) ≡ command_head name key n
text_is name key n = sym (request_text_is (codes "POST") (target_of name) 1 (fields_of key (decimal n))) ∙ lines_are name key (decimal n)

-- a value of bytes that are shown

abbrev is_shown : ℕ → Bool
is_shown b = not (is_ows b) && is_value_byte b

visible : (xs : List ℕ) → list_all is_shown xs ≡ true → starts_visible xs ≡ true
visible [] all = refl
visible (b ∷ bs) all = (and_parts _ _ (and_parts (is_shown b) (list_all is_shown bs) all).0).0

trimmed : (xs : List ℕ) → list_all is_shown xs ≡ true → is_trimmed_value xs ≡ true
trimmed xs all =
    let back : list_all is_shown (reverse xs) ≡ true = list_all-from_AllPass is_shown (reverse xs) (AllPass-reverse is_shown xs (AllPass-from_list_all is_shown xs all)) in
    and_from _ _ (visible xs all) (and_from _ _ (visible (reverse xs) back)
    (all_weaker is_shown is_value_byte (λ b h. (and_parts (not (is_ows b)) (is_value_byte b) h).1) xs all))

key_shown : (b : ℕ) → is_key_byte b ≡ true → is_shown b ≡ true
key_shown b h = grind (arith, nat_tests)

digit_shown : (b : ℕ) → is_digit b ≡ true → is_shown b ≡ true
digit_shown b h = grind (arith, nat_tests)

-- the head may be written

line_good : (v : Verb) → is_request_line (codes "POST") (target_of (word v)) 1 ≡ true
unfolding is_token_byte
line_good v = of_every (λ v. is_request_line (codes "POST") (target_of (word v)) 1) refl v

headers_good : (key count : List ℕ) → is_trimmed_value key ≡ true → is_trimmed_value count ≡ true → are_headers (fields_of key count) ≡ true
unfolding are_headers is_token_byte
headers_good key count k n = and_from _ _ k (and_from _ _ n refl)

refused_if : (line : Bool) (hs : List Header) → line ≡ true → are_headers hs ≡ true → head_refusal line hs ≡ None
refused_if line hs l h = rw (l, h) refl

-- the length

length_read : (n : ℕ) → n ≤ 65_536 → length_in (decimal n) ≡ Ok n
length_read n le =
    let wide : n < 2 ^ 64 = omega (arith, le) in
    let few : length (decimal n) ≤ 10 = length-decimal-le 10 n (omega arith) (omega (arith, le)) wide in
    let some : 1 ≤ length (decimal n) = decimal_nonempty n wide in
    let is : is_number (decimal n) ≡ true = and_from _ _ (and_from _ _ (le-leb 1 (length (decimal n)) some) (le-leb (length (decimal n)) 10 few)) (decimal_digits n wide) in
    ap (λ t. within_length (where_true t (decimal_value (decimal n)))) is
    ∙ ap (λ m. within_length (Some m)) (writes n wide).value
    ∙ ap (λ t. if t then Ok n else Err (record { status = 413; word = []; allow = None })) (le-leb n 65_536 le)

-- what the head asks

abbrev head_with : List ℕ → List ℕ → List ℕ → Head
head_with name key count = record { method = codes "POST"; target = target_of name; fields = fields_of key count }

asked : (v : Verb) (key : List ℕ) (n : ℕ) → n ≤ 65_536 → place_of (target_of (word v)) ≡ Some (posts (posted_command v))
    → head_asks (head_with (word v) key (decimal n)) ≡ sends (posted_command v) n
asked v key n le place =
    ap (place_asks (head_with (word v) key (decimal n))) place ∙ ap (sends_body (posted_command v)) (length_read n le)

keyed : (key count : List ℕ) → is_key key ≡ true → key_of (fields_of key count) ≡ Some key
keyed key count is = ap (λ t. if t then Some key else None) is

name_short : (v : Verb) → length (word v) ≤ 20
name_short v = leb-true _ _ (of_every (λ v. nat_le (length (word v)) 20) refl v)

head_short : (name key count : List ℕ) → length name ≤ 20 → length key ≤ 40 → length count ≤ 20
    → length (command_lines name ++ (key_line key ++ (codes "Content-Length: " ++ (count ++ codes "\r\n\r\n")))) ≤ 16_384
head_short name key count a b d =
    omega (
      arith,
      a,
      b,
      d,
      length-append (name ++ codes " HTTP/1.1\r\nHost: 127.0.0.1\r\nConnection: close\r\n") (key_line key ++ (codes "Content-Length: " ++ (count ++ codes "\r\n\r\n"))),
      length-append name (codes " HTTP/1.1\r\nHost: 127.0.0.1\r\nConnection: close\r\n"),
      length-append (key ++ codes "\r\n") (codes "Content-Length: " ++ (count ++ codes "\r\n\r\n")),
      length-append key (codes "\r\n"),
      length-append count (codes "\r\n\r\n"),
    )

-- the head of bytes that begin with its text
has_head : (front body : List ℕ) (h : RequestHead) → ((rest : List ℕ) → ReadsRequest (front ++ rest) h rest) → length front ≤ 16_384 → length h.fields ≤ 64 → HasHead (front ++ body) h
has_head front body h reads short few =
    let room : length front + (16_384 - length front) ≡ 16_384 = omega (arith, short) in
    let cut : take 16_384 (front ++ body) ≡ front ++ take (16_384 - length front) body = ap (λ n. take n (front ++ body)) (sym room) ∙ take-append-add front body (16_384 - length front) in
    ((take (16_384 - length front) body, subst (λ b. ReadsRequest b h (take (16_384 - length front) body)) (sym cut) (reads (take (16_384 - length front) body))), few)

-- a desk reads a request back, if its line and its headers may be written
read_back : (method target front body : List ℕ) (hs : List Header) (asks : HeadAsks) (key : Option (List ℕ)) → is_request_line method target 1 ≡ true → are_headers hs ≡ true
    → request_text method target 1 hs ≡ front → length front ≤ 16_384 → length (request_head method target 1 hs).fields ≤ 64
    → head_asks (record { method = method; target = target; fields = hs }) ≡ asks → key_of hs ≡ key → IsRead (front ++ body) asks key body
read_back method target front body hs asks key line headers text short few asked keyed =
    let h : RequestHead = request_head method target 1 hs in
    let back : (rest : List ℕ) → RequestReadsBack method target 1 hs rest = λ rest. request_reads_back method target 1 hs rest (refused_if (is_request_line method target 1) hs line headers) in
    let fields : map name_and_value h.fields ≡ hs = (back []).fields in
    record {
      head = h;
      has = has_head front body h (λ rest. subst (λ t. ReadsRequest (t ++ rest) h rest) text (back rest).reads) short few;
      asks_is = ap (λ fs. head_asks (record { method = method; target = target; fields = fs })) fields ∙ asked;
      key_is = ap key_of fields ∙ keyed;
      body_is = ap (λ t. drop (length t) (front ++ body)) text ∙ drop-append_seam front body;
    }

-- the digits of a length
count_shown : (n : ℕ) → n < 2 ^ 64 → is_trimmed_value (decimal n) ≡ true
count_shown n wide = trimmed (decimal n) (all_weaker is_digit is_shown digit_shown (decimal n) (decimal_digits n wide))

count_short : (n : ℕ) → n ≤ 65_536 → n < 2 ^ 64 → length (decimal n) ≤ 20
count_short n le wide = length-decimal-le 20 n (omega arith) (omega (arith, le)) wide

pub command_read : ((p : Posted) → HasPath (posts p)) → (v : Verb) (key body : List ℕ) → is_key key ≡ true → length body ≤ 65_536
    → IsRead (command_head (word v) key (length body) ++ body) (sends (posted_command v) (length body)) (Some key) body
command_read path v key body is le =
    let n = length body in
    let key_parts = and_parts (nat_le 1 (length key) && nat_le (length key) 40) (list_all is_key_byte key) is in
    let key_len : length key ≤ 40 = leb-true (length key) 40 (and_parts (nat_le 1 (length key)) (nat_le (length key) 40) key_parts.0).1 in
    let wide : n < 2 ^ 64 = omega (arith, le) in
    read_back (codes "POST") (target_of (word v)) (command_head (word v) key n) body (fields_of key (decimal n)) (sends (posted_command v) n) (Some key) (line_good v)
    (headers_good key (decimal n) (trimmed key (all_weaker is_key_byte is_shown key_shown key key_parts.1)) (count_shown n wide)) (text_is (word v) key n)
    (head_short (word v) key (decimal n) (name_short v) key_len (count_short n le wide)) (omega arith) (asked v key n le (path (posted_command v)).leads) (keyed key (decimal n) is)

-- The same of a telegram.

abbrev telegram_fields : List ℕ → List Header
telegram_fields count = (codes "Host", codes "127.0.0.1") ∷ (codes "Connection", codes "close") ∷ (codes "Content-Length", count) ∷ []

telegram_lines : (count : List ℕ)
    → section_text (codes "POST" ++ (32 ∷ (codes "/v1/telegrams" ++ (codes " HTTP/1." ++ (49 ∷ 13 ∷ 10 ∷ []))))) (telegram_fields count)
    ≡ codes "POST /v1/telegrams HTTP/1.1\r\nHost: 127.0.0.1\r\nConnection: close\r\nContent-Length: " ++ (count ++ codes "\r\n\r\n")
telegram_lines count =
    ap (λ l. codes "POST /v1/telegrams HTTP/1.1\r\nHost: 127.0.0.1\r\nConnection: close\r\nContent-Length: " ++ l) (count_tail count)

telegram_text : (n : ℕ) → request_text (codes "POST") (codes "/v1/telegrams") 1 (telegram_fields (decimal n)) ≡ telegram_head n
telegram_text n = sym (request_text_is (codes "POST") (codes "/v1/telegrams") 1 (telegram_fields (decimal n))) ∙ telegram_lines (decimal n)

telegram_line_good : is_request_line (codes "POST") (codes "/v1/telegrams") 1 ≡ true
unfolding is_token_byte
telegram_line_good = refl

telegram_headers : (count : List ℕ) → is_trimmed_value count ≡ true → are_headers (telegram_fields count) ≡ true
unfolding are_headers is_token_byte
telegram_headers count n = and_from _ _ n refl

abbrev telegram_with : List ℕ → Head
telegram_with count = record { method = codes "POST"; target = codes "/v1/telegrams"; fields = telegram_fields count }

telegram_asked : (n : ℕ) → n ≤ 65_536 → place_of (codes "/v1/telegrams") ≡ Some (posts posted_telegram)
    → head_asks (telegram_with (decimal n)) ≡ sends posted_telegram n
telegram_asked n le place =
    ap (place_asks (telegram_with (decimal n))) place ∙ ap (sends_body posted_telegram) (length_read n le)

telegram_short : (count : List ℕ) → length count ≤ 20
    → length (codes "POST /v1/telegrams HTTP/1.1\r\nHost: 127.0.0.1\r\nConnection: close\r\nContent-Length: " ++ (count ++ codes "\r\n\r\n")) ≤ 16_384
telegram_short count d = omega (arith, d, length-append count (codes "\r\n\r\n"))

pub telegram_read : ((p : Posted) → HasPath (posts p)) → (body : List ℕ) → length body ≤ 65_536
    → IsRead (telegram_head (length body) ++ body) (sends posted_telegram (length body)) None body
telegram_read path body le =
    let n = length body in
    let wide : n < 2 ^ 64 = omega (arith, le) in
    read_back (codes "POST") (codes "/v1/telegrams") (telegram_head n) body (telegram_fields (decimal n)) (sends posted_telegram n) None telegram_line_good
    (telegram_headers (decimal n) (count_shown n wide)) (telegram_text n) (telegram_short (decimal n) (count_short n le wide)) (omega arith)
    (telegram_asked n le (path posted_telegram).leads) refl

-- The same of what is got.

abbrev get_fields : List Header
get_fields = (codes "Host", codes "127.0.0.1") ∷ (codes "Connection", codes "close") ∷ []

get_text : (path : List ℕ) → request_text (codes "GET") path 1 get_fields ≡ get_request path
get_text path =
    sym (request_text_is (codes "GET") path 1 get_fields)
    ∙ ap (λ l. codes "GET " ++ l) (append_assoc path (codes " HTTP/1.1\r\n") (print_headers get_fields ++ 13 ∷ 10 ∷ [])
    ∙ sym (append_assoc (codes "") path (codes " HTTP/1.1\r\nHost: 127.0.0.1\r\nConnection: close\r\n\r\n")))

get_headers : are_headers get_fields ≡ true
unfolding are_headers is_token_byte
get_headers = refl

abbrev getting : List ℕ → Head
getting path = record { method = codes "GET"; target = path; fields = get_fields }

get_short : (path : List ℕ) → length path ≤ most_path → length (codes "GET " ++ (path ++ codes " HTTP/1.1\r\nHost: 127.0.0.1\r\nConnection: close\r\n\r\n")) ≤ 16_384
get_short path few = omega (arith, few, length-append path (codes " HTTP/1.1\r\nHost: 127.0.0.1\r\nConnection: close\r\n\r\n"))

get_line : (path : List ℕ) → list_all is_ascii_graphic path ≡ true → 0 < length path → is_request_line (codes "GET") path 1 ≡ true
unfolding is_token_byte
get_line path all some = and_from _ _ (and_from _ _ (lt-ltb 0 (length path) some) all) refl

pub got_read : (path : List ℕ) (got : Got) → IsPathOf path (gets got) → IsRead (get_request path ++ []) (looks_up got) None []
got_read path got is =
    read_back (codes "GET") path (get_request path) [] get_fields (looks_up got) None (get_line path is.graphic is.some) get_headers (get_text path)
    (get_short path is.few) (omega arith) (ap (place_asks (getting path)) is.leads) refl
