-- The members of a line of `acts`.
use Rattle.cli_run.proofs.Common.{Data, List, None, Option, Some, String, [], ap, length, members_view, option_map, refl, string, suc, sym, ℕ, ◌∙◌, ◌∷◌, ◌≡◌}
use Rattle.std.specs.Option.{option_and_then}
use Rattle.std.specs.declared.alloc.Global.{Global}
use Rattle.serde_json.specs.Find.{as_object, as_str}
use Rattle.serde_json.specs.declared.value.Value.{Value}
use Rattle.desk_commands.specs.Body.{members_len, member_count}

len_of : (ms : List (String Global × Value)) → members_len (members_view ms) ≡ length ms
len_of [] = refl
len_of (m ∷ ms) = ap suc (len_of ms)

pub counted : (ms : List (String Global × Value)) (d : Data) (k : ℕ) → Some (members_view ms) ≡ as_object d → k ≡ length ms → member_count d ≡ Some k
counted ms d k e len = ap (option_map members_len) (sym e) ∙ ap (λ (n : ℕ). Some n) (len_of ms ∙ sym len)

str_of : (d : Data) (text : List ℕ) → as_str d ≡ Some text → d ≡ string text
str_of (string s) text is = let same : s ≡ text = cc in ap string same
str_of _ text is = cc

-- a member that is a text
pub text_of : (o : Option Data) (text : List ℕ) → Some text ≡ option_and_then as_str o → o ≡ Some (string text)
text_of None text is = cc
text_of (Some d) text is = ap (λ (x : Data). Some x) (str_of d text (sym is))
