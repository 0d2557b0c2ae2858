-- Lines with a field more than their layout.
use Rattle.fsu_text.proofs.Common.{List, None, [], ap, arith, differs_of, fields, is_slash, length, length-slice_split, received_of, refl, ℕ, ◌∙◌, ◌∷◌, ◌≡◌, ◌≤◌}

some_fields : (text : List ℕ) → 1 ≤ length (fields text)
some_fields text = omega (arith, length-slice_split is_slash text)

pub received_longer : (code text l2 l3 l4 l5 b c d e : List ℕ)
    → fields text ≡ b ∷ fields l2 → fields l2 ≡ c ∷ fields l3 → fields l3 ≡ d ∷ fields l4 → fields l4 ≡ e ∷ fields l5
    → received_of (code ∷ fields text) ≡ None
received_longer code text l2 l3 l4 l5 b c d e h2 h3 h4 h5 =
    let whole : fields text ≡ b ∷ c ∷ d ∷ e ∷ fields l5 =
    h2 ∙ ap (λ t. b ∷ t) (h3 ∙ ap (λ t. c ∷ t) (h4 ∙ ap (λ t. d ∷ t) h5)) in
    ap (λ parts. received_of (code ∷ parts)) whole ∙ by (fields l5) (some_fields l5)
  where
    by : (parts : List (List ℕ)) → 1 ≤ length parts → received_of (code ∷ b ∷ c ∷ d ∷ e ∷ parts) ≡ None
    by [] le = absurd (omega (arith, le))
    by (f ∷ parts) le = refl

pub differs_longer : (code text l2 l3 l4 l5 l6 b c d e f : List ℕ)
    → fields text ≡ b ∷ fields l2 → fields l2 ≡ c ∷ fields l3 → fields l3 ≡ d ∷ fields l4 → fields l4 ≡ e ∷ fields l5 → fields l5 ≡ f ∷ fields l6
    → differs_of (code ∷ fields text) ≡ None
differs_longer code text l2 l3 l4 l5 l6 b c d e f h2 h3 h4 h5 h6 =
    let whole : fields text ≡ b ∷ c ∷ d ∷ e ∷ f ∷ fields l6 =
    h2 ∙ ap (λ t. b ∷ t) (h3 ∙ ap (λ t. c ∷ t) (h4 ∙ ap (λ t. d ∷ t) (h5 ∙ ap (λ t. e ∷ t) h6))) in
    ap (λ parts. differs_of (code ∷ parts)) whole ∙ by (fields l6) (some_fields l6)
  where
    by : (parts : List (List ℕ)) → 1 ≤ length parts → differs_of (code ∷ b ∷ c ∷ d ∷ e ∷ f ∷ parts) ≡ None
    by [] le = absurd (omega (arith, le))
    by (g ∷ parts) le = refl
