-- Amounts as texts.
use Rattle.shipment_machine.proofs.Common.{List, [], amount, amount_text, append_assoc, arith, codes, decimal, pieces_word, ℕ, ◌%◌, ◌++◌, ◌+◌, ◌/◌, ◌∙◌, ◌∷◌, ◌≡◌}
use Rattle.std.proofs.lemmas.Fmt.{decimal_digit}

joined : (pieces word kilograms tenth : List ℕ) → pieces ++ 32 ∷ (word ++ 44 ∷ 32 ∷ (kilograms ++ 46 ∷ (tenth ++ codes " kg")))
    ≡ pieces ++ codes " " ++ word ++ codes ", " ++ (kilograms ++ (46 ∷ []) ++ tenth) ++ codes " kg"
joined pieces word kilograms tenth = simp append_assoc

-- the parts of an amount, as they are written behind one another
pub amount_written : (pieces tenths : ℕ) (word : List ℕ) → word ≡ pieces_word pieces
    → decimal pieces ++ 32 ∷ (word ++ 44 ∷ 32 ∷ (decimal (tenths / 10) ++ 46 ∷ (decimal (tenths % 10) ++ codes " kg"))) ≡ amount_text (amount pieces tenths)
amount_written pieces tenths word is =
    let tenth : decimal (tenths % 10) ≡ (48 + tenths % 10) ∷ [] = decimal_digit (tenths % 10) (omega arith) in
    (λ i. decimal pieces ++ 32 ∷ (is i ++ 44 ∷ 32 ∷ (decimal (tenths / 10) ++ 46 ∷ (tenth i ++ codes " kg"))))
    ∙ joined (decimal pieces) (pieces_word pieces) (decimal (tenths / 10)) ((48 + tenths % 10) ∷ [])
