-- Laws of short texts in a buffer of fixed width.
use Rattle.std.proofs.Common.{ℕ, ◌≡◌, ◌-◌, ◌≤◌, List, ◌++◌, length, take, drop, sym, ◌∙◌, ap, arith, length-append}
use Rattle.std.specs.Prelude.{replicate}
use Rattle.std.proofs.lemmas.List.{length-take-le, take-append-drop, length-drop, length-replicate, drop-replicate}
use Rattle.std.proofs.Math.Seq.{drop-append_seam, take-append_seam}
use Rattle.awb_number.specs.FilledUp.{IsFilledUp, filled_up}

-- the padded text is the buffer
pub filled_up-take : (width len : ℕ) (bytes : List ℕ) → IsFilledUp width len bytes → filled_up width (take len bytes) ≡ bytes
filled_up-take width len bytes h =
    let fits : len ≤ length bytes = omega arith in
    ap (λ n. take len bytes ++ replicate (width - n) 0) (length-take-le len bytes fits)
    ∙ ap (λ zs. take len bytes ++ zs) (sym h.zeros)
    ∙ take-append-drop len bytes

pub length-filled : (width len : ℕ) (bytes : List ℕ) → IsFilledUp width len bytes → length (take len bytes) ≡ len
length-filled width len bytes h = length-take-le len bytes (omega arith)

-- a text written to the start of a buffer of zeros
pub IsFilledUp-written : (width : ℕ) (text : List ℕ) → length text ≤ width → IsFilledUp width (length text) (text ++ drop (length text) (replicate width 0))
IsFilledUp-written width text fits = record {
  whole = omega (arith, length-append {A = ℕ} text (drop (length text) (replicate width 0)), length-drop {A = ℕ} (length text) (replicate width 0), length-replicate {A = ℕ} width 0);
  within = fits;
  zeros = drop-append_seam {A = ℕ} text (drop (length text) (replicate width 0)) ∙ drop-replicate {X = ℕ} (length text) width 0;
}

pub take-written : (width : ℕ) (text : List ℕ) → take (length text) (text ++ drop (length text) (replicate width 0)) ≡ text
take-written width text = take-append_seam {A = ℕ} text (drop (length text) (replicate width 0))
