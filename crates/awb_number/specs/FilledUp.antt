-- Short texts in a buffer of fixed width, padded with zeros.
use Rattle.std.specs.Prelude.{ℕ, ◌≡◌, ◌-◌, ◌≤◌, List, ◌++◌, length, drop, replicate}

abbrev pub filled_up : ℕ → List ℕ → List ℕ
filled_up width text = text ++ replicate (width - length text) 0

-- the first `len` bytes of the buffer are the text, and zeros follow
pub record IsFilledUp (width len : ℕ) (bytes : List ℕ) : Type 0 where
  pub whole : length bytes ≡ width
  pub within : len ≤ width
  pub zeros : drop len bytes ≡ replicate (width - len) 0
