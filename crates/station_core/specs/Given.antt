-- The history of a reader or a writer.
use Rattle.std.specs.Prelude.{ℕ, List, [], refl}
use Rattle.station_core.specs.Common.{Coded, code_by, coded×, coded_ℕ, coded_list}

-- the bytes moved, the number of calls, of failed calls, and of calls that moved 0 bytes of a
-- buffer that wasn't empty
pub record Given : Type 0 where
  pub bytes : List ℕ
  pub calls : ℕ
  pub failures : ℕ
  pub idle : ℕ

abbrev pub given_code : Coded Given
given_code = code_by (List ℕ × (ℕ × (ℕ × ℕ))) (coded× (coded_list coded_ℕ) (coded× coded_ℕ (coded× coded_ℕ coded_ℕ)))
    (λ g. (g.bytes, (g.calls, (g.failures, g.idle))))
    (λ p. record { bytes = p.0; calls = p.1.0; failures = p.1.1.0; idle = p.1.1.1 }) (λ _. refl)

abbrev pub nothing_given : Given
nothing_given = record { bytes = []; calls = 0; failures = 0; idle = 0 }
