-- The words of a call, sorted: the options before the command, and the command.
use Rattle.std.specs.Prelude.{ℕ, List, [], ◌∷◌, ◌++◌, codes, Option, Some, None, option_map, ◌≡◌, ◌⊎◌}
use Rattle.cli_words.specs.declared.words.OptionWords.{OptionWords}
use Rattle.cli_words.specs.declared.words.Words.{Words}
use Rattle.cli_words.specs.declared.words.Request.{Request}
use Rattle.cli_words.specs.declared.words.Request.TheVariants as request

-- the values of the options before the command
pub record OptionTexts : Type 0 where
  pub db : Option (List ℕ)
  pub at : Option (List ℕ)
  pub station : Option (List ℕ)
  pub zone : Option (List ℕ)

abbrev pub no_options : OptionTexts
no_options = record { db = None; at = None; station = None; zone = None }

abbrev pub option_texts : OptionWords → OptionTexts
option_texts o = record {
  db = option_map (λ text. text.now) o.db;
  at = option_map (λ text. text.now) o.at;
  station = option_map (λ text. text.now) o.station;
  zone = option_map (λ text. text.now) o.zone;
}

-- an option that had no value has this one
abbrev pub IsGiven : OptionTexts → List ℕ → List ℕ → OptionTexts → Type 0
IsGiven old name value new =
    ((name ≡ codes "--db") × (old.db ≡ None)
    × (new ≡ record { db = Some value; at = old.at; station = old.station; zone = old.zone }))
    ⊎ (((name ≡ codes "--at") × (old.at ≡ None)
    × (new ≡ record { db = old.db; at = Some value; station = old.station; zone = old.zone }))
    ⊎ (((name ≡ codes "--station") × (old.station ≡ None)
    × (new ≡ record { db = old.db; at = old.at; station = Some value; zone = old.zone }))
    ⊎ ((name ≡ codes "--zone") × (old.zone ≡ None)
    × (new ≡ record { db = old.db; at = old.at; station = old.station; zone = Some value }))))

-- Options begin the words, each with its value in the next word or after an equals sign; the name of
-- the command follows.
abbrev pub BeginsWith : OptionTexts → List (List ℕ) → OptionTexts → List ℕ → Type 0
BeginsWith old [] new command = ⊥
BeginsWith old (word ∷ []) new command = (command ≡ word) × (new ≡ old)
BeginsWith old (word ∷ next ∷ rest) new command =
    ((command ≡ word) × (new ≡ old))
    ⊎ (((name value : List ℕ) × (mid : OptionTexts) × (word ≡ name ++ 61 ∷ value)
    × IsGiven old name value mid × BeginsWith mid (next ∷ rest) new command)
    ⊎ ((mid : OptionTexts) × IsGiven old word next mid × BeginsWith mid rest new command))

-- the name of a request's command
abbrev pub command_name : Request → List ℕ
command_name request.Init = codes "init"
command_name request.Migrate = codes "migrate"
command_name request.Stock = codes "stock"
command_name (request.Take files) = codes "take"
command_name (request.Act verb key) = codes "act"
command_name request.Acts = codes "acts"
command_name (request.Read file) = codes "read"
command_name (request.Outbox after json) = codes "outbox"
command_name (request.Report words) = codes "report"
command_name (request.Station json) = codes "station"
command_name (request.Key key json) = codes "key"
command_name (request.History number) = codes "history"
command_name (request.Waybill number) = codes "waybill"
command_name (request.Holder number) = codes "holder"
command_name (request.Serve port count) = codes "serve"

-- The sorted words have the options and the command of a call, whose first word is the name of the
-- program. Nothing is said of the command's own words.
pub record IsSorted (texts : List (List ℕ)) (words : Words) : Type 0 where
  pub program : List ℕ
  pub behind : List (List ℕ)
  pub whole : texts ≡ program ∷ behind
  pub begins : BeginsWith no_options behind (option_texts words.options) (command_name words.request)
