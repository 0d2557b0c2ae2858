-- Trees of which a database reads the schema of a station.
use Rattle.station_schema.proofs.Common.{Database, IsDatabase, IsOldOwn, IsOwn, old_schema, station_schema, ◌∙◌, ◌≡◌}
use Rattle.sqlite_catalog.proofs.ReadLemmas.{lists_once}

-- a schema is read out of trees in one way
pub owns : (db : Database) → db.schema ≡ station_schema → IsDatabase db → IsOwn db.trees
owns db has sound = record { only = λ schema other. lists_once _ schema db.schema other.lists sound.lists ∙ has }

-- and of such trees it is a station's
pub owned : (db : Database) → IsOwn db.trees → IsDatabase db → db.schema ≡ station_schema
owned db own sound = own.only db.schema sound

-- the same of version 1
pub owns_old : (db : Database) → db.schema ≡ old_schema → IsDatabase db → IsOldOwn db.trees
owns_old db has sound = record { only = λ schema other. lists_once _ schema db.schema other.lists sound.lists ∙ has }

pub owned_old : (db : Database) → IsOldOwn db.trees → IsDatabase db → db.schema ≡ old_schema
owned_old db own sound = own.only db.schema sound
