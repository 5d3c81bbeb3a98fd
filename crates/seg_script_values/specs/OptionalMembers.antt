-- A member of a JSON object that may be absent.
use Rattle.std.specs.Prelude.{ℕ, List, Option, Some, None}
use Rattle.serde_json.specs.Data.{Data}
use Rattle.serde_json.specs.Find.{get}

-- what is read of a value, or the default where there is none
abbrev pub read_or : {A : Type 0} → A → (Data → Option A) → Option Data → Option A
read_or default read None = Some default
read_or default read (Some d) = read d

-- a member with a default
abbrev pub optional : {A : Type 0} → A → (Data → Option A) → List ℕ → Data → Option A
optional default read name d = read_or default read (get name d)
