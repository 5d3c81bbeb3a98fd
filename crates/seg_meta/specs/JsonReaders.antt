-- Words by which a JSON value is read, part by part.
use Rattle.std.specs.Prelude.{ℕ, List, [], ◌∷◌, Bool, true, false, ◌&&◌, if◌then◌else◌, Option, Some, None, option_map, option_and_then, nat_lt}
use Rattle.std.specs.List.{list_any}
use Rattle.std.specs.Map.{lookup}
use Rattle.std.specs.Str.{bytes_eq}
use Rattle.serde_json.specs.Data.{Data, null, boolean, number, string, array, object, Items, no_items, item, Members, no_members, member}
use Rattle.serde_json.specs.Find.{get, as_array, as_str, as_number, as_u64}

-- goes on with what was read
abbrev pub given : {A B : Type 0} → Option A → (A → Option B) → Option B
given None f = None
given (Some a) f = f a

-- goes on where the test holds
abbrev pub provided : {B : Type 0} → Bool → Option B → Option B
provided b o = if b then o else None

-- a member that must be there
abbrev pub required : {A : Type 0} → (Data → Option A) → List ℕ → Data → Option A
required read name d = given (get name d) read

-- a natural number
abbrev pub natural : Data → Option ℕ
natural d = option_and_then as_u64 (as_number d)

-- a natural number below a limit
abbrev pub below : ℕ → Data → Option ℕ
below limit d = given (natural d) (λ n. provided (nat_lt n limit) (Some n))

-- null, or what is read
abbrev pub nullable : {A : Type 0} → (Data → Option A) → Data → Option (Option A)
nullable read null = Some None
nullable read (boolean b) = option_map Some (read (boolean b))
nullable read (number n) = option_map Some (read (number n))
nullable read (string s) = option_map Some (read (string s))
nullable read (array ds) = option_map Some (read (array ds))
nullable read (object ms) = option_map Some (read (object ms))

-- one of the words of a table
abbrev pub word_of : {A : Type 0} → List (List ℕ × A) → Data → Option A
word_of table d = given (as_str d) (λ w. lookup (bytes_eq w) table)

-- what is read of each item, where every one can be read
abbrev pub each : {A : Type 0} → (Data → Option A) → Items → Option (List A)
each read no_items = Some []
each read (item d ds) = given (read d) (λ x. option_map (λ xs. x ∷ xs) (each read ds))

-- the same of a list
abbrev pub list_of : {A : Type 0} → (Data → Option A) → Data → Option (List A)
list_of read d = given (as_array d) (each read)

-- no member has another name
abbrev pub names_among : List (List ℕ) → Members → Bool
names_among names no_members = true
names_among names (member k d ms) = list_any (bytes_eq k) names && names_among names ms

-- an object with no member but these
abbrev pub has_only : List (List ℕ) → Data → Bool
has_only names null = false
has_only names (boolean b) = false
has_only names (number n) = false
has_only names (string s) = false
has_only names (array ds) = false
has_only names (object ms) = names_among names ms
