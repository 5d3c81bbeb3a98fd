-- Fields by names that go on with a path.
use Rattle.std.specs.Prelude.{ℕ, ◌≡◌, ◌≢◌, ◌+◌, ◌-◌, ◌<◌, ◌≤◌, List, [], Option, Some, None, length, take, drop, slice_index}
use Rattle.std.specs.Option.{option_map}
use Rattle.seg_values.specs.declared.schema.FieldEntry.{FieldEntry}
use Rattle.seg_values.specs.FieldNames.{field_named}

-- the place of a dot that no backslash precedes
pub record IsSeparator (name : List ℕ) (at : ℕ) : Type 0 where
  pub inside : at < length name
  pub dot : slice_index name at ≡ 46
  pub plain : slice_index name (at - 1) ≢ 92

-- no part of a name before a separator, at a place from this one on, is a field's name
abbrev pub NoPartFrom : List FieldEntry → List ℕ → ℕ → Type 0
NoPartFrom schema name from = (at : ℕ) → from ≤ at → IsSeparator name at → field_named schema (take at name) ≡ None

-- what a name finds, a field and the path in it: the field of the whole name; else that of the longest part before a
-- separator, with what is after that; else the default, if there is one, with the whole name
pub data Finds (schema : List FieldEntry) (name : List ℕ) (default : Option ℕ) : Option (ℕ × List ℕ) → Type 0 where
  whole_name : (f : ℕ) → field_named schema name ≡ Some f → Finds schema name default (Some (f, []))
  longest_part : (at f : ℕ) → field_named schema name ≡ None → IsSeparator name at
      → field_named schema (take at name) ≡ Some f → NoPartFrom schema name (at + 1)
      → Finds schema name default (Some (f, drop (at + 1) name))
  no_part : field_named schema name ≡ None → NoPartFrom schema name 0
      → Finds schema name default (option_map (λ f. (f, name)) default)
