-- Fields by their names, and what a schema keeps of an entry.
use Rattle.std.specs.Prelude.{ℕ, List, Bool, true, false, Option, position}
use Rattle.std.specs.Str.{bytes_eq}
use Rattle.seg_values.specs.declared.schema.FieldEntry.{FieldEntry}
use Rattle.seg_values.specs.declared.schema.FieldKind.{FieldKind}
use Rattle.seg_values.specs.declared.schema.FieldKind.TheVariants.{Text, Facet, Json}
use Rattle.seg_values.specs.declared.schema.IndexOption.{IndexOption}
use Rattle.seg_values.specs.declared.schema.IndexOption.TheVariants.{No, Basic}

-- the field with a name: the place of its entry
abbrev pub field_named : List FieldEntry → List ℕ → Option ℕ
field_named schema name = position (λ e. bytes_eq e.name name) schema

-- a facet is indexed by its documents alone, fast, and has no lengths; another entry stays as it is
abbrev pub kept_as : FieldKind → FieldEntry → FieldEntry
kept_as Facet entry = record entry { index = Basic; fast = true; norms = false }
kept_as _ entry = entry

abbrev pub kept_entry : FieldEntry → FieldEntry
kept_entry entry = kept_as entry.kind entry

-- texts and JSON may record counts and positions, every other kind its documents at most
abbrev pub is_allowed : FieldKind → IndexOption → Bool
is_allowed Text option = true
is_allowed Json option = true
is_allowed _ No = true
is_allowed _ Basic = true
is_allowed _ _ = false
