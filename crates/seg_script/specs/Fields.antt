-- The schema that a JSON value says.
use Rattle.std.specs.Prelude.{ℕ, ◌^◌, ◌-◌, List, [], ◌∷◌, length, Bool, true, false, not, ◌&&◌, Option, Some, None, nat_lt, unwrap_or, codes}
use Rattle.std.specs.List.{list_any}
use Rattle.std.specs.Str.{bytes_eq}
use Rattle.serde_json.specs.Data.{Data}
use Rattle.serde_json.specs.Find.{as_bool, as_str}
use Rattle.seg_common.specs.declared.precision.DateTimePrecision.TheVariants.{Seconds}
use Rattle.seg_values.specs.FieldNames.{field_named, is_allowed, kept_entry}
use Rattle.seg_values.specs.declared.schema.FieldEntry.{FieldEntry}
use Rattle.seg_values.specs.declared.schema.IndexOption.TheVariants as index
use Rattle.seg_model.specs.Fields.{is_text, is_on}
use Rattle.seg_meta.specs.ParsedMetaParts.{kinds, index_options, precisions, entry_members}
use Rattle.seg_meta.specs.JsonReaders.{given, provided, required, nullable, word_of, list_of, has_only}
use Rattle.seg_script_values.specs.OptionalMembers.{optional}

-- an entry, of which the name and the kind must be there; an indexed text field has lengths where it doesn't say
-- otherwise, and a facet is kept as all facets are
abbrev pub entry_from : Data → Option FieldEntry
entry_from d =
    provided (has_only entry_members d)
    (given (required as_str (codes "name") d) (λ name.
    given (required (word_of kinds) (codes "kind") d) (λ kind.
    given (optional false as_bool (codes "stored") d) (λ stored.
    given (optional index.No (word_of index_options) (codes "index") d) (λ index.
    given (optional None (nullable as_str) (codes "tokenizer") d) (λ tokenizer.
    given (optional (is_text kind && is_on index) as_bool (codes "norms") d) (λ norms.
    given (optional false as_bool (codes "fast") d) (λ fast.
    given (optional None (nullable as_str) (codes "fast_tokenizer") d) (λ fast_tokenizer.
    given (optional Seconds (word_of precisions) (codes "precision") d) (λ precision.
    given (optional false as_bool (codes "expand_dots") d) (λ expand_dots.
    provided (is_allowed kind index)
    (Some (kept_entry (record {
      name = name;
      kind = kind;
      stored = stored;
      index = index;
      tokenizer = tokenizer;
      norms = norms;
      fast = fast;
      fast_tokenizer = fast_tokenizer;
      precision = precision;
      expand_dots = expand_dots;
    }))))))))))))))

-- an entry has this name
abbrev pub has_name : List ℕ → List FieldEntry → Bool
has_name name entries = list_any (λ e. bytes_eq e.name name) entries

-- the names are distinct
abbrev pub are_distinct : List FieldEntry → Bool
are_distinct [] = true
are_distinct (e ∷ es) = not (has_name e.name es) && are_distinct es

-- entries with distinct names, whose number is below the largest of 32 bits
abbrev pub schema_from : Data → Option (List FieldEntry)
schema_from d = given (list_of entry_from d)
    (λ entries. provided (are_distinct entries && nat_lt (length entries) (2 ^ 32 - 1)) (Some entries))

-- the field with a name, or the number just past the fields
abbrev pub field_or_past : List FieldEntry → List ℕ → ℕ
field_or_past schema name = unwrap_or (field_named schema name) (length schema)
