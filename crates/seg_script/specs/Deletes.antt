-- A term that a JSON value says.
use Rattle.std.specs.Prelude.{ℕ, List, [], if◌then◌else◌, Option, Some, None, option_map}
use Rattle.std.specs.List.{slice_get}
use Rattle.serde_json.specs.Data.{Data, array}
use Rattle.serde_json.specs.Find.{as_str}
use Rattle.seg_values.specs.declared.schema.FieldEntry.{FieldEntry}
use Rattle.seg_values.specs.ValueBytes.{TermKey}
use Rattle.seg_model.specs.Fields.{is_json}
use Rattle.seg_meta.specs.JsonReaders.{given}
use Rattle.seg_script_values.specs.Deletes.{plain_term, json_term}
use Rattle.seg_script.specs.Fields.{field_or_past}
use Rattle.seg_script.specs.Pairs.{two_or_three}

-- the bytes of a value in a field, or under a path in a JSON field; of a field that the schema lacks neither counts
abbrev pub term_bytes : Option FieldEntry → Data → Option Data → Option (List ℕ)
term_bytes None d third = Some []
term_bytes (Some e) value None = plain_term e.kind value
term_bytes (Some e) path (Some value) = if is_json e.kind
    then given (as_str path) (λ p. json_term e.expand_dots p value) else None

-- `[name, value]`, or `[name, path, value]` of a JSON field
abbrev pub term_from : List FieldEntry → Data → Option TermKey
term_from schema (array ds) =
    given (two_or_three ds) (λ p.
    given (as_str p.0) (λ name.
    let field = field_or_past schema name in
    option_map (λ (bytes : List ℕ). record { field = field; bytes = bytes })
    (term_bytes (slice_get schema field) p.1 p.2)))
term_from schema _ = None
