-- The script that bytes are.
use Rattle.std.specs.Prelude.{ℕ, ◌+◌, List, [], ◌∷◌, length, replicate, Option, Some, None, codes}
use Rattle.std.specs.List.{range_with_len}
use Rattle.serde_json.specs.Data.{Data}
use Rattle.serde_json.specs.Find.{as_str}
use Rattle.seg_values.specs.declared.schema.FieldEntry.{FieldEntry}
use Rattle.seg_model.specs.Input.{Input}
use Rattle.seg_model.specs.Operations.{Operation}
pub use Rattle.seg_meta.specs.ParsedMeta.{json_of}
use Rattle.seg_meta.specs.ParsedMetaParts.{id_from}
use Rattle.seg_meta.specs.JsonReaders.{given, provided, required, natural, nullable, list_of, has_only}
use Rattle.seg_script_values.specs.OptionalMembers.{optional}
use Rattle.seg_script.specs.Fields.{schema_from}
use Rattle.seg_script.specs.Settings.{default_settings, settings_from}
use Rattle.seg_script.specs.Filters.{filter_from}
use Rattle.seg_script.specs.Operations.{operation_from}

-- the members of a script
abbrev pub script_members : List (List ℕ)
script_members = codes "schema" ∷ codes "settings" ∷ codes "operations" ∷ codes "cuts"
    ∷ codes "filters" ∷ codes "ids" ∷ []

-- a text of 32 hexadecimal digits in lower case
abbrev pub id_of : Data → Option ℕ
id_of d = given (as_str d) id_from

-- the input that a JSON value says; by default there are no cuts, no batch is filtered, and the ids count up from 1
abbrev pub script_from : Data → Option Input
script_from d =
    provided (has_only script_members d)
    (given (required schema_from (codes "schema") d) (λ schema.
    given (optional default_settings settings_from (codes "settings") d) (λ settings.
    given (optional [] (list_of natural) (codes "cuts") d) (λ cuts.
    given (optional (replicate (length cuts + 1) None) (list_of (nullable filter_from)) (codes "filters") d) (λ filters.
    given (optional (range_with_len 1 (length cuts + 2)) (list_of id_of) (codes "ids") d) (λ ids.
    given (required (list_of (operation_from schema)) (codes "operations") d) (λ operations.
    Some (record {
      schema = schema;
      settings = settings;
      operations = operations;
      cuts = cuts;
      filters = filters;
      ids = ids;
    }))))))))

-- the input of a schema and operations, with what the other members of a JSON value say
abbrev pub input_with : List FieldEntry → List Operation → Data → Option Input
input_with schema operations d =
    provided (has_only script_members d)
    (given (optional default_settings settings_from (codes "settings") d) (λ settings.
    given (optional [] (list_of natural) (codes "cuts") d) (λ cuts.
    given (optional (replicate (length cuts + 1) None) (list_of (nullable filter_from)) (codes "filters") d) (λ filters.
    given (optional (range_with_len 1 (length cuts + 2)) (list_of id_of) (codes "ids") d) (λ ids.
    Some (record {
      schema = schema;
      settings = settings;
      operations = operations;
      cuts = cuts;
      filters = filters;
      ids = ids;
    }))))))

-- the script that bytes are
abbrev pub script : List ℕ → Option Input
script bytes = given (json_of bytes) script_from
