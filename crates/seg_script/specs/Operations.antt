-- The operations that a JSON value says.
use Rattle.std.specs.Prelude.{ℕ, List, if◌then◌else◌, Option, None, option_map, codes}
use Rattle.std.specs.Str.{bytes_eq}
use Rattle.serde_json.specs.Data.{Data, object, no_members, member}
use Rattle.seg_values.specs.declared.schema.FieldEntry.{FieldEntry}
use Rattle.seg_model.specs.Operations.{Operation, add, delete}
use Rattle.seg_meta.specs.JsonReaders.{list_of}
use Rattle.seg_script.specs.Deletes.{term_from}
use Rattle.seg_script.specs.Pairs.{pair_from}

-- additions and deletes, by their words
abbrev pub operation_named : List FieldEntry → List ℕ → Data → Option Operation
operation_named schema word d =
    if bytes_eq word (codes "add") then option_map add (list_of (pair_from schema) d) else
    (if bytes_eq word (codes "delete") then option_map delete (term_from schema d) else None)

-- `{"add": [pairs]}` or `{"delete": [..]}`
abbrev pub operation_from : List FieldEntry → Data → Option Operation
operation_from schema (object (member word d no_members)) = operation_named schema word d
operation_from schema _ = None
