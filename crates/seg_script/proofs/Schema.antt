-- A schema is a list of few entries with distinct names.
use Rattle.std.proofs.Common.{◌≡◌, ◌-◌, ◌^◌, List, [], ◌∷◌, length, not, ◌&&◌, Option, Some, None, nat_lt, refl, ap}
use Rattle.serde_json.specs.Data.{Data}
use Rattle.seg_values.specs.declared.schema.FieldEntry.{FieldEntry}
use Rattle.seg_values.specs.declared.schema.FieldKind.TheVariants as kind
use Rattle.seg_values.specs.DistinctLists.{all_distinct}
use Rattle.seg_values.specs.SchemaRules.{same_name}
use Rattle.seg_meta.specs.ParsedMeta.{distinct_list}
use Rattle.seg_meta.specs.JsonReaders.{given, provided, list_of}
use Rattle.seg_script.specs.Fields.{entry_from, has_name, are_distinct, schema_from}

-- entries are distinct by their names
are_distinct-is : (es : List FieldEntry) → are_distinct es ≡ all_distinct same_name es
are_distinct-is [] = refl
are_distinct-is (e ∷ es) = ap (λ b. not (has_name e.name es) && b) (are_distinct-is es)

pub schema_from-is : (d : Data) → schema_from d ≡ distinct_list entry_from same_name (2 ^ 32 - 1) d
schema_from-is d = by (list_of entry_from d)
  where
    by : (o : Option (List FieldEntry))
        → given o (λ es. provided (are_distinct es && nat_lt (length es) (2 ^ 32 - 1)) (Some es))
        ≡ given o (λ es. provided (all_distinct same_name es && nat_lt (length es) (2 ^ 32 - 1)) (Some es))
    by None = refl
    by (Some es) = ap (λ b. provided (b && nat_lt (length es) (2 ^ 32 - 1)) (Some es)) (are_distinct-is es)
