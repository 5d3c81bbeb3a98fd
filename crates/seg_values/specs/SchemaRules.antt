-- Which fields are a schema: those that a builder makes one of.
use Rattle.std.specs.Prelude.{◌^◌, ◌-◌, List, length, Bool, true, false, not, ◌&&◌, nat_lt}
use Rattle.std.specs.Str.{bytes_eq}
use Rattle.std.specs.List.{list_all}
use Rattle.seg_values.specs.declared.schema.FieldEntry.{FieldEntry}
use Rattle.seg_values.specs.declared.schema.FieldKind.{FieldKind}
use Rattle.seg_values.specs.declared.schema.FieldKind.TheVariants.{Facet}
use Rattle.seg_values.specs.declared.schema.IndexOption.{IndexOption}
use Rattle.seg_values.specs.declared.schema.IndexOption.TheVariants as index
use Rattle.seg_values.specs.DistinctLists.{all_distinct}
use Rattle.seg_values.specs.FieldNames.{is_allowed}

-- an option: documents alone
abbrev pub is_basic : IndexOption → Bool
is_basic index.No = false
is_basic index.Basic = true
is_basic index.Freqs = false
is_basic index.Positions = false

-- a facet is indexed by its documents alone, fast, and has no lengths
abbrev pub is_kept_as : FieldKind → FieldEntry → Bool
is_kept_as Facet e = is_basic e.index && (e.fast && not e.norms)
is_kept_as _ e = true

-- the option goes with the kind; a facet is indexed by its documents alone, fast, and has no lengths
abbrev pub is_entry : FieldEntry → Bool
is_entry e = is_allowed e.kind e.index && is_kept_as e.kind e

-- two fields have one name
abbrev pub same_name : FieldEntry → FieldEntry → Bool
same_name a b = bytes_eq a.name b.name

-- whether fields are a schema: options that go with their kinds, distinct names, and no more than this many
abbrev pub is_schema : List FieldEntry → Bool
is_schema entries = list_all is_entry entries
    && (all_distinct same_name entries && nat_lt (length entries) (2 ^ 32 - 1))
