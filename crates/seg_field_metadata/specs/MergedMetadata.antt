-- Metadata of fields, merged: by name and type what all say together.
use Rattle.std.specs.Prelude.{◌≡◌, Bool, false, List, Option, Some, None, if◌then◌else◌, map, Vec}
use Rattle.std.specs.declared.alloc.Global.{Global}
use Rattle.std.specs.List.{filter, flat_map, list_all, list_any}
use Rattle.std.specs.FinMap.{FinMap, entries}
use Rattle.std.specs.Ordering.{eq_by_cmp}
use Rattle.seg_common.specs.TabulatedMaps.{tabulated}
use Rattle.seg_values.specs.declared.error.TantivyError.{TantivyError}
use Rattle.seg_values.specs.declared.error.TantivyError.TheVariants.{InvalidArgument, OutOfMemory}
use Rattle.seg_values.specs.declared.error.ArgumentCause.TheVariants.{SizeOverflow}
use Rattle.seg_field_metadata.specs.MetadataEntries.{Entry, Key, Known, entry_of, fits, key_cmp, together}
use Rattle.seg_field_metadata.specs.declared.field_metadata.FieldMetadata.{FieldMetadata}

-- all entries of some lists
abbrev pub all_entries : List (Vec FieldMetadata Global) → List Entry
all_entries lists = flat_map (λ list. map entry_of list.items) lists

abbrev pub has_key : Key → Entry → Bool
has_key key e = eq_by_cmp key_cmp key e.0

-- what the entries of a key say together, where there are any
abbrev pub at_key : List Entry → Key → Option Known
at_key es key =
    if list_any (has_key key) es then Some (together (map (λ e. e.1) (filter (has_key key) es))) else None

-- that of each key of some entries, once, by key
abbrev pub merged : List Entry → List Entry
merged es =
    let table : FinMap key_cmp Known = tabulated (at_key es) (map (λ e. e.0) es) in
    entries table

-- each size is a number of 64 bits
abbrev pub sizes_fit : List Entry → Bool
sizes_fit es = list_all (λ e. fits e.1) es

-- a sum passes 64 bits, or there is no memory
abbrev pub MergeFails : List Entry → TantivyError → Type 0
MergeFails es (InvalidArgument SizeOverflow) = sizes_fit es ≡ false
MergeFails es OutOfMemory = Unit {0}
MergeFails es _ = ⊥
