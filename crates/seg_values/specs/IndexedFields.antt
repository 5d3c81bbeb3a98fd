-- Which fields are indexed, and which have lengths.
use Rattle.std.specs.Prelude.{Bool, true, false, ◌&&◌}
use Rattle.seg_values.specs.declared.schema.FieldEntry.{FieldEntry}
use Rattle.seg_values.specs.declared.schema.IndexOption.{IndexOption}
use Rattle.seg_values.specs.declared.schema.IndexOption.TheVariants.{No}

-- an option under which a field is indexed
abbrev pub is_on : IndexOption → Bool
is_on No = false
is_on _ = true

-- an indexed field
abbrev pub is_indexed : FieldEntry → Bool
is_indexed entry = is_on entry.index

-- a field has lengths where it is indexed and `norms` is set
abbrev pub has_lengths : FieldEntry → Bool
has_lengths entry = is_indexed entry && entry.norms
