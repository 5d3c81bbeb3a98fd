-- The totals of tokens of segments that are joined.
use Rattle.std.specs.Prelude.{ℕ, ◌*◌, ◌/◌, ◌-◌, ◌^◌, List, map, min, sum, Bool, if◌then◌else◌, Option, Some, None, false}
use Rattle.std.specs.List.{list_all, slice_get}
use Rattle.seg_values.specs.declared.schema.FieldEntry.{FieldEntry}
use Rattle.seg_model.specs.Contents.{norms_at}
use Rattle.seg_model.specs.TokenEstimate.{joined_estimate, live_count}
use Rattle.seg_model.specs.Fields.{has_lengths}
use Rattle.seg_model.specs.Norms.{length_of_id}
use Rattle.seg_model.specs.Operations.{kept}
use Rattle.seg_postings.specs.OpenedFields.{OpenField}
use Rattle.seg_open.specs.OpenSegment.{OpenSegment, contents_of, part_of}

-- the total of tokens that is read of a field; 0 where it isn't open
abbrev pub total_read : Option (Option OpenField) → ℕ
total_read None = 0
total_read (Some None) = 0
total_read (Some (Some f)) = f.total

-- the total of a field in what segments are joined to: the estimate, by the totals that are read of them
abbrev pub joined_total : List OpenSegment → ℕ × FieldEntry → ℕ
joined_total parts f = joined_estimate f (map (λ s. (part_of s, total_read (slice_get s.fields f.0))) parts)

-- ---- by the number of a field alone

-- whether a field of a schema has lengths
abbrev pub have_lengths : Option FieldEntry → Bool
have_lengths None = false
have_lengths (Some entry) = has_lengths entry

-- the tokens of a field in the documents of a segment that are alive
abbrev pub tokens_at : ℕ → OpenSegment → ℕ
tokens_at field s =
    if list_all (λ b. b) s.alive then total_read (slice_get s.fields field)
    else (if have_lengths (slice_get s.schema field)
    then sum (map length_of_id (kept s.alive (norms_at (contents_of s) field)))
    else total_read (slice_get s.fields field) * live_count s.alive / s.documents)

-- and in those of segments, at most the greatest u64
abbrev pub tokens_in : ℕ → List OpenSegment → ℕ
tokens_in field parts = min (2 ^ 64 - 1) (sum (map (tokens_at field) parts))
