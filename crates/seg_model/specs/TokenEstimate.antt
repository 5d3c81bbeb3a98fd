-- The estimate of a field's tokens after a merge.
use Rattle.std.specs.Prelude.{ℕ, ◌-◌, ◌*◌, ◌/◌, ◌^◌, List, map, min, sum, Bool, if◌then◌else◌}
use Rattle.std.specs.List.{list_all, count_by}
use Rattle.seg_values.specs.declared.schema.FieldEntry.{FieldEntry}
use Rattle.seg_model.specs.Fields.{has_lengths}
use Rattle.seg_model.specs.Norms.{length_of_id}
use Rattle.seg_model.specs.Operations.{kept}
use Rattle.seg_model.specs.Contents.{norms_at}
use Rattle.seg_model.specs.Join.{Part}

-- how many documents are alive
abbrev pub live_count : List Bool → ℕ
live_count alive = count_by (λ b. b) alive

-- the tokens of a field in the live documents of a part that has this many in all: a division by 0 gives 0
abbrev pub estimate : ℕ × FieldEntry → Part → ℕ → ℕ
estimate f part total =
    if list_all (λ b. b) part.alive then total
    else (if has_lengths f.1 then sum (map length_of_id (kept part.alive (norms_at part.contents f.0)))
    else total * live_count part.alive / part.contents.documents)

-- the estimate of several parts, each with its total, at most the greatest u64
abbrev pub joined_estimate : ℕ × FieldEntry → List (Part × ℕ) → ℕ
joined_estimate f parts = min (2 ^ 64 - 1) (sum (map (λ p. estimate f p.0 p.1) parts))
