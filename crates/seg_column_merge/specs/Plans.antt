-- What is decided of the groups of a sorted table before anything is written.
use Rattle.std.specs.Prelude.{◌≡◌, ℕ, ◌≤◌, List, [], ◌∷◌, Some, length, map, slice_range}
use Rattle.seg_column_merge_parts.specs.Tables.{row_of}
use Rattle.seg_column_merge_parts.specs.declared.tables.TableRow.{TableRow}
use Rattle.seg_column_merge.specs.Decisions.{merged_type}
use Rattle.seg_column_merge.specs.Groups.{IsGroup}
use Rattle.seg_column_merge.specs.MergedFiles.{IsColumnGroup, values_of}
use Rattle.seg_column_merge.specs.declared.merge.Merge.{Merge}
use Rattle.seg_column_merge.specs.declared.planned_group.PlannedGroup.{PlannedGroup}

-- where the rows end that have the key of the one at a place, and which type their column has
pub record IsPlanned (merge : Merge) (table : List TableRow) (start : ℕ) (g : PlannedGroup) : Type 0 where
  pub group : IsGroup table start g.end
  pub columns : IsColumnGroup merge (slice_range table start g.end)
  pub decided : merged_type (map row_of (slice_range table start g.end))
      (values_of merge (slice_range table start g.end)) ≡ Some g.column_type

-- so it is of all groups from a place on
abbrev pub ArePlanned : Merge → List TableRow → ℕ → List PlannedGroup → Type 0
ArePlanned merge table start [] = length table ≤ start
ArePlanned merge table start (g ∷ gs) = IsPlanned merge table start g × ArePlanned merge table g.end gs
