use Rattle.std.proofs.Common.{◌≡◌, ◌≤◌, ◌++◌, ◌∷◌, [], drop, take, length}
use Rattle.std.specs.Prelude.{if◌then◌else◌}
use Rattle.std.specs.List.{enumerate_from, flat_map}
use Rattle.seg_model.specs.Fields.{is_indexed}
use Rattle.seg_segment.specs.TermFiles.{indexed_fields}
use Rattle.seg_open.specs.IndexedParts.{part_fields}
use Rattle.seg_open.proofs.term_files.are_parts_of.Given as goal

-- the parts so far, with those that are wanted of the fields that are left, are all that are wanted
abbrev pub invariant-loop-field : goal.invariant-loop-field
invariant-loop-field l = record {
  same : take l.place (part_fields l.file) ++ flat_map (λ f. if is_indexed f.1 then f.0 ∷ [] else []) (enumerate_from l.field (drop l.field l.entries)) ≡ indexed_fields l.entries;
  within : l.place ≤ length (part_fields l.file);
}
