use Rattle.std.proofs.Common.{◌≡◌, ◌≤◌, ◌++◌, ◌∷◌, [], drop, take, length, map}
use Rattle.std.specs.Prelude.{if◌then◌else◌}
use Rattle.std.specs.List.{enumerate_from, flat_map}
use Rattle.seg_model.specs.Fields.{has_lengths}
use Rattle.seg_norms.specs.StoredNorms.{lengths_of_parts, lengths_for}
use Rattle.seg_norms.proofs.field_norm_readers.fit_parts.Given as goal

-- the parts so far, with those that are wanted of the fields that are left, are all that are wanted
abbrev pub invariant-loop-field : goal.invariant-loop-field
invariant-loop-field l = record {
  same : take l.place (lengths_of_parts l.parts) ++ map (λ f. (f, l.max_doc)) (flat_map (λ f. if has_lengths f.1 then f.0 ∷ [] else []) (enumerate_from l.field (drop l.field l.entries))) ≡ lengths_for l.entries l.max_doc;
  within : l.place ≤ length (lengths_of_parts l.parts);
}
