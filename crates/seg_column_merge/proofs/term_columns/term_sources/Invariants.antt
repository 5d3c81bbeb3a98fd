use Rattle.std.proofs.Common.{◌≡◌, drop, length, map, take}
use Rattle.std.specs.Prelude.{replicate}
use Rattle.std.specs.Vec.Iter.{into_iter_items}
use Rattle.seg_column_merge_parts.specs.TermSources.{AreTermSources}
use Rattle.seg_column_merge_parts.specs.declared.source.Source.TheVariants.{Nothing}
use Rattle.seg_column_merge.proofs.term_columns.term_sources.Given as goal

abbrev pub invariant-loop-mapped : goal.invariant-loop-mapped
invariant-loop-mapped l = record {
  many : length (into_iter_items l.initial.mapped-iterator) ≡ length l.rows;
  left : into_iter_items l.mapped-iterator ≡ drop l.at (into_iter_items l.initial.mapped-iterator);
  done : AreTermSources (replicate l.files Nothing) (map (λ r. r.column) (take l.at l.rows))
      (map (λ v. v.items) (into_iter_items l.initial.mapped-iterator)) l.sources.items;
}
