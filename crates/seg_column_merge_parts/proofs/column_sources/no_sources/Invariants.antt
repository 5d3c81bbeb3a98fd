use Rattle.std.proofs.Common.{◌≡◌, replicate}
use Rattle.seg_column_merge_parts.specs.declared.source.Source.TheVariants.{Nothing}
use Rattle.seg_column_merge_parts.proofs.column_sources.no_sources.Given as goal

abbrev pub invariant-loop-file : goal.invariant-loop-file
invariant-loop-file l = l.sources.items ≡ replicate l._file Nothing
