use Rattle.std.proofs.Common.{◌≡◌, drop, map, option_map}
use Rattle.seg_build.specs.DocumentLengths.{with_lengths}
use Rattle.seg_check.specs.declared.indexed_value.IndexedValue.{IndexedValue}
use Rattle.seg_build.proofs.lengths.record_lengths.Given as goal

-- what is so far, with what is left, is all
abbrev pub invariant-loop-value : goal.invariant-loop-value
invariant-loop-value l =
    option_map (with_lengths l.document l.fields (map (λ (v : IndexedValue). v.field) (drop l.value-index l.values))) l.norms
    ≡ option_map (with_lengths l.document l.fields (map (λ (v : IndexedValue). v.field) l.values)) l.initial.norms
