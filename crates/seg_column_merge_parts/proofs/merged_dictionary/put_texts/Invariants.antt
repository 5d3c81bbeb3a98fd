use Rattle.std.proofs.Common.{◌≡◌, ◌++◌, drop, map}
use Rattle.std.specs.List.{flat_map}
use Rattle.seg_column_merge_parts.proofs.merged_dictionary.put_texts.Given as goal

-- what is written, with what is left, is all
abbrev pub invariant-loop-term : goal.invariant-loop-term
invariant-loop-term l = record {
  all : l.out.items ++ flat_map (λ term. term) (map (λ t. t.now) (drop l.term-index l.terms))
      ≡ l.initial.out.items ++ flat_map (λ term. term) (map (λ t. t.now) l.terms);
}
