use Rattle.std.proofs.Common.{◌≡◌, ◌++◌, map, drop}
use Rattle.std.specs.List.{AllByRecursion}
use Rattle.seg_merger.specs.JoinedTerms.{source_of}
use Rattle.seg_merger.specs.MovedPostings.{SourceTerms, Ascend}
use Rattle.seg_merger.proofs.joined_terms.sources_of.Given as goal

-- what is done, with what is left, is all
abbrev pub invariant-loop-part : goal.invariant-loop-part
invariant-loop-part l = record {
  are : l.sources.items ++ map (source_of l.field) (drop l.part-index l.parts) ≡ map (source_of l.field) l.parts;
  ascend : AllByRecursion (λ (s : SourceTerms). Ascend s.terms) l.sources.items;
}
