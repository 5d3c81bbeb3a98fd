use Rattle.std.proofs.Common.{◌≡◌, drop}
use Rattle.std.specs.List.{AllByRecursion}
use Rattle.seg_index_build.proofs.source_segments.have_settings.Given as goal

-- all have them where those that are left do
abbrev pub invariant-loop-index : goal.invariant-loop-index
invariant-loop-index l = record {
  so : AllByRecursion (λ i. i.index_settings ≡ l.settings) (drop l.index-index l.indices)
      → AllByRecursion (λ i. i.index_settings ≡ l.settings) l.indices;
  back : AllByRecursion (λ i. i.index_settings ≡ l.settings) l.indices
      → AllByRecursion (λ i. i.index_settings ≡ l.settings) (drop l.index-index l.indices);
}
