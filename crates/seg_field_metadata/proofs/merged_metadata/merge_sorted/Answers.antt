use Rattle.std.proofs.Common.{rules, ◌≡◌, ◌++◌, ◌∷◌, List, map, ap, sym, subst, ◌∙◌}
use Rattle.seg_field_metadata.specs.GroupedEntries.{grouped}
use Rattle.seg_field_metadata.specs.MetadataEntries.{Entry, entry_of}
use Rattle.seg_field_metadata.specs.MergedMetadata.{MergeFails}
use Rattle.seg_field_metadata.proofs.merged_metadata.merge_sorted.Goals as goal

pub returns-in-Err-clause-err : goal.returns-in-Err-clause-err
returns-in-Err-clause-err c =
    let rest = map entry_of c.next.new.self.rest.items in
    let all : map entry_of c.loop-next.next-iterator.rest.items ≡ entry_of c.in-Some.next ∷ rest = search rules in
    subst (λ (es : List Entry). MergeFails es c.in-Err.e)
    (ap (λ (es : List Entry). map entry_of c.loop-next.merged.items ++ grouped c.loop-next.last es) (sym all)
    ∙ c.loop-next.invariant.are)
    (c.in-Err.ensures.err rest)
