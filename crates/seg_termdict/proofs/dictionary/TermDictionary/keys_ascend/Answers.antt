use Rattle.std.proofs.Common.{List, map, subst}
use Rattle.std.specs.Cmp.Lexicographic.{slice_cmp}
use Rattle.std.specs.List.Sorted.{IsStrictlySortedBy}
use Rattle.std.specs.Ordering.{nat_cmp}
use Rattle.seg_termdict.specs.Dictionary.{Term}
use Rattle.seg_termdict.proofs.SortedKeys.{dictionary_sorted}
use Rattle.seg_termdict.proofs.dictionary.TermDictionary.keys_ascend.Goals as goal

pub returns : goal.returns
returns c = subst (λ (ts : List Term). IsStrictlySortedBy (slice_cmp nat_cmp) (map (λ (t : Term). t.0) ts)) c.self.view_is (dictionary_sorted c.self.inside.bytes c.self.invariant.1)
