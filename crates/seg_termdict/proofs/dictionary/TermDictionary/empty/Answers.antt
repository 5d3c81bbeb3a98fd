use Rattle.std.proofs.Common.{◌≡◌, ℕ, List, sym, subst, ◌∙◌}
use Rattle.seg_termdict.specs.Dictionary.{IsDictionary, count_of}
use Rattle.seg_termdict.proofs.DictionaryTerms.{none_counted}
use Rattle.seg_termdict.proofs.dictionary.TermDictionary.empty.Goals as goal

pub invariant_of-result : goal.invariant_of-result
invariant_of-result c = subst (λ (bytes : List ℕ). (0 ≡ count_of bytes) × IsDictionary bytes) (sym c.in-Ok.ensures.ok) (none_counted c.in_ok-bytes.bytes.items (sym c.in_ok-bytes.ensures.ok ∙ c.in_ok-create.ensures.ok), c.in_ok-bytes.ensures.dictionary)
