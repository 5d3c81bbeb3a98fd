-- Cases of terms in order: ordinals, ranges, and merged terms.
use Rattle.std.proofs.Common.{ℕ, [], ◌∷◌, refl}
use Rattle.std.specs.Prelude.{codes}
use Rattle.std.specs.FinMap.{entries-from_sorted}
use Rattle.seg_termdict.specs.SortedTerms.{key_cmp}
use Rattle.seg_termdict.proofs.Exports.{merged_terms_answer}
use Rattle.seg_model_cases.specs.Dictionaries.{listed, words, segments, DictionaryCases}

pub dictionary_cases : DictionaryCases
dictionary_cases = record {
  ordinals = rw (entries-from_sorted key_cmp listed tt) refl;
  infos = rw (entries-from_sorted key_cmp listed tt) refl;
  all = rw (entries-from_sorted key_cmp listed tt) refl;
  bounds = rw (entries-from_sorted key_cmp listed tt) refl;
  backward = rw (entries-from_sorted key_cmp listed tt) refl;
  between = rw (entries-from_sorted key_cmp words tt) refl;
  accepted = rw (entries-from_sorted key_cmp listed tt) refl;
  merged = λ i. merged_terms_answer ℕ segments (codes "a") i ∷ merged_terms_answer ℕ segments (codes "b") i ∷ merged_terms_answer ℕ segments (codes "c") i ∷ [];
}
