-- Terms that came, by their keys, and one more occurrence.
use Rattle.std.specs.Prelude.{◌≡◌, ◌≤◌, ◌^◌, ℕ, List, [], ◌∷◌, ◌++◌, length}
use Rattle.seg_column_format.specs.NumberedTerms.{term_number, with_term}
use Rattle.seg_terms.specs.NumberedOccurrences.{AreBelow}
use Rattle.seg_terms.specs.declared.hit.Hit.{Hit}
use Rattle.seg_terms.specs.declared.known_terms.KnownTerms.{KnownTerms}

-- all occurrences are of terms with keys
abbrev pub AreKnown : KnownTerms → Type 0
AreKnown t = (length t.keys.keys ≤ 2 ^ 32) × AreBelow (length t.keys.keys) t.hits.items

-- an occurrence of the term with a key came
pub record IsAdded (key : List ℕ) (hit : Hit) (old new : KnownTerms) : Type 0 where
  pub keys : new.keys.keys ≡ with_term old.keys.keys key
  pub hits : new.hits.items ≡ old.hits.items ++ record { term = term_number old.keys.keys key; hit = hit } ∷ []
