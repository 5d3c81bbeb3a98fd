-- The first posting of a list of occurrences.
use Rattle.std.specs.Prelude.{◌≡◌, ◌<◌, ◌≤◌, ℕ, List, ◌∷◌, map, length, take, drop, slice_index}
use Rattle.seg_model.specs.DocumentTerms.{positions}
use Rattle.seg_terms.specs.declared.hit.Hit.{Hit}
use Rattle.seg_terms.specs.PostingGroups.{grouped}

-- the first n make the first posting, and the others those after it
pub record IsFirstRun (hits : List Hit) (n : ℕ) : Type 0 where
  pub some : 0 < n
  pub within : n ≤ length hits
  pub first : grouped hits ≡ record {
    document = slice_index (map (λ h. h.document) hits) 0;
    recorded = positions (map (λ h. h.position) (take n hits));
  } ∷ grouped (drop n hits)
