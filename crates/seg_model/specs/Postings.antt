-- The documents that the postings of a term name.
use Rattle.std.specs.Prelude.{ℕ, List, [], map, Bool, ◌==◌, unwrap_or}
use Rattle.std.specs.List.{list_any, range_with_len, slice_index_or}
use Rattle.std.specs.FinMap.{get, empty}
use Rattle.seg_model.specs.DocumentTerms.{Terms}

-- the terms of one field, out of those of each; none where there is no such field
abbrev pub terms_of_field : List Terms → ℕ → Terms
terms_of_field terms field = slice_index_or terms field empty

-- the documents that the postings at some bytes name; none where the bytes are no term
abbrev pub documents_with : Terms → List ℕ → List ℕ
documents_with terms bytes = map (λ p. p.document) (unwrap_or (get terms bytes) [])

-- whether a number is among some
abbrev pub is_member : ℕ → List ℕ → Bool
is_member i ids = list_any (λ id. i == id) ids

-- for each number below n, whether it is among some
abbrev pub marks : ℕ → List ℕ → List Bool
marks n ids = map (λ i. is_member i ids) (range_with_len 0 n)
