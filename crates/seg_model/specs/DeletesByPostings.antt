-- What the postings of documents tell of deletes, where a document is known by its number.
use Rattle.std.specs.Prelude.{ℕ, List, map, Bool, false, not, ◌&&◌, nat_lt}
use Rattle.std.specs.List.{list_any, list_all, enumerate_from}
use Rattle.seg_model.specs.Operations.{Operation, TermKey, add, delete, delete_all, is_empty}
use Rattle.seg_model.specs.DocumentTerms.{Terms}
use Rattle.seg_model.specs.Postings.{terms_of_field, documents_with, is_member}

-- whether the postings of a term name a document
abbrev pub has_posting : List Terms → ℕ → TermKey → Bool
has_posting terms i term = is_member i (documents_with (terms_of_field terms term.field) term.bytes)

-- whether an operation deletes a document, as the postings tell
abbrev pub clears : List Terms → ℕ → Operation → Bool
clears terms i (add document) = false
clears terms i (delete term) = has_posting terms i term
clears terms i (delete_all ts) = not (is_empty ts) && list_all (has_posting terms i) ts

-- whether a delete with a greater stamp than the document's deletes it, as the postings tell
abbrev pub is_cleared_by : List Terms → ℕ → ℕ → List (ℕ × Operation) → Bool
is_cleared_by terms i stamp stamped = list_any (λ d. nat_lt stamp d.0 && clears terms i d.1) stamped

-- for each document, by its stamp, whether no delete with a greater stamp deletes it, as the postings tell
abbrev pub uncleared_by : List Terms → List ℕ → List (ℕ × Operation) → List Bool
uncleared_by terms stamps stamped = map (λ s. not (is_cleared_by terms s.0 s.1 stamped)) (enumerate_from 0 stamps)
