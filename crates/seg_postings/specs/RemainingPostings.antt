-- The postings of a term from some place of its bytes on.
use Rattle.std.specs.Prelude.{ℕ, ◌+◌, ◌-◌, ◌^◌, ◌&&◌, nat_eq, nat_lt, Bool, false, List, ◌∷◌, Option, Some, None, option_map, option_and_then}
use Rattle.std.specs.List.{list_all}
use Rattle.seg_model.specs.DocumentTerms.{Recorded, presence, frequency, positions, Posting}
use Rattle.seg_postings.specs.declared.record_kind.RecordKind.{RecordKind}
use Rattle.seg_postings.specs.declared.record_kind.RecordKind.TheVariants.{Documents, Counts, Positions}
use Rattle.seg_postings.specs.RecordKinds.{kind_byte}
use Rattle.seg_postings.specs.Postings.{number_at, count_at, counts_at, positions_at, postings_by, TermPostings}

-- a document and how often the term occurs in it, at the front of some bytes, and the bytes after them
unfoldable pub counted_at : RecordKind → ℕ → ℕ → List ℕ → Option (ℕ × ℕ × List ℕ)
counted_at kind before least bytes =
    option_and_then (λ d. option_map (λ c. (before + d.0, c.0, c.1)) (count_at kind d.1))
    (number_at least (2 ^ 32 - 1 - before) bytes)

-- what is recorded of a document in which the term occurs this often, and the bytes of positions after it
unfoldable pub recorded_at : RecordKind → ℕ → List ℕ → Option (Recorded × List ℕ)
recorded_at Documents count bytes = Some (presence, bytes)
recorded_at Counts count bytes = Some (frequency count, bytes)
recorded_at Positions count bytes = option_map (λ r. (positions r.0, r.1)) (positions_at count 0 bytes)

-- the postings of this many documents, of which the first lies at least `least` after `before`
unfoldable pub postings_at : RecordKind → ℕ → ℕ → ℕ → List ℕ → List ℕ → Option (List Posting)
postings_at kind n before least bytes position_bytes = option_and_then (λ cs. postings_by kind cs position_bytes)
    (counts_at kind n before least bytes)

-- the postings from a document on that is known with its count, and this many after it
unfoldable pub postings_from : RecordKind → ℕ → ℕ → ℕ → List ℕ → List ℕ → Option (List Posting)
postings_from kind document count n bytes position_bytes =
    option_and_then (λ cs. postings_by kind (record { document = document; count = count } ∷ cs) position_bytes)
    (counts_at kind n document 1 bytes)

-- whether there are postings, each of a document below `max_doc`
abbrev pub are_low : ℕ → Option (List Posting) → Bool
are_low max_doc None = false
are_low max_doc (Some ps) = list_all (λ p. nat_lt p.document max_doc) ps

-- whether there are postings of the kind, each of a document below `max_doc`
abbrev pub is_term_of : RecordKind → ℕ → Option TermPostings → Bool
is_term_of kind max_doc None = false
is_term_of kind max_doc (Some t) = nat_eq (kind_byte t.kind) (kind_byte kind)
    && list_all (λ p. nat_lt p.document max_doc) t.postings
