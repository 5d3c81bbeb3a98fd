-- What the bytes of a term's postings and positions are read as.
use Rattle.std.specs.Prelude.{ℕ, zero, suc, ◌+◌, ◌-◌, ◌^◌, ◌&&◌, nat_lt, nat_le, if◌then◌else◌, List, [], ◌∷◌, map, Option, Some, None, option_map, option_and_then}
use Rattle.seg_common.specs.Varint.{varint_at}
use Rattle.seg_model.specs.DocumentTerms.{presence, frequency, positions, Posting}
use Rattle.seg_postings.specs.declared.record_kind.RecordKind.{RecordKind}
use Rattle.seg_postings.specs.declared.record_kind.RecordKind.TheVariants.{Documents, Counts, Positions}
use Rattle.seg_postings.specs.RecordKinds.{kind_of_byte}

-- a document, and how often the term occurs in it (1, where that isn't kept)
pub record Counted : Type 0 where
  pub document : ℕ
  pub count : ℕ

-- a number that lies from `least` on and below `limit`
abbrev pub in_bounds : ℕ → ℕ → ℕ × List ℕ → Option (ℕ × List ℕ)
in_bounds least limit n = if nat_le least n.0 && nat_lt n.0 limit then Some n else None

-- such a number at the front of some bytes, and the bytes after it
abbrev pub number_at : ℕ → ℕ → List ℕ → Option (ℕ × List ℕ)
number_at least limit bytes = option_and_then (in_bounds least limit) (varint_at bytes)

-- how often the term occurs in a document
abbrev pub count_at : RecordKind → List ℕ → Option (ℕ × List ℕ)
count_at Documents bytes = Some (1, bytes)
count_at Counts bytes = number_at 1 (2 ^ 32) bytes
count_at Positions bytes = number_at 1 (2 ^ 32) bytes

-- this many documents, of which the first lies at least `least` after `before`, in all of the bytes
unfoldable pub counts_at : RecordKind → ℕ → ℕ → ℕ → List ℕ → Option (List Counted)
counts_at kind zero before least [] = Some []
counts_at kind zero before least (b ∷ bytes) = None
counts_at kind (suc n) before least bytes =
    option_and_then (λ d. option_and_then (λ c.
    option_map (λ rest. record { document = before + d.0; count = c.0 } ∷ rest)
    (counts_at kind n (before + d.0) 1 c.1))
    (count_at kind d.1))
    (number_at least (2 ^ 32 - 1 - before) bytes)

-- this many positions, each as its difference from the one before, and the bytes after them
unfoldable pub positions_at : ℕ → ℕ → List ℕ → Option (List ℕ × List ℕ)
positions_at zero before bytes = Some ([], bytes)
positions_at (suc n) before bytes =
    option_and_then (λ p. option_map (λ r. ((before + p.0) ∷ r.0, r.1)) (positions_at n (before + p.0) p.1))
    (number_at 0 (2 ^ 32 - before) bytes)

-- the postings of documents whose positions are all of the bytes
unfoldable pub with_positions : List Counted → List ℕ → Option (List Posting)
with_positions [] [] = Some []
with_positions [] (b ∷ bytes) = None
with_positions (c ∷ cs) bytes =
    option_and_then
    (λ ps. option_map (λ rest. record { document = c.document; recorded = positions ps.0 } ∷ rest)
    (with_positions cs ps.1))
    (positions_at c.count 0 bytes)

-- what a kind keeps of counted documents, with the bytes of their positions
abbrev pub postings_by : RecordKind → List Counted → List ℕ → Option (List Posting)
postings_by Documents cs [] = Some (map (λ c. record { document = c.document; recorded = presence }) cs)
postings_by Documents cs (b ∷ bytes) = None
postings_by Counts cs [] = Some (map (λ c. record { document = c.document; recorded = frequency c.count }) cs)
postings_by Counts cs (b ∷ bytes) = None
postings_by Positions cs bytes = with_positions cs bytes

-- a term's kind and postings
pub record TermPostings : Type 0 where
  pub kind : RecordKind
  pub postings : List Posting

-- this many documents of a kind, from their bytes and those of their positions
abbrev pub postings_of_kind : ℕ → List ℕ → List ℕ → RecordKind → Option TermPostings
postings_of_kind n bytes position_bytes kind =
    option_map (λ ps. record { kind = kind; postings = ps })
    (option_and_then (λ cs. postings_by kind cs position_bytes) (counts_at kind n 0 0 bytes))

-- the kind and the postings of a term of this many documents, from all bytes of its two ranges
abbrev pub term_postings : ℕ → List ℕ → List ℕ → Option TermPostings
term_postings n [] position_bytes = None
term_postings n (b ∷ bytes) position_bytes = option_and_then (postings_of_kind n bytes position_bytes) (kind_of_byte b)
