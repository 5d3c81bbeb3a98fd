-- What the postings of a field are while they are written: the terms so far, and the one that is open.
use Rattle.std.specs.Prelude.{◌≡◌, ℕ, ◌+◌, ◌-◌, ◌<◌, ◌≤◌, ◌^◌, List, [], ◌∷◌, ◌++◌, length, Option, Some, None, option_map, IfSome}
use Rattle.std.specs.Ordering.{nat_cmp}
use Rattle.std.specs.Cmp.Lexicographic.{slice_cmp}
use Rattle.std.specs.declared.cmp.Ordering.TheVariants.{Less}
use Rattle.seg_model.specs.DocumentTerms.{Posting}
use Rattle.seg_postings.specs.declared.record_kind.RecordKind.{RecordKind}
use Rattle.seg_postings.specs.declared.record_kind.RecordKind.TheVariants.{Positions}
use Rattle.seg_postings.specs.WritablePostings.{recorded_as, Rise}

-- a term with its postings, and what these keep
pub record TermWritten : Type 0 where
  pub bytes : List ℕ
  pub kind : RecordKind
  pub postings : List Posting

-- the field, the total of its tokens, its terms that are closed, and the one that is current
pub record FieldWriting : Type 0 where
  pub field : ℕ
  pub total : ℕ
  pub terms : List TermWritten
  pub current : Option TermWritten

-- nothing yet
abbrev pub fresh : ℕ → ℕ → FieldWriting
fresh field total = record { field = field; total = total; terms = []; current = None }

-- a term is opened
abbrev pub with_term : List ℕ → RecordKind → FieldWriting → FieldWriting
with_term bytes kind w = record w { current = Some (record { bytes = bytes; kind = kind; postings = [] }) }

-- the open term occurs in a document
abbrev pub in_document : ℕ → ℕ → List ℕ → TermWritten → TermWritten
in_document document count places t =
    record t {
      postings = t.postings
          ++ record { document = document; recorded = recorded_as t.kind count places } ∷ [];
    }

abbrev pub with_document : ℕ → ℕ → List ℕ → FieldWriting → FieldWriting
with_document document count places w = record w { current = option_map (in_document document count places) w.current }

-- the terms, with the open one
abbrev pub with_open : List TermWritten → Option TermWritten → List TermWritten
with_open terms None = terms
with_open terms (Some t) = terms ++ t ∷ []

-- the open term is closed
abbrev pub closed : FieldWriting → FieldWriting
closed w = record w { terms = with_open w.terms w.current; current = None }

-- the last term, or else the one before
abbrev pub last_written : Option TermWritten → List TermWritten → Option TermWritten
last_written before [] = before
last_written before (t ∷ ts) = last_written (Some t) ts

-- the least document that may come next
abbrev pub next_document : ℕ → List Posting → ℕ
next_document least [] = least
next_document least (p ∷ ps) = next_document (p.document + 1) ps

-- a term may be opened: none is open, and the term is greater than the last
pub record MayOpen (w : FieldWriting) (bytes : List ℕ) : Type 0 where
  pub closed : w.current ≡ None
  pub ascends : IfSome (last_written None w.terms) (λ t. slice_cmp nat_cmp t.bytes bytes ≡ Less)

-- as many positions as the count where positions are kept, else none
abbrev pub HasPositions : RecordKind → ℕ → List ℕ → Type 0
HasPositions Positions count places = length places ≡ count
HasPositions _ count places = places ≡ []

-- a document may be added to a term: it comes after the others, and the term occurs in it, at
-- positions that don't fall, below 2 ^ 32
pub record MayOccur (document count : ℕ) (places : List ℕ) (t : TermWritten) : Type 0 where
  pub ascends : next_document 0 t.postings ≤ document
  pub limit : document < 2 ^ 32 - 1
  pub some : 1 ≤ count
  pub counted : HasPositions t.kind count places
  pub rise : Rise 0 places
