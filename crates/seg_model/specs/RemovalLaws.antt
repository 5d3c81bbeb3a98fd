-- The laws that the applying of deletes uses.
use Rattle.std.specs.Prelude.{◌≡◌, ◌≤◌, ℕ, true, not, ◌&&◌, nat_lt, List, [], ◌∷◌, ◌++◌, map, length, replicate}
use Rattle.std.specs.List.{All, enumerate_from}
use Rattle.seg_values.specs.Tree.{Document}
use Rattle.seg_model.specs.Fields.{Schema, Analyzer}
use Rattle.seg_model.specs.Occurrences.{has_term}
use Rattle.seg_model.specs.DocumentTerms.{Terms, all_terms}
use Rattle.seg_model.specs.Operations.{Operation, TermKey, delete, additions, alive_after, both_marked}
use Rattle.seg_model.specs.Postings.{terms_of_field, documents_with, marks}
use Rattle.seg_model.specs.Stamps.{stamped_deletes, addition_stamps, undeleted_by}
use Rattle.seg_model.specs.DeletesByPostings.{has_posting, uncleared_by}

-- ---- postings

-- the postings of a term name the documents that have it, and no others
abbrev pub PostingsTellTerms : Type 0
PostingsTellTerms = (schema : Schema) (analyzer : Analyzer) (documents : List Document) (field : ℕ) (bytes : List ℕ) →
    map (λ d. has_term schema analyzer d field bytes) documents
    ≡ marks (length documents) (documents_with (terms_of_field (all_terms schema analyzer documents) field) bytes)

-- ---- stamps

-- what later operations leave alive of a batch is told by stamps, and deletes that came before it play no part
abbrev pub AliveByStamps : Type 0
AliveByStamps = (schema : Schema) (analyzer : Analyzer) (before batch after : List Operation)
    → alive_after schema analyzer batch after
    ≡ undeleted_by schema analyzer (addition_stamps (length before) batch) (additions batch)
    (stamped_deletes 0 (before ++ batch ++ after))

-- the same, as the postings of the batch's documents tell it
abbrev pub AliveByPostings : Type 0
AliveByPostings = (schema : Schema) (analyzer : Analyzer) (before batch after : List Operation)
    → alive_after schema analyzer batch after
    ≡ uncleared_by (all_terms schema analyzer (additions batch)) (addition_stamps (length before) batch)
    (stamped_deletes 0 (before ++ batch ++ after))

-- ---- one delete after another

-- no delete has a greater stamp than any of the documents
abbrev pub ArePassed : List ℕ → List (ℕ × Operation) → Type 0
ArePassed stamps stamped = All (λ s. All (λ (d : ℕ × Operation). d.0 ≤ s) stamped) stamps

-- deletes may be applied in turn: one by a term clears the documents with smaller stamps that its
-- postings name, and one that is passed none
pub record DeletesClearInTurn : Type 0 where
  pub none : (terms : List Terms) (stamps : List ℕ) → uncleared_by terms stamps [] ≡ replicate (length stamps) true
  pub one : (terms : List Terms) (stamps : List ℕ) (stamp : ℕ) (term : TermKey)
      → uncleared_by terms stamps ((stamp, delete term) ∷ [])
      ≡ map (λ s. not (nat_lt s.1 stamp && has_posting terms s.0 term)) (enumerate_from 0 stamps)
  pub more : (terms : List Terms) (stamps : List ℕ) (first second : List (ℕ × Operation))
      → uncleared_by terms stamps (first ++ second)
      ≡ both_marked (uncleared_by terms stamps first) (uncleared_by terms stamps second)
  pub passed : (terms : List Terms) (stamps : List ℕ) (stamped : List (ℕ × Operation)) → ArePassed stamps stamped →
      uncleared_by terms stamps stamped ≡ replicate (length stamps) true
