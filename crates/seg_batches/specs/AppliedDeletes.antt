-- Which documents of a segment deletes leave.
use Rattle.std.specs.Prelude.{◌≡◌, ℕ, ◌+◌, ◌<◌, ◌≤◌, ◌&&◌, ◌↔◌, Bool, true, false, not, min, List, map, replicate, Option, Some, None, Contains, IsTrue, Result, OnOk}
use Rattle.std.specs.List.{filter, list_any, range_with_len, enumerate_from}
use Rattle.seg_model.specs.DocumentTerms.{Terms}
use Rattle.seg_model.specs.DeletesByPostings.{has_posting}
use Rattle.seg_batches.specs.declared.doc_opstamp_mapping.DocToOpstampMapping.{DocToOpstampMapping}
use Rattle.seg_batches.specs.declared.operation.DeleteOperation.{DeleteOperation}
use Rattle.seg_batches.specs.DeletedDocuments.{IsMapped, is_deleted}
use Rattle.seg_batches.specs.Queues.{Queue}
use Rattle.seg_batches.specs.declared.term_target.TermTarget.{TermTarget}

-- the ids below a number that are named, ascending
abbrev pub named_below : ℕ → (ℕ → Bool) → List ℕ
named_below documents names = filter names (range_with_len 0 documents)

-- whether the postings of a target's term name a document
abbrev pub term_names : List Terms → TermTarget → ℕ → Bool
term_names terms target document = has_posting terms document target.0

-- each of this many documents has its stamp
abbrev pub AreMapped : DocToOpstampMapping → ℕ → Type 0
AreMapped mapping documents = (document : ℕ) → document < documents → IsMapped mapping document

-- whether a delete removes a document: it was added before, and the delete's target names it
abbrev pub removes : {T : Type 0} → (T → ℕ → Bool) → DocToOpstampMapping → ℕ → DeleteOperation T → Bool
removes names mapping document operation =
    is_deleted mapping document operation.opstamp && names operation.target document

-- whether none of the deletes removes a document
abbrev pub is_left_by : {T : Type 0} → (T → ℕ → Bool) → DocToOpstampMapping → List (DeleteOperation T) → ℕ → Bool
is_left_by names mapping operations document = not (list_any (removes names mapping document) operations)

-- for each of this many documents, whether none of the deletes removes it
abbrev pub left_by : {T : Type 0} → (T → ℕ → Bool) → DocToOpstampMapping → ℕ → List (DeleteOperation T) → List Bool
left_by names mapping documents operations = map (is_left_by names mapping operations) (range_with_len 0 documents)

-- what is told of which documents are left: nothing where all are, else which, and one isn't
abbrev pub IsTold : ℕ → List Bool → Option (List Bool) → Type 0
IsTold documents left None = left ≡ replicate documents true
IsTold documents left (Some alive) = (alive ≡ left) × Contains alive false

-- what stays of a set: the numbers that are in and pass
abbrev pub staying : (ℕ → Bool) → List Bool → List Bool
staying passes set = map (λ m. m.1 && passes m.0) (enumerate_from 0 set)

-- a queue keeps its deletes, and no fewer of them are flushed
pub record KeepsDeletes {T : Type 0} (old new : Queue T) : Type 0 where
  pub operations : new.operations ≡ old.operations
  pub rises : old.flushed ≤ new.flushed

-- some deletes of a queue are applied to a set, unless that fails, and a cursor is then within what is flushed
pub record Applies {T R E : Type 0} (names : T → ℕ → Bool) (mapping : DocToOpstampMapping)
    (operations : List (DeleteOperation T)) (result : Result R E) (set left : List Bool) (cursor : ℕ)
    (old new : Queue T) : Type 0 where
  pub alive : OnOk result (left ≡ staying (is_left_by names mapping operations) set)
  pub within : cursor ≤ new.flushed
  pub keeps : KeepsDeletes old new

-- a cursor passes one of this many deletes, and at the end it stays
pub record Advances (many old new : ℕ) (passed : Bool) : Type 0 where
  pub passes : IsTrue passed ↔ (old < many)
  pub position : new ≡ min (old + 1) many
