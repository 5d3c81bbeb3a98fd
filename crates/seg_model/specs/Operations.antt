-- Additions and deletes, in the order of their stamps, and what they leave.
use Rattle.std.specs.Prelude.{ℕ, ◌-◌, List, [], ◌∷◌, ◌++◌, Bool, true, false, not, ◌&&◌, Option, Some, None, take, drop}
use Rattle.std.specs.List.{flat_map, list_any, list_all}
use Rattle.seg_values.specs.Tree.{Document}
pub use Rattle.seg_common.specs.Marks.{kept, both_marked}
pub use Rattle.seg_values.specs.ValueBytes.{TermKey}
use Rattle.seg_model.specs.Fields.{Schema, Analyzer}
use Rattle.seg_model.specs.Occurrences.{has_term}

-- an operation; its stamp is its place
pub data Operation : Type 0 where
  add : Document → Operation
  delete : TermKey → Operation
  delete_all : List TermKey → Operation

-- documents, and for each whether it is alive
pub record Batch : Type 0 where
  pub documents : List Document
  pub alive : List Bool

-- the live documents
abbrev pub live : Batch → List Document
live batch = kept batch.alive batch.documents

-- a list without members
abbrev pub is_empty : {X : Type 0} → List X → Bool
is_empty [] = true
is_empty (x ∷ xs) = false

-- whether an operation deletes a document: it names a term of it, or some terms, and all are terms of it
abbrev pub deletes : Schema → Analyzer → Document → Operation → Bool
deletes schema analyzer document (add other) = false
deletes schema analyzer document (delete term) = has_term schema analyzer document term.field term.bytes
deletes schema analyzer document (delete_all terms) = not (is_empty terms)
    && list_all (λ (t : TermKey). has_term schema analyzer document t.field t.bytes) terms

-- whether a document is removed by an operation that comes later, in whatever batch
abbrev pub is_removed : Schema → Analyzer → Document → List Operation → Bool
is_removed schema analyzer document later = list_any (deletes schema analyzer document) later

-- the documents that a batch adds
abbrev pub additions : List Operation → List Document
additions [] = []
additions (add document ∷ operations) = document ∷ additions operations
additions (delete term ∷ operations) = additions operations
additions (delete_all terms ∷ operations) = additions operations

-- for each document that a batch adds, whether no later operation, in the batch or after it, removes it
abbrev pub alive_after : Schema → Analyzer → List Operation → List Operation → List Bool
alive_after schema analyzer [] after = []
alive_after schema analyzer (add document ∷ operations) after =
    not (is_removed schema analyzer document (operations ++ after)) ∷ alive_after schema analyzer operations after
alive_after schema analyzer (delete term ∷ operations) after = alive_after schema analyzer operations after
alive_after schema analyzer (delete_all terms ∷ operations) after = alive_after schema analyzer operations after

-- the operations cut in batches, of which the first begins at the place `from`
abbrev pub batches_from : Schema → Analyzer → ℕ → List ℕ → List Operation → List Batch
batches_from schema analyzer from [] operations =
    record { documents = additions operations; alive = alive_after schema analyzer operations [] } ∷ []
batches_from schema analyzer from (cut ∷ cuts) operations =
    let batch = take (cut - from) operations in
    let rest = drop (cut - from) operations in
    record { documents = additions batch; alive = alive_after schema analyzer batch rest }
    ∷ batches_from schema analyzer cut cuts rest

-- the batches of a list of operations: what each adds, and what of it is alive in the end
abbrev pub batches : Schema → Analyzer → List ℕ → List Operation → List Batch
batches schema analyzer cuts operations = batches_from schema analyzer 0 cuts operations

-- the alive set that a filter leaves; no filter keeps all
abbrev pub filtered_by : Option (List Bool) → List Bool → List Bool
filtered_by None alive = alive
filtered_by (Some keeps) alive = both_marked alive keeps

-- each batch under its filter; a batch after the last filter has none
abbrev pub filtered : List (Option (List Bool)) → List Batch → List Batch
filtered fs [] = []
filtered [] (b ∷ bs) = b ∷ filtered [] bs
filtered (f ∷ fs) (b ∷ bs) = record { documents = b.documents; alive = filtered_by f b.alive } ∷ filtered fs bs

-- the added documents, in order, that no later operation removes and their batch's filter keeps
abbrev pub survivors : Schema → Analyzer → List (Option (List Bool)) → List ℕ → List Operation → List Document
survivors schema analyzer filters cuts operations = flat_map live
    (filtered filters (batches schema analyzer cuts operations))
