-- Cases of deletes, filters and batches, and of estimates.
use Rattle.std.specs.Prelude.{◌≡◌, ℕ, List, [], ◌∷◌, map, codes, true, false, Bool, Option, Some, None, slice_get}
use Rattle.std.specs.FinMap.{empty}
use Rattle.seg_values.specs.declared.schema.FieldEntry.{FieldEntry}
use Rattle.seg_values.specs.declared.schema.FieldKind.TheVariants.{Text}
use Rattle.seg_values.specs.declared.schema.IndexOption.TheVariants.{Positions}
use Rattle.seg_values.specs.Tree.{Document}
use Rattle.seg_model.specs.Operations.{Operation, add, delete, delete_all, TermKey, Batch, batches, filtered_by, survivors}
use Rattle.seg_model.specs.Join.{Part}
use Rattle.seg_model.specs.TokenEstimate.{estimate, joined_estimate}
use Rattle.seg_model_cases.specs.CaseData.{analyzer, entry, only, one, said}

abbrev pub word : List ℕ → Document
word s = one (said s)

abbrev pub term : List ℕ → TermKey
term s = record { field = 0; bytes = s }

-- two documents, a delete of the first of them, and two more
abbrev pub operations : List Operation
operations = add (word (codes "a")) ∷ add (word (codes "b")) ∷ delete (term (codes "a"))
    ∷ add (word (codes "a")) ∷ add (word (codes "c")) ∷ []

abbrev pub left_by : List ℕ → List (Option (List Bool)) → List Document
left_by cuts filters = survivors (only Text Positions) analyzer filters cuts operations

abbrev pub alive_in : List ℕ → List Operation → List (List Bool)
alive_in cuts history = map (λ (b : Batch). b.alive) (batches (only Text Positions) analyzer cuts history)

-- three documents of 25, 40 and 3 tokens
abbrev pub three : List Bool → Part
three alive = record {
  contents = record {
    documents = 3;
    terms = [];
    stored = [];
    norms = (25 ∷ 40 ∷ 3 ∷ []) ∷ [];
    columns = empty;
  };
  alive = alive;
}

abbrev pub without_lengths : FieldEntry
without_lengths = record (entry Text Positions) { norms = false }

pub record OperationCases : Type 0 where
  -- what is alive under a filter was alive without it
  pub no_return : (filter : Option (List Bool)) (alive : List Bool) (i : ℕ)
      → slice_get (filtered_by filter alive) i ≡ Some true → slice_get alive i ≡ Some true
  -- filters that keep all leave the removed document out
  pub all_kept : left_by (2 ∷ 4 ∷ []) (Some (true ∷ true ∷ []) ∷ Some (true ∷ []) ∷ Some (true ∷ []) ∷ [])
      ≡ word (codes "b") ∷ word (codes "a") ∷ word (codes "c") ∷ []
  -- a batch after the last filter has none
  pub filters : map (left_by (2 ∷ 4 ∷ [])) ([] ∷ (Some (true ∷ false ∷ []) ∷ []) ∷ (None ∷ Some (false ∷ []) ∷ []) ∷ [])
      ≡ (word (codes "b") ∷ word (codes "a") ∷ word (codes "c") ∷ [])
      ∷ (word (codes "a") ∷ word (codes "c") ∷ [])
      ∷ (word (codes "b") ∷ word (codes "c") ∷ []) ∷ []
  -- a cut below the one before it makes an empty batch
  pub falling_cuts : alive_in (4 ∷ 2 ∷ 3 ∷ []) operations ≡ (false ∷ true ∷ true ∷ []) ∷ [] ∷ (true ∷ []) ∷ [] ∷ []
  -- a delete reaches only what comes before it, whatever the batch
  pub reach : alive_in (2 ∷ [])
      (add (word (codes "a b")) ∷ add (word (codes "a c")) ∷ delete (term (codes "c")) ∷ add (word (codes "c a"))
      ∷ delete_all (term (codes "a") ∷ term (codes "b") ∷ []) ∷ delete_all [] ∷ add (word (codes "b a")) ∷ [])
      ≡ (false ∷ false ∷ []) ∷ (true ∷ true ∷ []) ∷ []
  -- 100 tokens in all: of two of three documents by their lengths, or two thirds
  pub estimates : map
      (λ e. map (λ alive. estimate (0, e) (three alive) 100)
      ((true ∷ true ∷ true ∷ []) ∷ (true ∷ true ∷ false ∷ []) ∷ []))
      (entry Text Positions ∷ without_lengths ∷ [])
      ≡ (100 ∷ 65 ∷ []) ∷ (100 ∷ 66 ∷ []) ∷ []
  pub joined : joined_estimate (0, without_lengths)
      ((three (true ∷ true ∷ false ∷ []), 100) ∷ (three (true ∷ true ∷ true ∷ []), 7) ∷ [])
      ≡ 73
  -- at most the greatest u64
  pub limit : joined_estimate (0, without_lengths)
      ((three (true ∷ true ∷ true ∷ []), 18446744073709551615) ∷ (three (true ∷ true ∷ true ∷ []), 1) ∷ [])
      ≡ 18446744073709551615
