-- Parts that ends cut bytes into, and each of which passes a test.
use Rattle.std.specs.Prelude.{ℕ, ◌+◌, ◌==◌, ◌&&◌, List, Bool, length, map}
use Rattle.std.specs.List.{list_all}
use Rattle.std.specs.Str.{bytes_eq}
use Rattle.seg_store.specs.Ends.{are_ends, cut_from}
use Rattle.seg_store.specs.Block.{documents_in}
use Rattle.seg_store.specs.Store.{id_ends, document_count}

-- whether ends cut bytes, from a start on, into parts that pass a test
abbrev pub are_parts : (List ℕ → Bool) → ℕ → List ℕ → List ℕ → Bool
are_parts test start ends bytes = are_ends start (length bytes) ends && list_all test (cut_from start ends bytes)

-- whether checkpoints cut bytes, from a start on, into blocks that pass a test and number the documents from a first one
-- up to a total
abbrev pub are_blocks : (List ℕ → Bool) → (first total start : ℕ) → List (ℕ × ℕ) → List ℕ → Bool
are_blocks test first total start checkpoints bytes =
    are_ends start (length bytes) (map (λ c. c.1) checkpoints)
    && (list_all test (cut_from start (map (λ c. c.1) checkpoints) bytes)
    && (bytes_eq (map (λ c. c.0) checkpoints)
    (id_ends first (map documents_in (cut_from start (map (λ c. c.1) checkpoints) bytes)))
    && (total == first + document_count (map documents_in (cut_from start (map (λ c. c.1) checkpoints) bytes)))))
