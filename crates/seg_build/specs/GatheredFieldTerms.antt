-- The terms of a field as they are gathered.
use Rattle.std.specs.Prelude.{◌≡◌, ℕ, List, [], ◌∷◌}
use Rattle.std.specs.FinMap as fin
use Rattle.seg_model.specs.DocumentTerms.{Terms}
use Rattle.seg_check.specs.LeafContents.{LeafContent}
use Rattle.seg_terms.specs.AddedOccurrences.{with_occurrences}
use Rattle.seg_build.specs.LeafPositions.{PathLeaves, leaf_occur, kept_start}
use Rattle.seg_build.specs.PathStarts.{PathStarts, path_start, starts_of}
use Rattle.seg_build.specs.declared.gathered_terms.GatheredTerms.{GatheredTerms}
use Rattle.seg_build.specs.declared.gathered_terms.GatheredTerms.TheVariants.{Plain, Json}
use Rattle.seg_build.specs.declared.json_terms.JsonTerms.{JsonTerms}

-- terms, and where the next text of each joined path begins
pub record Gathered : Type 0 where
  pub terms : Terms
  pub starts : PathStarts

-- those of a JSON field
abbrev pub json_gathered : JsonTerms → Gathered
json_gathered j = record { terms = j.terms.terms; starts = starts_of j.terms.paths j.starts.items }

-- and of each
abbrev pub gathered : GatheredTerms → Gathered
gathered (Plain t) = record { terms = t; starts = fin.empty }
gathered (Json j) = json_gathered j

-- with a leaf of a document
abbrev pub with_leaf : ℕ → Gathered → List ℕ × LeafContent → Gathered
with_leaf document g l = record {
  terms = with_occurrences g.terms document (leaf_occur l.0 (path_start document g.starts l.0) l.1);
  starts = kept_start document g.starts l.0 l.1;
}

-- and with some, in order
abbrev pub with_leaves : ℕ → Gathered → PathLeaves → Gathered
with_leaves document g [] = g
with_leaves document g (l ∷ ls) = with_leaves document (with_leaf document g l) ls

-- a leaf was added at a path that has a number
pub record AddsLeaf (document : ℕ) (old new : JsonTerms) (l : List ℕ × LeafContent) : Type 0 where
  pub paths : new.terms.paths ≡ old.terms.paths
  pub gathered_now : json_gathered new ≡ with_leaf document (json_gathered old) l
