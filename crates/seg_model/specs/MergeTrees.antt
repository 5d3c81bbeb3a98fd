-- Trees of merges: indices are merged, and what they became is merged again.
use Rattle.std.specs.Prelude.{◌≡◌, List, [], ◌∷◌, ◌++◌, Some}
use Rattle.seg_model.specs.Contents.{Contents}
use Rattle.seg_model.specs.Fields.{Schema}
use Rattle.seg_model.specs.Join.{Part, join}
use Rattle.seg_model.specs.Laws.{AreOfFullShape, whole}

mutual
  -- an index with these segments; or the index that others were merged to, one after another
  pub data MergeTree : Type 0 where
    index : List Part → MergeTree
    merged : MergeTrees → MergeTree

  pub data MergeTrees : Type 0 where
    no_trees : MergeTrees
    tree : MergeTree → MergeTrees → MergeTrees

-- the segments that the merges began with
abbrev mutual
  pub first_segments : MergeTree → List Part
  first_segments (index segments) = segments
  first_segments (merged ts) = all_first_segments ts

  pub all_first_segments : MergeTrees → List Part
  all_first_segments no_trees = []
  all_first_segments (tree t ts) = first_segments t ++ all_first_segments ts

-- the segments that an index has in the end: its own, which could be merged alone; or one, of what the segments of
-- those that were merged to it join to
abbrev mutual
  pub HasSegments : Schema → MergeTree → List Part → Type 0
  HasSegments schema (index segments) last =
      AreOfFullShape schema segments × ((contents : Contents) × (join schema segments ≡ Some contents))
      × (last ≡ segments)
  HasSegments schema (merged ts) last =
      (all : List Part) × (contents : Contents) × HaveSegments schema ts all × (join schema all ≡ Some contents)
      × (last ≡ whole contents ∷ [])

  -- those that several indices have, one index after another
  pub HaveSegments : Schema → MergeTrees → List Part → Type 0
  HaveSegments schema no_trees last = last ≡ []
  HaveSegments schema (tree t ts) last =
      (first : List Part) × (more : List Part) × HasSegments schema t first × HaveSegments schema ts more
      × (last ≡ first ++ more)

-- what an index has after all merges joins to just what the segments join to that they began with
abbrev pub TreesReadAsOne : Type 0
TreesReadAsOne = (schema : Schema) (t : MergeTree) (last : List Part) → HasSegments schema t last
    → join schema last ≡ join schema (first_segments t)
