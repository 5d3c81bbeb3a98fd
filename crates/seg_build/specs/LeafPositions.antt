-- The leaves of JSON values, one after another, where `at` says where the next text of each joined path begins.
use Rattle.std.specs.Prelude.{ℕ, ◌+◌, ◌<◌, ◌^◌, List, [], ◌∷◌, ◌++◌, map, length, if◌then◌else◌}
use Rattle.std.specs.FinMap.{insert}
use Rattle.std.specs.Str.{bytes_eq}
use Rattle.seg_model.specs.Occurrences.{Occurrence, at_zero, counted, placed_from, start_after}
use Rattle.seg_check.specs.LeafContents.{LeafContent, text_leaf, coded_leaf}
use Rattle.seg_build.specs.PathStarts.{PathStarts, path_start}

-- leaves with their joined paths
abbrev pub PathLeaves : Type 0
PathLeaves = List (List ℕ × LeafContent)

-- ---- a leaf of a path whose next text begins at `start`

-- its occurrences: path, byte 0, type code, value bytes
abbrev pub leaf_occur : List ℕ → ℕ → LeafContent → List Occurrence
leaf_occur path start (text_leaf ts) = placed_from start (path ++ 0 ∷ 115 ∷ []) ts
leaf_occur path start (coded_leaf coded) = map (λ c. at_zero (path ++ 0 ∷ c)) coded

-- how many these are
abbrev pub leaf_count : LeafContent → ℕ
leaf_count (text_leaf ts) = length (counted ts)
leaf_count (coded_leaf coded) = length coded

-- where the next text of the path begins after it
abbrev pub leaf_next : ℕ → LeafContent → ℕ
leaf_next start (text_leaf ts) = start_after start ts
leaf_next start (coded_leaf coded) = start

-- that is a u32, after a text
abbrev pub LeafFits : ℕ → LeafContent → Type 0
LeafFits start (text_leaf ts) = start_after start ts < 2 ^ 32
LeafFits start (coded_leaf coded) = Unit {0}

-- what is known of each path, after a leaf of one in a document
abbrev pub kept_start : ℕ → PathStarts → List ℕ → LeafContent → PathStarts
kept_start document starts path (text_leaf ts) =
    insert starts path (record { document = document; start = start_after (path_start document starts path) ts })
kept_start document starts path (coded_leaf coded) = starts

-- ---- leaves one after another

-- where texts begin after a leaf
abbrev pub after_leaf : (List ℕ → ℕ) → List ℕ × LeafContent → List ℕ → ℕ
after_leaf at l path = if bytes_eq path l.0 then leaf_next (at l.0) l.1 else at path

-- and after some
abbrev pub after_leaves : (List ℕ → ℕ) → PathLeaves → List ℕ → ℕ
after_leaves at [] = at
after_leaves at (l ∷ ls) = after_leaves (after_leaf at l) ls

-- their occurrences
abbrev pub leaves_occur : (List ℕ → ℕ) → PathLeaves → List Occurrence
leaves_occur at [] = []
leaves_occur at (l ∷ ls) = leaf_occur l.0 (at l.0) l.1 ++ leaves_occur (after_leaf at l) ls

-- how many these are
abbrev pub leaves_count : PathLeaves → ℕ
leaves_count [] = 0
leaves_count (l ∷ ls) = leaf_count l.1 + leaves_count ls

-- each text of them ends at a u32
abbrev pub LeavesFit : (List ℕ → ℕ) → PathLeaves → Type 0
LeavesFit at [] = Unit {0}
LeavesFit at (l ∷ ls) = LeafFits (at l.0) l.1 × LeavesFit (after_leaf at l) ls

-- what is known of each path after them
abbrev pub kept_starts : ℕ → PathStarts → PathLeaves → PathStarts
kept_starts document starts [] = starts
kept_starts document starts (l ∷ ls) = kept_starts document (kept_start document starts l.0 l.1) ls
