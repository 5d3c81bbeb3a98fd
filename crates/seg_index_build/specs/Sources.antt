-- Segments that are opened from several directories, one after another.
use Rattle.std.specs.Prelude.{◌≡◌, List, [], ◌∷◌, ◌++◌, map, IsTrue, Result, Ok, Err}
use Rattle.std.specs.List.{AllByRecursion}
use Rattle.seg_values.specs.declared.error.TantivyError.{TantivyError}
use Rattle.seg_directory.specs.Files.{NamedFiles}
use Rattle.seg_directory.specs.DirectoryStates.{DirectoryState}
use Rattle.seg_open.specs.OpenSegment.{OpenSegment}
use Rattle.seg_open.specs.OpeningSteps.{Asked, OpensSegments}

-- the files of directories
abbrev pub files_of : List DirectoryState → List NamedFiles
files_of states = map (λ s. s.files) states

-- each of them tells its files
abbrev pub AllTell : List DirectoryState → Type 0
AllTell states = AllByRecursion (λ s. IsTrue s.tells) states

-- what is open already, and what comes to it
abbrev pub followed : List OpenSegment → Result (List OpenSegment) TantivyError → Result (List OpenSegment) TantivyError
followed opened (Ok more) = Ok (opened ++ more)
followed opened (Err e) = Err e

-- the segments of one directory are not opened, which ends it; or they are, and then those of the directories after it
pub data OpensThen (asked : List Asked)
    (next : Result (List OpenSegment) TantivyError → List DirectoryState → List DirectoryState → Type 0)
    (result : Result (List OpenSegment) TantivyError) (first : DirectoryState) (others : List DirectoryState)
    (after : List DirectoryState) : Type 0 where
  stops : (e : TantivyError) (state : DirectoryState) → OpensSegments asked (Err e) first state → result ≡ Err e
      → after ≡ state ∷ others → OpensThen asked next result first others after
  goes_on : (opened : List OpenSegment) (state : DirectoryState) (last : Result (List OpenSegment) TantivyError)
      (states : List DirectoryState) → OpensSegments asked (Ok opened) first state → next last others states
      → result ≡ followed opened last → after ≡ state ∷ states → OpensThen asked next result first others after

-- of each directory these segments are opened, one directory after another
abbrev pub OpensSources : List (List Asked) → Result (List OpenSegment) TantivyError
    → List DirectoryState → List DirectoryState → Type 0
OpensSources [] result before after = (result ≡ Ok []) × (after ≡ before)
OpensSources (asked ∷ others) result [] after = ⊥
OpensSources (asked ∷ others) result (first ∷ before) after =
    OpensThen asked (λ r b a. OpensSources others r b a) result first before after

-- the segments of one more directory come after those that are open; or they are not opened
abbrev pub OpensMore : {T : Type 0} → List Asked → Result T TantivyError → List OpenSegment → List OpenSegment
    → DirectoryState → DirectoryState → Type 0
OpensMore asked (Ok _) old new before after =
    (opened : List OpenSegment) × (new ≡ old ++ opened) × OpensSegments asked (Ok opened) before after
OpensMore asked (Err e) old new before after = OpensSegments asked (Err e) before after
