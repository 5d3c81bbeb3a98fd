-- Cases of what a crash may leave of files, and of what files open as.
use Rattle.std.specs.Prelude.{◌≡◌, ℕ, List, [], ◌∷◌, map, true, false, Option, Some, None}
use Rattle.std.specs.Ordering.{nat_cmp}
use Rattle.std.specs.FinMap.{empty, from_sorted}
use Rattle.seg_model.specs.Contents.{Contents}
use Rattle.seg_model.specs.Input.{Settings, uncompressed}
use Rattle.seg_directory.specs.Disk.{Files, Disk, exactly, torn, IsImage, may_hold, with_change}
use Rattle.seg_meta.specs.IndexOfFiles.{Deletes, ListedSegment, Meta, Forms, IsWhole, OpensAsNoIndex, OpensAsEmpty, OpensAsWhole}

-- the file 0 with these bytes, and no other
abbrev pub file : List ℕ → Files nat_cmp
file bytes = from_sorted ((0, bytes) ∷ [])

-- the file 0 is safe as a byte 1, and a change of it to a byte 2 is pending
abbrev pub disk : Disk nat_cmp
disk = record { stable = file (1 ∷ []); pending = record { name = 0; written = exactly (2 ∷ []) } ∷ [] }

pub record DiskCases : Type 0 where
  -- the state of a name is its safe one or its pending one
  pub changed : map (may_hold disk 0) (None ∷ Some (1 ∷ []) ∷ Some (2 ∷ []) ∷ Some (3 ∷ []) ∷ [])
      ≡ false ∷ true ∷ true ∷ false ∷ []
  pub unchanged : map (may_hold disk 1) (None ∷ Some (2 ∷ []) ∷ []) ≡ true ∷ false ∷ []
  -- a change that was cut off leaves any bytes, and a file
  pub cut_off : map (may_hold (with_change disk 1 torn) 1) (None ∷ Some (3 ∷ []) ∷ []) ≡ true ∷ true ∷ []
  pub images : IsImage disk (file (1 ∷ [])) × IsImage disk (file (2 ∷ []))
  pub other : ¬ IsImage disk (file (3 ∷ []))
  pub none : ¬ IsImage disk empty

-- three documents without terms
abbrev pub three : Contents
three = record { documents = 3; terms = []; stored = []; norms = []; columns = empty }

abbrev pub settings : Settings
settings = record { compression = uncompressed; block_size = 1; dedicated_thread = false }

abbrev pub segment : Option Deletes → ListedSegment
segment deletes = record { id = 7; documents = 3; deletes = deletes }

abbrev pub segments_of : List ℕ → List ListedSegment
segments_of [] = []
segments_of (b ∷ []) = segment None ∷ []
segments_of (b ∷ c ∷ bytes) = segment (Some (record { number = 1; stamp = 3 })) ∷ []

abbrev pub meta : List ℕ → Meta
meta bytes = record { settings = settings; schema = []; stamp = 0; payload = None; segments = segments_of bytes }

-- the file 0 is the meta, whose number of bytes tells its segments; each id holds three documents, the last one dead
abbrev pub forms : Forms nat_cmp
forms = record {
  meta_name = 0;
  meta_of = λ bytes. Some (meta bytes);
  Holds = λ _ _ _ contents. contents ≡ three;
  HoldsAlive = λ _ _ _ _ alive. alive ≡ true ∷ true ∷ false ∷ [];
}

pub record OpeningCases : Type 0 where
  pub no_index : OpensAsNoIndex forms empty
  pub an_index : ¬ OpensAsNoIndex forms (file [])
  pub empty_index : OpensAsEmpty forms (file []) settings []
  pub not_empty : ¬ OpensAsEmpty forms (file (1 ∷ [])) settings []
  pub whole : OpensAsWhole forms (file (1 ∷ [])) settings [] three
  pub not_whole : ¬ OpensAsWhole forms (file []) settings [] three
  -- the whole has no deletes
  pub with_deletes : ¬ OpensAsWhole forms (file (1 ∷ 2 ∷ [])) settings [] three
  -- a segment's deletes are as many as its alive file has dead documents
  pub whole_segments : IsWhole forms empty [] (segment None)
      × IsWhole forms empty [] (segment (Some (record { number = 1; stamp = 3 })))
  pub other_number : ¬ IsWhole forms empty [] (segment (Some (record { number = 2; stamp = 3 })))
