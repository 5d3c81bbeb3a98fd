-- What the files of a directory read as, for any form of the meta and of the segments' files.
use Rattle.std.specs.Prelude.{ℕ, ◌≡◌, ◌⊎◌, List, [], ◌∷◌, length, true, Option, Some, None, Bool, not}
use Rattle.std.specs.List.{count_by, AllByRecursion}
use Rattle.std.specs.Option.{option_and_then}
use Rattle.std.specs.declared.cmp.Ordering.{Ordering}
use Rattle.std.specs.FinMap.{get}
use Rattle.seg_values.specs.Tree.{Document}
use Rattle.seg_model.specs.Fields.{Schema, Analyzer}
use Rattle.seg_model.specs.Contents.{Contents, full_reading}
use Rattle.seg_model.specs.Input.{Settings}
use Rattle.seg_directory.specs.Disk.{Files}

-- the deletes of a segment: how many documents they removed, and the stamp up to which they count
pub record Deletes : Type 0 where
  pub number : ℕ
  pub stamp : ℕ

-- a segment as the meta lists it
pub record ListedSegment : Type 0 where
  pub id : ℕ
  pub documents : ℕ
  pub deletes : Option Deletes

-- what the meta of an index says
pub record Meta : Type 0 where
  pub settings : Settings
  pub schema : Schema
  pub stamp : ℕ
  pub payload : Option (List ℕ)
  pub segments : List ListedSegment

-- the forms of files: the meta's name and what its bytes say; when the files of an id hold the contents of a segment;
-- and when the alive file of an id and a stamp holds, of this many documents, which are alive
pub record Forms {Name : Type 0} (order : Name → Name → Ordering) : Type 1 where
  pub meta_name : Name
  pub meta_of : List ℕ → Option Meta
  pub Holds : Files order → ℕ → Schema → Contents → Type 0
  pub HoldsAlive : Files order → ℕ → ℕ → ℕ → List Bool → Type 0

module _ {Name : Type 0} {order : Name → Name → Ordering} (forms : Forms order) (files : Files order) where
  -- what the meta among the files says, where it is there and can be read
  abbrev pub index_of : Option Meta
  index_of = option_and_then forms.meta_of (get files forms.meta_name)

  -- the alive file of a segment agrees with the deletes that the meta lists; without deletes there is nothing to agree
  abbrev pub DeletesAgree : ListedSegment → Option Deletes → Type 0
  DeletesAgree segment None = Unit {0}
  DeletesAgree segment (Some deletes) =
      (alive : List Bool) × forms.HoldsAlive files segment.id deletes.stamp segment.documents alive
      × (length alive ≡ segment.documents) × (count_by not alive ≡ deletes.number)

  -- a listed segment is whole: its files hold contents of as many documents as the meta lists; its alive file agrees
  pub record IsWhole (schema : Schema) (segment : ListedSegment) : Type 0 where
    pub contents : Contents
    pub held : forms.Holds files segment.id schema contents
    pub number : contents.documents ≡ segment.documents
    pub deletes_agree : DeletesAgree segment segment.deletes

  -- the files read so far agree with what the meta lists: with further files they hold contents of this many documents
  pub record CanBeCompleted (read : Name → Bool) (schema : Schema) (segment : ListedSegment) : Type 0 where
    pub completed : Files order
    pub as_read : (name : Name) → read name ≡ true → get completed name ≡ get files name
    pub contents : Contents
    pub held : forms.Holds completed segment.id schema contents
    pub number : contents.documents ≡ segment.documents

  -- each segment of an index is whole
  abbrev pub AreWhole : Meta → Type 0
  AreWhole index = AllByRecursion (IsWhole index.schema) index.segments

  -- a segment stands for documents: it holds their full reading
  pub record StandsFor (schema : Schema) (analyzer : Analyzer) (id : ℕ) (documents : List Document) : Type 0 where
    pub contents : Contents
    pub read : full_reading schema analyzer documents ≡ Some contents
    pub held : forms.Holds files id schema contents

  -- ---- what an image opens as

  -- no index: there is no meta
  abbrev pub OpensAsNoIndex : Type 0
  OpensAsNoIndex = get files forms.meta_name ≡ None

  -- the meta reads with these settings, this schema and these segments
  pub record OpensWith (settings : Settings) (schema : Schema) (segments : List ListedSegment) : Type 0 where
    pub index : Meta
    pub read : index_of ≡ Some index
    pub settings_given : index.settings ≡ settings
    pub schema_given : index.schema ≡ schema
    pub listed : index.segments ≡ segments

  -- the empty index: the meta lists no segment
  abbrev pub OpensAsEmpty : Settings → Schema → Type 0
  OpensAsEmpty settings schema = OpensWith settings schema []

  -- the whole: the meta lists one segment, without deletes, of as many documents as these contents, held by its files
  pub record OpensAsWhole (settings : Settings) (schema : Schema) (contents : Contents) : Type 0 where
    pub id : ℕ
    pub opens : OpensWith settings schema (record { id = id; documents = contents.documents; deletes = None } ∷ [])
    pub held : forms.Holds files id schema contents

  -- what the files of an output may be found as after a crash at any moment: no index, the empty one, or the whole
  abbrev pub OpensAs : Settings → Schema → Type 0 → Type 0
  OpensAs settings schema IsWhole = OpensAsNoIndex ⊎ (OpensAsEmpty settings schema ⊎ IsWhole)
