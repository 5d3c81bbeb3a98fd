-- What is printed of the front of bytes.
use Rattle.std.specs.Prelude.{◌≡◌, ◌++◌, ℕ, List, Bool, true, false, Option, Some, None, IsSomeAnd}
use Rattle.std.specs.Ordering.{nat_cmp, is_lt}
use Rattle.std.specs.Cmp.Lexicographic.{slice_cmp}
use Rattle.seg_values.specs.Tree.{Document}
use Rattle.seg_doc_bytes.specs.FrontReaders.{Reader}
use Rattle.seg_doc_bytes.specs.StoredDocument.{stored_document_of}

-- a text, and what came after it
pub record HasMore (before after : List ℕ) : Type 0 where
  pub more : List ℕ
  pub is : after ≡ before ++ more

-- what is at the front was printed, and the bytes after it are left
pub record Printed {A : Type 0} (read : Reader A) (text : A → List ℕ) (bytes rest before after : List ℕ) : Type 0 where
  pub value : A
  pub is : read bytes ≡ Some (value, rest)
  pub printed : after ≡ before ++ text value

-- what is at the front was printed, or this was given up, perhaps with some text printed
abbrev pub Prints : {A B : Type 0} → Reader A → (A → List ℕ) → List ℕ → List ℕ → List ℕ → List ℕ → Option B → Type 0
Prints read text bytes rest before after (Some done) = Printed read text bytes rest before after
Prints read text bytes rest before after None = HasMore before after

-- the document that bytes are the stored form of was printed
abbrev pub IsPrinted : (Document → List ℕ) → List ℕ → List ℕ → List ℕ → Type 0
IsPrinted text stored before after = IsSomeAnd (stored_document_of stored) (λ d. after ≡ before ++ text d)

-- whether a key is above the last one, if there is one
abbrev pub is_after : Bool → List ℕ → List ℕ → Bool
is_after false last key = true
is_after true last key = is_lt (slice_cmp nat_cmp last key)
