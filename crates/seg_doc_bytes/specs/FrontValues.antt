-- Things that are made of what is at the front of bytes.
use Rattle.std.specs.Prelude.{◌≡◌, List, ℕ, Option, Some, None}
use Rattle.seg_doc_bytes.specs.FrontReaders.{Reader}

-- what is at the front was made, as which it is seen, and the bytes after it are left; or nothing is there
abbrev pub Makes : {A B : Type 0} → Reader A → (B → A) → List ℕ → List ℕ → Option B → Type 0
Makes read view bytes rest (Some x) = read bytes ≡ Some (view x, rest)
Makes read view bytes rest None = read bytes ≡ None
