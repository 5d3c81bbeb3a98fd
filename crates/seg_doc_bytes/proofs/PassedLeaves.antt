-- Leaves that are passed.
use Rattle.std.proofs.Common.{◌≡◌, ℕ, List, Option, Some, None, refl, ap}
use Rattle.seg_common.specs.Varint.{varint_at}
use Rattle.seg_values.specs.Tree.{pre_tokenized}
use Rattle.seg_doc_bytes.specs.PassedBytes.{Passes}
use Rattle.seg_doc_bytes.specs.FrontReaders.{Reader, made_of, times_at, text_at}
use Rattle.seg_doc_bytes.specs.StoredTree.{token_at, pre_tokenized_at}

pub pre_tokenized_passed : {B : Type 0} (old left tokens new text : List ℕ) (count : ℕ) (r : Option B) → text_at old ≡ Some (text, left) → varint_at left ≡ Some (count, tokens) → Passes (times_at token_at count) tokens new r → Passes pre_tokenized_at old new r
pre_tokenized_passed old left tokens new text count (Some done) t v p = record { value = pre_tokenized (record { text = text; tokens = p.value }); is = rw t (rw v (rw p.is refl)) }
pre_tokenized_passed old left tokens new text count None t v p = rw t (rw v (rw p refl))

-- as another thing
pub passed_as : {A B C : Type 0} (make : A → C) (read : Reader A) (old new : List ℕ) (r : Option B) → Passes read old new r → Passes (λ bytes. made_of make (read bytes)) old new r
passed_as make read old new (Some done) p = record { value = make p.value; is = ap (made_of make) p.is }
passed_as make read old new None p = ap (made_of make) p
