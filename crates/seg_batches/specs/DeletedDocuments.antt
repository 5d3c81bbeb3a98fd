-- Which documents a delete reaches.
use Rattle.std.specs.Prelude.{ℕ, ◌<◌, ⊤, Bool, true, nat_lt, length, slice_index}
use Rattle.seg_batches.specs.declared.doc_opstamp_mapping.DocToOpstampMapping.{DocToOpstampMapping}
use Rattle.seg_batches.specs.declared.doc_opstamp_mapping.DocToOpstampMapping.TheVariants.{WithMap, None}

-- the document is one of those whose stamps are there; without stamps each is
abbrev pub IsMapped : DocToOpstampMapping → ℕ → Type 0
IsMapped (WithMap stamps) doc = doc < length stamps.now
IsMapped None doc = ⊤

-- the document's stamp is below that of the delete; without stamps each document is deleted
abbrev pub is_deleted : DocToOpstampMapping → ℕ → ℕ → Bool
is_deleted (WithMap stamps) doc delete_opstamp = nat_lt (slice_index stamps.now doc) delete_opstamp
is_deleted None doc delete_opstamp = true
