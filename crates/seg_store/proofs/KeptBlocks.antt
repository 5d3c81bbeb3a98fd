-- What a writer keeps as it grows.
use Rattle.std.proofs.Common.{◌≡◌, ◌≢◌, ℕ, ◌+◌, ◌-◌, ◌<◌, ◌≤◌, ◌^◌, Bool, true, false, List, [], ◌∷◌, ◌++◌, length, take, drop, map, refl, sym, ap, subst, ◌∙◌, arith, Some, append_assoc, append-nil}
use Rattle.std.specs.Prelude.{nat_le, Result, Ok, Err, IfOk}
use Rattle.std.specs.List.{flat_map, list_all, AllByRecursion}
use Rattle.std.specs.Int.{w32, w64, to_le_bytes}
use Rattle.std.proofs.lemmas.List.{length-append, length-drop, length-take-le, take-append-drop, take-append-le, drop-append-le, take_all, drop_all, map-append}
use Rattle.std.proofs.lemmas.List.Folds.{list_all-append}
use Rattle.std.proofs.lemmas.Bool.{eqb-true, eq-eqb, le-leb, lt-leb}
use Rattle.seg_store.specs.declared.checkpoint.Checkpoint.{Checkpoint}
use Rattle.seg_store.specs.Ends.{are_ends, cut_from}
use Rattle.seg_doc_bytes.specs.StoredDocument.{is_stored_document}
use Rattle.seg_store.specs.Block.{Block, documents_in, is_block}
use Rattle.seg_store.specs.Store.{id_ends, document_count, store_of}
use Rattle.seg_store.specs.WriterBlocks.{Taken, byte_count, block_bytes, taken_count, last_block, all_blocks, with_all_closed, with_closed, closed_if_full, with_document}
use Rattle.seg_store.specs.WriterBuffers.{Buffers, closed_parts, taken_of, IsKept}
use Rattle.seg_store.proofs.CutEnds.{ends-push, ends-below, cut-push, length-cut, bytes-cut}
use Rattle.seg_store.proofs.Blocks.{block_form, block_read}
use Rattle.seg_store.proofs.Stores.{AreParts, store_form, store_read}

-- ---- one thing more at the end

byte_count-push : (ds : Block) (d : List ℕ) → byte_count (ds ++ d ∷ []) ≡ byte_count ds + length d
byte_count-push [] d = omega arith
byte_count-push (x ∷ ds) d = omega (arith, byte_count-push ds d)

block_bytes-push : (bs : List Block) (b : Block) → block_bytes (bs ++ b ∷ []) ≡ block_bytes bs + byte_count b
block_bytes-push [] b = omega arith
block_bytes-push (x ∷ bs) b = omega (arith, block_bytes-push bs b)

pub document_count-push : (bs : List Block) (b : Block) → document_count (bs ++ b ∷ []) ≡ document_count bs + length b
document_count-push [] b = omega arith
document_count-push (x ∷ bs) b = omega (arith, document_count-push bs b)

id_ends-push : (first : ℕ) (bs : List Block) (b : Block) (n : ℕ) → n ≡ first + document_count bs + length b → id_ends first (bs ++ b ∷ []) ≡ id_ends first bs ++ n ∷ []
id_ends-push first [] b n e = ap (λ (m : ℕ). m ∷ []) (let same : first + length b ≡ n = omega arith in same)
id_ends-push first (x ∷ bs) b n e = ap (λ ns. (first + length x) ∷ ns) (id_ends-push (first + length x) bs b n (omega (arith, e)))

id_ends-below : (limit first : ℕ) (bs : List Block) → first + document_count bs < limit → AllByRecursion (λ n. n < limit) (id_ends first bs)
id_ends-below limit first [] lt = tt
id_ends-below limit first (b ∷ bs) lt = (omega arith, id_ends-below limit (first + length b) bs (omega arith))

all-push : (test : List ℕ → Bool) (xs : List (List ℕ)) (x : List ℕ) → list_all test xs ≡ true → test x ≡ true → list_all test (xs ++ x ∷ []) ≡ true
all-push test xs x all one = list_all-append test xs (x ∷ []) ∙ rw (all, one) refl

-- ---- one more document

-- what is kept before a document's bytes
abbrev pub short : Buffers → List ℕ → Buffers
short b before = record b { bytes = before }

-- and after them, with their end
abbrev pub ended : Buffers → List ℕ → List ℕ → Buffers
ended b before document = record b { bytes = before ++ document; ends = b.ends ++ (length (before ++ document) - b.start) ∷ []; documents = b.documents + 1; stored = b.stored + length document }

-- the taken documents, with one more in the open block
abbrev pub opened : Taken → List ℕ → Taken
opened t document = record t { open_block = t.open_block ++ document ∷ [] }

pub record IsEnded (b : Buffers) (before document : List ℕ) : Type 0 where
  pub kept : IsKept (ended b before document)
  pub taken : taken_of (ended b before document) ≡ opened (taken_of (short b before)) document

pub is_ended : (b : Buffers) (before document : List ℕ) → IsKept (short b before) → is_stored_document document ≡ true → b.documents < 2 ^ 31 - 1 → IsEnded b before document
is_ended b before document kept stored few =
    let closed = kept.closed in
    let counts = kept.counts in
    let all : List ℕ = before ++ document in
    let long = length-append before document in
    let front : take b.start all ≡ take b.start before = take-append-le b.start before document closed.within in
    let back : drop b.start all ≡ drop b.start before ++ document = drop-append-le b.start before document closed.within in
    let size = length-drop b.start before in
    let good : are_ends 0 (length (drop b.start before)) b.ends ≡ true = ap (λ (n : ℕ). are_ends 0 n b.ends) size ∙ kept.open_block.ends in
    let end : ℕ = length all - b.start in
    let end_is : end ≡ length (drop b.start before) + length document = omega (arith, long, size, closed.within) in
    let parts : closed_parts (ended b before document) ≡ closed_parts (short b before) = ap (cut_from 0 (map (λ c. c.byte_end) b.checkpoints)) front in
    let open_is : cut_from 0 (b.ends ++ end ∷ []) (drop b.start all) ≡ cut_from 0 b.ends (drop b.start before) ++ document ∷ [] = ap (cut_from 0 (b.ends ++ end ∷ [])) back ∙ cut-push 0 b.ends (drop b.start before) document end good end_is in
    let taken : taken_of (ended b before document) ≡ opened (taken_of (short b before)) document = λ i. record { block_size = b.block_size; closed = map documents_in (parts i); open_block = open_is i } in
    let many : length (cut_from 0 b.ends (drop b.start before) ++ document ∷ []) ≡ length (cut_from 0 b.ends (drop b.start before)) + 1 = length-append (cut_from 0 b.ends (drop b.start before)) (document ∷ []) in
    let bytes = byte_count-push (cut_from 0 b.ends (drop b.start before)) document in
    let ends_more : length (b.ends ++ end ∷ []) ≡ length b.ends + 1 = length-append b.ends (end ∷ []) in
    let counted : b.documents + 1 ≡ taken_count (opened (taken_of (short b before)) document) = omega (arith, counts.documents, many) in
    let stored_is : b.stored + length document ≡ block_bytes (opened (taken_of (short b before)) document).closed + byte_count (opened (taken_of (short b before)) document).open_block = omega (arith, counts.stored, bytes) in
    record {
      kept = record {
        closed = record {
          within = omega (arith, closed.within, long);
          ends = closed.ends;
          blocks = ap (list_all is_block) parts ∙ closed.blocks;
          ids = closed.ids ∙ sym (ap (λ ps. id_ends 0 (map documents_in ps)) parts);
        };
        open_block = record {
          ends = ends-push 0 (length (drop b.start before)) end b.ends good (omega (arith, end_is));
          stored = ap (list_all is_stored_document) open_is ∙ all-push is_stored_document (cut_from 0 b.ends (drop b.start before)) document kept.open_block.stored stored;
        };
        counts = record {
          documents = counted ∙ sym (ap taken_count taken);
          few = omega arith;
          blocks = omega (arith, counts.blocks, ends_more);
          stored = stored_is ∙ sym (ap (λ (t : Taken). block_bytes t.closed + byte_count t.open_block) taken);
          small = omega (arith, counts.small, long);
        };
      };
      taken = taken;
    }

-- the open block's documents have all bytes from its start on
open_bytes : (b : Buffers) → IsKept b → byte_count (taken_of b).open_block ≡ length b.bytes - b.start
open_bytes b kept =
    let size = length-drop b.start b.bytes in
    let good : are_ends 0 (length (drop b.start b.bytes)) b.ends ≡ true = ap (λ (n : ℕ). are_ends 0 n b.ends) size ∙ kept.open_block.ends in
    omega (arith, size, bytes-cut 0 b.ends (drop b.start b.bytes) good)

-- the open block goes on
pub not_full : (b : Buffers) → IsKept b → length b.bytes - b.start < b.block_size → taken_of b ≡ closed_if_full (taken_of b)
not_full b kept lt = sym (by (lt-leb b.block_size (byte_count (taken_of b).open_block) (omega (arith, open_bytes b kept))))
  where
    by : nat_le b.block_size (byte_count (taken_of b).open_block) ≡ false → closed_if_full (taken_of b) ≡ taken_of b
    by e = rw e refl

-- the open block is full
pub is_full : (b : Buffers) → IsKept b → b.block_size ≤ length b.bytes - b.start → with_closed (taken_of b) ≡ closed_if_full (taken_of b)
is_full b kept le = sym (by (le-leb b.block_size (byte_count (taken_of b).open_block) (omega (arith, open_bytes b kept))))
  where
    by : nat_le b.block_size (byte_count (taken_of b).open_block) ≡ true → closed_if_full (taken_of b) ≡ with_closed (taken_of b)
    by e = rw e refl

-- one more document, as the code adds it
pub record IsGrown (b : Buffers) (n size : ℕ) (ends : List ℕ) : Type 0 where
  pub kept : IsKept (record b { ends = ends; documents = b.documents + 1; stored = b.stored + size })
  pub taken : closed_if_full (taken_of (record b { ends = ends; documents = b.documents + 1; stored = b.stored + size })) ≡ with_document (drop n b.bytes) (taken_of (short b (take n b.bytes)))

pub is_grown : (b : Buffers) (n size end : ℕ) (ends : List ℕ) → size ≡ length b.bytes - n → end ≡ length b.bytes - b.start → ends ≡ b.ends ++ end ∷ []
    → IsKept (short b (take n b.bytes)) → is_stored_document (drop n b.bytes) ≡ true → b.documents < 2 ^ 31 - 1 → IsGrown b n size ends
is_grown b n size end ends size_is end_is ends_are kept stored few =
    let whole : take n b.bytes ++ drop n b.bytes ≡ b.bytes = take-append-drop n b.bytes in
    let is = is_ended b (take n b.bytes) (drop n b.bytes) kept stored few in
    let length_is : length (drop n b.bytes) ≡ size = omega (arith, length-drop n b.bytes, size_is) in
    let last_is : length (take n b.bytes ++ drop n b.bytes) - b.start ≡ end = ap (λ (l : List ℕ). length l - b.start) whole ∙ sym end_is in
    let ends_by : b.ends ++ (length (take n b.bytes ++ drop n b.bytes) - b.start) ∷ [] ≡ ends = ap (λ (m : ℕ). b.ends ++ m ∷ []) last_is ∙ sym ends_are in
    let same : ended b (take n b.bytes) (drop n b.bytes) ≡ record b { ends = ends; documents = b.documents + 1; stored = b.stored + size } = λ i. record b { bytes = whole i; ends = ends_by i; documents = b.documents + 1; stored = b.stored + length_is i } in
    record {
      kept = subst IsKept same is.kept;
      taken = sym (ap (λ (x : Buffers). closed_if_full (taken_of x)) same) ∙ ap closed_if_full is.taken;
    }

-- ---- one more block

-- what is kept once the open block is closed
abbrev pub closed_at : Buffers → List ℕ → ℕ → Buffers
closed_at b bytes end = record b { bytes = bytes; checkpoints = b.checkpoints ++ record { doc_end = b.documents; byte_end = end } ∷ []; start = end; ends = [] }

pub record IsClosed (b : Buffers) (bytes : List ℕ) (end : ℕ) : Type 0 where
  pub kept : IsKept (closed_at b bytes end)
  pub taken : taken_of (closed_at b bytes end) ≡ with_closed (taken_of b)

some-length : (ns : List ℕ) → ns ≢ [] → 0 < length ns
some-length [] some = absurd (some refl)
some-length (n ∷ ns) some = omega arith

pub is_closed : (b : Buffers) (bytes : List ℕ) (end : ℕ) → IsKept b → b.ends ≢ [] → length b.bytes < 2 ^ 64
    → bytes ≡ (b.bytes ++ flat_map (to_le_bytes w64) b.ends) ++ to_le_bytes w32 (length b.ends) → end ≡ length bytes → IsClosed b bytes end
is_closed b bytes end kept some small written end_is =
    let closed = kept.closed in
    let counts = kept.counts in
    let front : List ℕ = take b.start b.bytes in
    let body : List ℕ = drop b.start b.bytes in
    let size = length-drop b.start b.bytes in
    let front_size : length front ≡ b.start = length-take-le b.start b.bytes closed.within in
    let good : are_ends 0 (length body) b.ends ≡ true = ap (λ (n : ℕ). are_ends 0 n b.ends) size ∙ kept.open_block.ends in
    let many : 0 < length b.ends = some-length b.ends some in
    let block : List ℕ = block_form body b.ends in
    let read = block_read body b.ends good many (omega (arith, counts.blocks, counts.few)) (omega (arith, size)) kept.open_block.stored in
    let split : bytes ≡ front ++ block = written ∙ ap (λ (l : List ℕ). (l ++ flat_map (to_le_bytes w64) b.ends) ++ to_le_bytes w32 (length b.ends)) (sym (take-append-drop b.start b.bytes)) ∙ regrouped front body (flat_map (to_le_bytes w64) b.ends) (to_le_bytes w32 (length b.ends)) in
    let long : length bytes ≡ length front + length block = ap length split ∙ length-append front block in
    let grown : length b.bytes ≤ length bytes = omega (arith, ap length written, length-append (b.bytes ++ flat_map (to_le_bytes w64) b.ends) (to_le_bytes w32 (length b.ends)), length-append b.bytes (flat_map (to_le_bytes w64) b.ends)) in
    let whole : take end bytes ≡ front ++ block = take_all end bytes (omega arith) ∙ split in
    let nothing : drop end bytes ≡ [] = drop_all end bytes (omega arith) in
    let point : Checkpoint = record { doc_end = b.documents; byte_end = end } in
    let es : List ℕ = map (λ c. c.byte_end) b.checkpoints in
    let es_more : map (λ c. c.byte_end) (b.checkpoints ++ point ∷ []) ≡ es ++ end ∷ [] = map-append (λ c. c.byte_end) b.checkpoints (point ∷ []) in
    let ids_more : map (λ c. c.doc_end) (b.checkpoints ++ point ∷ []) ≡ map (λ c. c.doc_end) b.checkpoints ++ b.documents ∷ [] = map-append (λ c. c.doc_end) b.checkpoints (point ∷ []) in
    let front_good : are_ends 0 (length front) es ≡ true = ap (λ (n : ℕ). are_ends 0 n es) front_size ∙ closed.ends in
    let parts : closed_parts (closed_at b bytes end) ≡ closed_parts b ++ block ∷ [] = (λ i. cut_from 0 (es_more i) (whole i)) ∙ cut-push 0 es front block end front_good (omega (arith, long)) in
    let blocks : map documents_in (closed_parts (closed_at b bytes end)) ≡ map documents_in (closed_parts b) ++ cut_from 0 b.ends body ∷ [] = ap (map documents_in) parts ∙ map-append documents_in (closed_parts b) (block ∷ []) ∙ ap (λ ds. map documents_in (closed_parts b) ++ ds ∷ []) read.documents_are in
    let taken : taken_of (closed_at b bytes end) ≡ with_closed (taken_of b) = λ i. record { block_size = b.block_size; closed = blocks i; open_block = [] } in
    let documents : b.documents ≡ 0 + document_count (map documents_in (closed_parts b)) + length (cut_from 0 b.ends body) = omega (arith, counts.documents) in
    let counted = document_count-push (map documents_in (closed_parts b)) (cut_from 0 b.ends body) in
    let summed = block_bytes-push (map documents_in (closed_parts b)) (cut_from 0 b.ends body) in
    let points : length (b.checkpoints ++ point ∷ []) ≡ length b.checkpoints + 1 = length-append b.checkpoints (point ∷ []) in
    let all_counted : b.documents ≡ taken_count (with_closed (taken_of b)) = omega (arith, documents, counted) in
    let all_summed : b.stored ≡ block_bytes (with_closed (taken_of b)).closed + byte_count (with_closed (taken_of b)).open_block = omega (arith, counts.stored, summed) in
    record {
      kept = record {
        closed = record {
          within = omega arith;
          ends = ap (are_ends 0 end) es_more ∙ ends-push 0 b.start end es closed.ends (omega (arith, closed.within, grown));
          blocks = ap (list_all is_block) parts ∙ all-push is_block (closed_parts b) block closed.blocks read.good;
          ids = ids_more ∙ ap (λ ns. ns ++ b.documents ∷ []) closed.ids ∙ sym (id_ends-push 0 (map documents_in (closed_parts b)) (cut_from 0 b.ends body) b.documents documents) ∙ sym (ap (id_ends 0) blocks);
        };
        open_block = record {
          ends = eq-eqb 0 (length bytes - end) (omega arith);
          stored = refl;
        };
        counts = record {
          documents = all_counted ∙ sym (ap taken_count taken);
          few = counts.few;
          blocks = omega (arith, counts.blocks, points, many);
          stored = all_summed ∙ sym (ap (λ (t : Taken). block_bytes t.closed + byte_count t.open_block) taken);
          small = omega (arith, counts.small, grown);
        };
      };
      taken = taken;
    }
  where
    regrouped : (a b c d : List ℕ) → ((a ++ b) ++ c) ++ d ≡ a ++ ((b ++ c) ++ d)
    regrouped a b c d = simp append_assoc

last-some : (b : Block) → 0 < length b → last_block b ≡ b ∷ []
last-some [] some = absurd (omega arith)
last-some (d ∷ ds) some = refl

-- the open block has documents, so it is the last one
pub all_closed : (b : Buffers) (t : Taken) → b.ends ≢ [] → t ≡ with_closed (taken_of b) → t ≡ with_all_closed (taken_of b)
all_closed b t some is =
    let last = sym (last-some (taken_of b).open_block (omega (arith, some-length b.ends some, length-cut 0 b.ends (drop b.start b.bytes)))) in
    is ∙ (λ i. record { block_size = b.block_size; closed = (taken_of b).closed ++ last i; open_block = [] })

-- no end, so no document is in the open block
pub nothing_left : (b : Buffers) → b.ends ≡ [] → (taken_of b).open_block ≡ []
nothing_left b none = ap (λ (es : List ℕ). cut_from 0 es (drop b.start b.bytes)) none

-- and the closed blocks are all
pub all_are_closed : (b : Buffers) → b.ends ≡ [] → all_blocks (taken_of b) ≡ (taken_of b).closed
all_are_closed b none = ap (λ (d : Block). (taken_of b).closed ++ last_block d) (nothing_left b none) ∙ append-nil (taken_of b).closed

pub none_open : (b : Buffers) → b.ends ≡ [] → taken_of b ≡ with_all_closed (taken_of b)
none_open b none = λ i. record { block_size = b.block_size; closed = sym (all_are_closed b none) i; open_block = nothing_left b none i }

-- what holds of an Ok
pub if_ok : {A E : Type 0} (P Q : A → Type 0) (r : Result A E) → ((x : A) → P x → Q x) → IfOk r P → IfOk r Q
if_ok P Q (Ok x) f h = f x h
if_ok P Q (Err e) f h = tt

-- ---- the file

pub file_read : (b : Buffers) → IsKept b → b.ends ≡ [] → length b.bytes < 2 ^ 64 → store_of (store_form b.bytes b.checkpoints b.documents) ≡ Some (taken_of b).closed
file_read b kept none small =
    let closed = kept.closed in
    let counts = kept.counts in
    let total : are_ends 0 (length b.bytes - b.start) [] ≡ true = ap (λ (es : List ℕ). are_ends 0 (length b.bytes - b.start) es) (sym none) ∙ kept.open_block.ends in
    let zero_left : 0 ≡ length b.bytes - b.start = eqb-true 0 (length b.bytes - b.start) total in
    let start_is : b.start ≡ length b.bytes = omega (arith, zero_left, closed.within) in
    let whole : take b.start b.bytes ≡ b.bytes = take_all b.start b.bytes (omega (arith, start_is)) in
    let empty : length (cut_from 0 b.ends (drop b.start b.bytes)) ≡ 0 = length-cut 0 b.ends (drop b.start b.bytes) ∙ ap length none in
    let ends : are_ends 0 (length b.bytes) (map (λ c. c.byte_end) b.checkpoints) ≡ true = ap (λ (n : ℕ). are_ends 0 n (map (λ c. c.byte_end) b.checkpoints)) (sym start_is) ∙ closed.ends in
    let count : b.documents ≡ document_count (map documents_in (closed_parts b)) = omega (arith, counts.documents, empty) in
    let below : AllByRecursion (λ n. n < 2 ^ 32) (id_ends 0 (map documents_in (closed_parts b))) = id_ends-below (2 ^ 32) 0 (map documents_in (closed_parts b)) (omega (arith, count, counts.few)) in
    let parts : AreParts b.bytes b.checkpoints b.documents (closed_parts b) = record {
      cut = ap (cut_from 0 (map (λ c. c.byte_end) b.checkpoints)) (sym whole);
      ends = ends;
      blocks = closed.blocks;
      ids = closed.ids;
      count = count;
      ids_fit = subst (λ (ns : List ℕ). AllByRecursion (λ n. n < 2 ^ 32) ns) (sym closed.ids) below;
      ends_fit = ends-below (2 ^ 64) 0 (length b.bytes) (map (λ c. c.byte_end) b.checkpoints) ends small;
      few = omega (arith, counts.blocks, counts.few);
      small = omega (arith, counts.few);
    } in
    store_read b.bytes b.checkpoints b.documents (closed_parts b) parts
