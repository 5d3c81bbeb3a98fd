-- A writer of a store, document after document and segment after segment.
use Rattle.std.proofs.Common.{◌≡◌, ◌<◌, ◌≤◌, ℕ, ◌+◌, ◌-◌, Bool, true, false, cond, List, [], ◌∷◌, ◌++◌, length, take, drop, get_or, map, refl, sym, ap, subst, ◌∙◌, arith, append_assoc, append-nil}
use Rattle.std.specs.Prelude.{Option, Some, None, Result, Ok, Err, option_map, IfSome, OnOk}
use Rattle.std.specs.List.{slice_get, AllByRecursion}
use Rattle.std.specs.Option.{option_to_list}
use Rattle.std.proofs.lemmas.List.{length-append, map-append, drop_more}
use Rattle.std.proofs.lemmas.List.Concat.{flat_map-append}
use Rattle.seg_common.specs.WriterGrowth.{HasGrown}
use Rattle.seg_values.specs.Tree.{Document}
use Rattle.seg_model.specs.Operations.{kept}
use Rattle.seg_store.specs.Block.{Block}
use Rattle.seg_store.specs.BlockLaw.{all_documents, AllAreStackedLast, AreTakenLast}
use Rattle.seg_store.specs.Store.{document_count, documents_of}
use Rattle.seg_doc_bytes.specs.StoredDocument.{stored_document_of}
use Rattle.seg_store.specs.WriterBlocks.{Taken, with_document, with_stacked, all_blocks, taken_count}
use Rattle.seg_open.specs.OpenSegment.{OpenSegment}
use Rattle.seg_merger.specs.JoinedStore.{IsStored, is_stacked, kept_bytes, joined_bytes, joined_documents, with_documents, with_segment, with_segments, taken_documents}
use Rattle.seg_store.proofs.Exports.{documents_are_read, read_all}
use Rattle.seg_merger.proofs.KeptLists.{kept_next, kept_marked, marked_counted}
use Rattle.seg_merger.proofs.StoredDocuments.{as_many, raw_counted, read_as}

-- some documents, and then others
pub with_more : (ds es : List (List ℕ)) (w : Taken) → with_documents (ds ++ es) w ≡ with_documents es (with_documents ds w)
with_more [] es w = refl
with_more (d ∷ ds) es w = with_more ds es (with_document d w)

with_counted : AreTakenLast → (ds : List (List ℕ)) (w : Taken) → taken_count (with_documents ds w) ≡ taken_count w + length ds
with_counted in_order [] w = omega arith
with_counted in_order (d ∷ ds) w = with_counted in_order ds (with_document d w) ∙ (let one = (in_order d w).count in omega (arith, one))

with_in_order : AreTakenLast → (ds : List (List ℕ)) (w : Taken) → all_documents (with_documents ds w) ≡ all_documents w ++ ds
with_in_order in_order [] w = sym (append-nil (all_documents w))
with_in_order in_order (d ∷ ds) w =
    with_in_order in_order ds (with_document d w)
    ∙ ap (λ xs. xs ++ ds) (in_order d w).order
    ∙ append_assoc (all_documents w) (d ∷ []) ds

-- a writer that takes documents has then taken some, and others are left
pub left_taken : (ds es all : List (List ℕ)) (before now : Option Taken) → all ≡ ds ++ es → now ≡ option_map (with_documents ds) before → option_map (with_documents es) now ≡ option_map (with_documents all) before
left_taken ds es all None now split is = ap (option_map (with_documents es)) is
left_taken ds es all (Some w) now split is =
    ap (option_map (with_documents es)) is
    ∙ ap Some (sym (with_more ds es w) ∙ ap (λ xs. with_documents xs w) (sym split))

-- and its count still leaves room
pub room_left : AreTakenLast → (n rest all : ℕ) (ds : List (List ℕ)) (before now : Option Taken) → length ds + rest ≡ all → now ≡ option_map (with_documents ds) before
    → IfSome before (λ w. taken_count w + all < n) → IfSome now (λ w. taken_count w + rest < n)
room_left in_order n rest all ds None now many is room = subst (λ o. IfSome o (λ w. taken_count w + rest < n)) (sym is) tt
room_left in_order n rest all ds (Some w) now many is room =
    let counted = with_counted in_order ds w in
    let fits : taken_count (with_documents ds w) + rest < n = omega (arith, counted, many, room) in
    subst (λ o. IfSome o (λ w. taken_count w + rest < n)) (sym is) fits

-- one document that is stored
pub one_stored : {E : Type 0} (r : Result (Unit {0}) E) (marks : List Bool) (raw : List (List ℕ)) (i : ℕ) (d : List ℕ) (before now : Option Taken)
    → get_or marks i false ≡ true → slice_get raw i ≡ Some d → OnOk r (HasGrown before now (with_document d))
    → OnOk r (now ≡ option_map (with_documents (kept (take 1 (drop i marks)) (take 1 (drop i raw)))) before)
one_stored (Err e) marks raw i d before now alive is grown = tt
one_stored (Ok x) marks raw i d before now alive is grown =
    grown.is
    ∙ sym (ap (option_map (with_documents (kept (take 1 (drop i marks)) (take 1 (drop i raw))))) grown.was
    ∙ ap (λ ds. Some (with_documents ds grown.kept)) (kept_marked marks raw i d alive is))

-- a document fits where those that are kept from its place on do
pub one_fits : (marks : List Bool) (raw : List (List ℕ)) (i n : ℕ) (before : Option Taken) → i < length raw → get_or marks i false ≡ true
    → IfSome before (λ w. taken_count w + length (kept (drop i marks) (drop i raw)) < n) → IfSome before (λ w. taken_count w < n - 1)
one_fits marks raw i n None lt alive room = tt
one_fits marks raw i n (Some w) lt alive room =
    let split = ap length (kept_next marks raw i) in
    let both = length-append (kept (take 1 (drop i marks)) (take 1 (drop i raw))) (kept (drop (i + 1) marks) (drop (i + 1) raw)) in
    let one = marked_counted marks raw i lt alive in
    omega (arith, split, both, one, room)

-- a part of what fits
pub less_fits : (n a b : ℕ) (o : Option Taken) → a ≤ b → IfSome o (λ w. taken_count w + b < n) → IfSome o (λ w. taken_count w + a < n)
less_fits n a b None le room = tt
less_fits n a b (Some w) le room = omega (arith, le, room)

-- and into a writer that has taken none, whatever is few enough
pub fresh_fits : (n m size : ℕ) (o : Option Taken) → o ≡ Some (record { block_size = size; closed = []; open_block = [] }) → m < n → IfSome o (λ w. taken_count w + m < n)
fresh_fits n m size o is few = subst (λ x. IfSome x (λ w. taken_count w + m < n)) (sym is) (omega (arith, few))

-- where nothing is left all is done
pub all_taken : (rest : List (List ℕ)) (now all : Option Taken) → rest ≡ [] → option_map (with_documents rest) now ≡ all → now ≡ all
all_taken rest None all none is = is
all_taken rest (Some w) all none is = sym (ap (λ ds. Some (with_documents ds w)) none) ∙ is

-- ---- part after part

pub part_split : (parts : List OpenSegment) (i : ℕ) (p : OpenSegment) → i < length parts → p ≡ get_or parts i p → drop i parts ≡ p ∷ drop (i + 1) parts
part_split parts i p lt is = drop_more parts i p lt ∙ ap (λ q. q ∷ drop (i + 1) parts) (sym is)

pub documents_split : (parts : List OpenSegment) (i : ℕ) (p : OpenSegment) → i < length parts → p ≡ get_or parts i p → joined_documents (drop i parts) ≡ kept p.alive (documents_of p.blocks) ++ joined_documents (drop (i + 1) parts)
documents_split parts i p lt is = ap joined_documents (part_split parts i p lt is)

-- a part that a writer takes, and others that are left
pub left_joined : (p : OpenSegment) (rest all : List OpenSegment) (before now : Option Taken) → all ≡ p ∷ rest → now ≡ option_map (with_segment p) before → option_map (with_segments rest) now ≡ option_map (with_segments all) before
left_joined p rest all None now split is = ap (option_map (with_segments rest)) is
left_joined p rest all (Some w) now split is = ap (option_map (with_segments rest)) is ∙ ap (λ (ps : List OpenSegment). Some (with_segments ps w)) (sym split)

-- where nothing is left all is done
pub all_joined : (rest : List OpenSegment) (now all : Option Taken) → rest ≡ [] → option_map (with_segments rest) now ≡ all → now ≡ all
all_joined rest None all none is = is
all_joined rest (Some w) all none is = sym (ap (λ (ps : List OpenSegment). Some (with_segments ps w)) none) ∙ is

module _ (p : OpenSegment) where
  -- a part whose blocks stay as they are
  pub one_stacked : {E : Type 0} (r : Result (Unit {0}) E) (blocks : List Block) (before now : Option Taken) → is_stacked p ≡ true → blocks ≡ p.blocks
      → OnOk r (HasGrown before now (with_stacked blocks)) → OnOk r (now ≡ option_map (with_segment p) before)
  one_stacked (Err e) blocks before now stacks same grown = tt
  one_stacked (Ok x) blocks before now stacks same grown =
      let w = grown.kept in
      grown.is
      ∙ ap (λ (bs : List Block). Some (with_stacked bs w)) same
      ∙ sym (ap (option_map (with_segment p)) grown.was ∙ ap (λ (b : Bool). Some (cond b (with_stacked p.blocks w) (with_documents (kept_bytes p) w))) stacks)

  -- and one whose documents are copied
  pub one_copied : {E : Type 0} (r : Result (Unit {0}) E) (before now : Option Taken) → is_stacked p ≡ false
      → OnOk r (now ≡ option_map (with_documents (kept_bytes p)) before) → OnOk r (now ≡ option_map (with_segment p) before)
  one_copied (Err e) before now cuts is = tt
  one_copied (Ok x) None now cuts is = is
  one_copied (Ok x) (Some w) now cuts is =
      is ∙ sym (ap (λ (b : Bool). Some (cond b (with_stacked p.blocks w) (with_documents (kept_bytes p) w))) cuts)

  module _ (stored : IsStored p) where
    many : length (kept_bytes p) ≡ length (kept p.alive (documents_of p.blocks))
    many = as_many (kept_bytes p) (kept p.alive (documents_of p.blocks)) stored.reads

    -- its documents fit as they are copied
    pub copies_fit : (n : ℕ) (before : Option Taken) → IfSome before (λ w. taken_count w + length (kept p.alive (documents_of p.blocks)) < n) → IfSome before (λ w. taken_count w + length (kept_bytes p) < n)
    copies_fit n before room = less_fits n (length (kept_bytes p)) (length (kept p.alive (documents_of p.blocks))) before (omega (arith, many)) room

    -- and as they are stacked
    pub blocks_fit : (n : ℕ) (blocks : List Block) (before : Option Taken) → is_stacked p ≡ true → blocks ≡ p.blocks
        → IfSome before (λ w. taken_count w + length (kept p.alive (documents_of p.blocks)) < n) → IfSome before (λ w. taken_count w + document_count blocks < n)
    blocks_fit n blocks before stacks same room =
        let whole = ap length (stored.whole stacks) in
        let count = ap document_count same in
        less_fits n (document_count blocks) (length (kept p.alive (documents_of p.blocks))) before (omega (arith, many, whole, count, raw_counted p.blocks)) room

-- ---- what a writer has then taken

-- more documents, after all that it had
pub record Adds (ds : List (List ℕ)) (before after : Taken) : Type 0 where
  pub order : all_documents after ≡ all_documents before ++ ds
  pub count : taken_count after ≡ taken_count before + length ds

both_read : (bs cs : List (List ℕ)) (ds es : List Document) → map stored_document_of bs ≡ map Some ds → map stored_document_of cs ≡ map Some es → map stored_document_of (bs ++ cs) ≡ map Some (ds ++ es)
both_read bs cs ds es first second =
    map-append stored_document_of bs cs
    ∙ ap (λ xs. xs ++ map stored_document_of cs) first
    ∙ ap (λ xs. map Some ds ++ xs) second
    ∙ sym (map-append Some ds es)

all_read : (parts : List OpenSegment) → AllByRecursion IsStored parts → map stored_document_of (joined_bytes parts) ≡ map Some (joined_documents parts)
all_read [] stored = refl
all_read (p ∷ parts) stored =
    both_read (kept_bytes p) (joined_bytes parts) (kept p.alive (documents_of p.blocks)) (joined_documents parts) stored.0.reads (all_read parts stored.1)

module _ (in_order : AreTakenLast) (stack_in_order : AllAreStackedLast) where
  adds_by : (p : OpenSegment) → IsStored p → (w : Taken) (b : Bool) → is_stacked p ≡ b → Adds (kept_bytes p) w (cond b (with_stacked p.blocks w) (with_documents (kept_bytes p) w))
  adds_by p stored w true is =
      let s = stack_in_order p.blocks w in
      let whole = stored.whole is in
      record { order = s.order ∙ ap (λ ds. all_documents w ++ ds) (sym whole); count = omega (arith, s.count, ap length whole, raw_counted p.blocks) }
  adds_by p stored w false is = record { order = with_in_order in_order (kept_bytes p) w; count = with_counted in_order (kept_bytes p) w }

  adds_segment : (p : OpenSegment) → IsStored p → (w : Taken) → Adds (kept_bytes p) w (with_segment p w)
  adds_segment p stored w = adds_by p stored w (is_stacked p) refl

  adds_segments : (parts : List OpenSegment) → AllByRecursion IsStored parts → (w : Taken) → Adds (joined_bytes parts) w (with_segments parts w)
  adds_segments [] stored w = record { order = sym (append-nil (all_documents w)); count = omega arith }
  adds_segments (p ∷ parts) stored w =
      let first = adds_segment p stored.0 w in
      let rest = adds_segments parts stored.1 (with_segment p w) in
      record {
        order = rest.order ∙ ap (λ xs. xs ++ joined_bytes parts) first.order ∙ append_assoc (all_documents w) (kept_bytes p) (joined_bytes parts);
        count = omega (arith, rest.count, first.count, length-append (kept_bytes p) (joined_bytes parts));
      }

  -- its count still leaves room
  pub room_joined : (p : OpenSegment) → IsStored p → (n rest all : ℕ) (before now : Option Taken) → length (kept p.alive (documents_of p.blocks)) + rest ≡ all → now ≡ option_map (with_segment p) before
      → IfSome before (λ w. taken_count w + all < n) → IfSome now (λ w. taken_count w + rest < n)
  room_joined p stored n rest all None now split is room = subst (λ o. IfSome o (λ w. taken_count w + rest < n)) (sym is) tt
  room_joined p stored n rest all (Some w) now split is room =
      let added = (adds_segment p stored w).count in
      let fits : taken_count (with_segment p w) + rest < n = omega (arith, added, many p stored, split, room) in
      subst (λ o. IfSome o (λ w. taken_count w + rest < n)) (sym is) fits

  -- what it has taken is read as the documents that it had, and those of the segments
  pub taken_read : (parts : List OpenSegment) → AllByRecursion IsStored parts → (before now : Option Taken) → now ≡ option_map (with_segments parts) before
      → option_map taken_documents now ≡ option_map (λ w. taken_documents w ++ joined_documents parts) before
  taken_read parts stored None now is = ap (option_map taken_documents) is
  taken_read parts stored (Some w) now is =
      ap (option_map taken_documents) is
      ∙ ap Some (
      documents_are_read (all_blocks (with_segments parts w))
      ∙ ap read_all (adds_segments parts stored w).order
      ∙ flat_map-append (λ (d : List ℕ). option_to_list (stored_document_of d)) (all_documents w) (joined_bytes parts)
      ∙ ap (λ xs. read_all (all_documents w) ++ xs) (read_as (joined_bytes parts) (joined_documents parts) (all_read parts stored))
      ∙ ap (λ xs. xs ++ joined_documents parts) (sym (documents_are_read (all_blocks w))))
