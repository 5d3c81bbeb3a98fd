-- The reading and printing of an index, step by step.
use Rattle.std.proofs.Common.{◌≡◌, ◌≤◌, ◌∙◌, ℕ, zero, suc, ◌+◌, List, [], ◌∷◌, ◌++◌, Option, Some, Result, Ok, Err, refl, sym, ap, subst, take, length, append_assoc, arith}
use Rattle.std.specs.List.{slice_get}
use Rattle.std.specs.Option.{option_map}
use Rattle.std.proofs.lemmas.List.{append-nil, length-map, take_all}
use Rattle.std.proofs.lemmas.Option.{none-some}
use Rattle.seg_index_build.specs.MergedIndices.{listed_segments}
use Rattle.seg_values.specs.declared.error.TantivyError.{TantivyError}
use Rattle.seg_values.specs.declared.error.TantivyError.TheVariants.{OutOfMemory}
use Rattle.seg_directory.proofs.Exports.{does_nothing}
use Rattle.seg_directory.specs.DirectoryStates.{DirectoryState}
use Rattle.seg_meta.specs.MetaSteps.{LoadsMetas, load_steps}
use Rattle.seg_meta.specs.Metas.{SegmentParts}
use Rattle.seg_meta.specs.declared.index_meta.IndexMeta.{IndexMeta}
use Rattle.seg_open.specs.OpenSegment.{OpenSegment}
use Rattle.seg_open.specs.OpeningSteps.{Asked, Opens, OpensSegments, segment_steps}
use Rattle.seg_open.proofs.Exports.{none_yet, opens_turn, starves_after, starves_all, stops_turn}
use Rattle.seg_tool.specs.PrintedIndex.{PrintsIndex, ReadsText, all_of, all_of_one, fails, loaded, not_loaded, reads}
use Rattle.seg_tool.specs.Printing.{read_segment_text, read_texts}
use Rattle.seg_tool.specs.declared.words.Detail.{Detail}

-- ---- memory runs out

-- once a segment is open
pub starved_open : (x : Asked) (s : OpenSegment) (a b : DirectoryState) → Opens x (Ok s) a b → Opens x (Err OutOfMemory) a b
starved_open x s a b h = record { found = h.found; checked = h.checked; works = starves_after h.works; is = tt }

-- ---- one segment more

read_texts-append : (label : List ℕ) (detail : Detail) (ss ts : List OpenSegment)
    → read_texts label detail (ss ++ ts) ≡ read_texts label detail ss ++ read_texts label detail ts
read_texts-append label detail [] ts = refl
read_texts-append label detail (s ∷ ss) ts =
    ap (λ xs. read_segment_text label detail s ++ xs) (read_texts-append label detail ss ts)
    ∙ sym (append_assoc (read_segment_text label detail s) (read_texts label detail ss) (read_texts label detail ts))

-- what was printed so far
pub record PrintedSo (front label : List ℕ) (detail : Detail) (asked : List Asked) (text : List ℕ) (a b : DirectoryState) : Type 0 where
  pub opened : List OpenSegment
  pub is : text ≡ front ++ read_texts label detail opened
  pub opens : OpensSegments asked (Ok opened) a b

-- nothing yet
pub none_printed : (front label : List ℕ) (detail : Detail) (a : DirectoryState) → PrintedSo front label detail [] front a a
none_printed front label detail a = record { opened = []; is = sym (append-nil front); opens = none_yet [] a refl }

-- what is asked for at a place
asked_at : (segments : List SegmentParts) (i : ℕ) (s : SegmentParts) → slice_get segments i ≡ Some s
    → slice_get (all_of segments) i ≡ Some (all_of_one s)
asked_at [] i s at = absurd (none-some s at)
asked_at (t ∷ segments) zero s at = ap (λ (o : Option SegmentParts). option_map all_of_one o) at
asked_at (t ∷ segments) (suc i) s at = asked_at segments i s at

module _ (front label : List ℕ) (detail : Detail) (segments : List SegmentParts) (i : ℕ) (x : SegmentParts) (found : slice_get segments i ≡ Some x)
    (text : List ℕ) (a b c : DirectoryState) (before : PrintedSo front label detail (take i (all_of segments)) text a b) where
  -- one more was printed
  pub printed_more : (now : List ℕ) (s : OpenSegment) → now ≡ text ++ read_segment_text label detail s → Opens (all_of_one x) (Ok s) b c
      → PrintedSo front label detail (take (i + 1) (all_of segments)) now a c
  printed_more now s grown here = record {
    opened = before.opened ++ s ∷ [];
    is =
        grown
        ∙ ap (λ xs. xs ++ read_segment_text label detail s) before.is
        ∙ append_assoc front (read_texts label detail before.opened) (read_segment_text label detail s)
        ∙ ap (λ xs. front ++ (read_texts label detail before.opened ++ xs)) (sym (append-nil (read_segment_text label detail s)))
        ∙ ap (λ xs. front ++ xs) (sym (read_texts-append label detail before.opened (s ∷ [])));
    opens = opens_turn (all_of segments) i (all_of_one x) (asked_at segments i x found) before.opened a b c before.opens (before.opened ++ s ∷ []) s refl here;
  }

  -- or not
  pub printed_no_more : (e : TantivyError) → Opens (all_of_one x) (Err e) b c
      → ReadsText front label detail (all_of segments) (Err e) a c
  printed_no_more e here = fails e refl (stops_turn (all_of segments) i (all_of_one x) (asked_at segments i x found) before.opened a b c before.opens e here)

-- all were
pub all_printed : (front label : List ℕ) (detail : Detail) (segments : List SegmentParts) (i : ℕ) (text : List ℕ) (a b : DirectoryState)
    → length segments ≤ i → PrintedSo front label detail (take i (all_of segments)) text a b
    → ReadsText front label detail (all_of segments) (Ok text) a b
all_printed front label detail segments i text a b done so =
    reads so.opened (ap Ok so.is)
    (subst (λ (asked : List Asked). OpensSegments asked (Ok so.opened) a b)
    (take_all i (all_of segments) (omega (arith, done, length-map segments all_of_one))) so.opens)

-- ---- the index

module _ (front label : List ℕ) (detail : Detail) (metas : IndexMeta) (a b : DirectoryState) (load : LoadsMetas (Ok metas) a b) where
  -- there is no memory for the list of its segments
  pub unlisted : PrintsIndex front label detail (Err OutOfMemory) a b
  unlisted = loaded metas b load (fails OutOfMemory refl (starves_all (all_of (listed_segments metas)) b))

  -- they are printed, or not
  pub listed : (segments : List SegmentParts) (r : Result (List ℕ) TantivyError) (c : DirectoryState) → segments ≡ listed_segments metas
      → ReadsText front label detail (all_of segments) r b c → PrintsIndex front label detail r a c
  listed segments r c is read = loaded metas b load (subst (λ (l : List SegmentParts). ReadsText front label detail (all_of l) r b c) is read)

-- the same front, put in another way
pub from_front : {front other label : List ℕ} {detail : Detail} {r : Result (List ℕ) TantivyError} {a b : DirectoryState} → front ≡ other
    → PrintsIndex front label detail r a b → PrintsIndex other label detail r a b
from_front {label = label} {detail = detail} {r = r} {a = a} {b = b} same prints =
    subst (λ (xs : List ℕ). PrintsIndex xs label detail r a b) same prints

-- there is no memory for what comes before
pub not_begun : (front label : List ℕ) (detail : Detail) (a : DirectoryState) → PrintsIndex front label detail (Err OutOfMemory) a a
not_begun front label detail a =
    not_loaded OutOfMemory refl (record { bytes = []; from_bytes = record { works = does_nothing (load_steps []); says = tt } })

-- before any text
pub from_nothing : {front label : List ℕ} {detail : Detail} {r : Result (List ℕ) TantivyError} {a b : DirectoryState} → front ≡ []
    → PrintsIndex front label detail r a b → PrintsIndex [] label detail r a b
from_nothing {label = label} {detail = detail} {r = r} {a = a} {b = b} none prints =
    subst (λ (xs : List ℕ). PrintsIndex xs label detail r a b) none prints
