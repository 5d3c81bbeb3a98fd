-- Hits that are written run by run.
use Rattle.std.proofs.Common.{◌≡◌, ◌≢◌, ℕ, ◌+◌, ◌≤◌, List, [], ◌∷◌, ◌++◌, map, length, take, drop, Option, sym, refl, ap, ◌∙◌, subst, arith}
use Rattle.std.specs.Prelude.{slice_index, IsSomeAnd}
use Rattle.std.proofs.lemmas.List.{length-map}
use Rattle.seg_common.specs.WriterGrowth.{HasGrown}
use Rattle.seg_model.specs.DocumentTerms.{Recorded, Posting}
use Rattle.seg_postings.specs.declared.record_kind.RecordKind.{RecordKind}
use Rattle.seg_postings.specs.declared.record_kind.RecordKind.TheVariants.{Documents, Counts, Positions}
use Rattle.seg_postings.specs.FieldSerializers.{FieldWriting}
use Rattle.seg_postings.specs.OpenPostings.{kind_kept, count_of, places_of}
use Rattle.seg_postings.specs.WritablePostings.{Rise, IsOfKind, AreWritable}
use Rattle.seg_segment.specs.WrittenTerms.{AscendBy, AreOfTerm, MayTake, with_more}
use Rattle.seg_segment.proofs.Exports.{AreGiven, IsRecorded, given_more, may_take}
use Rattle.seg_terms.specs.declared.hit.Hit.{Hit}
use Rattle.seg_build.specs.FieldTerms.{postings_as}
use Rattle.seg_terms.specs.PostingGroups.{grouped}
use Rattle.seg_terms.specs.OccurrenceRuns.{IsFirstRun}
use Rattle.seg_build.specs.WrittenTerms.{kept_hits}

-- ---- what can be written

kept_of : (kind : RecordKind) (r : Recorded) → IsOfKind kind r
    → (kind_kept r ≡ kind) × (1 ≤ count_of r) × Rise 0 (places_of r)
kept_of Documents r is =
    subst (λ (x : Recorded). (kind_kept x ≡ Documents) × (1 ≤ count_of x) × Rise 0 (places_of x)) (sym is) (refl, omega arith, tt)
kept_of Counts r (n, some, few, is) =
    subst (λ (x : Recorded). (kind_kept x ≡ Counts) × (1 ≤ count_of x) × Rise 0 (places_of x)) (sym is) (refl, some, tt)
kept_of Positions r (ps, some, few, rise, is) =
    subst (λ (x : Recorded). (kind_kept x ≡ Positions) × (1 ≤ count_of x) × Rise 0 (places_of x)) (sym is) (refl, some, rise)

ascend_by : (kind : RecordKind) (before least : ℕ) (ps : List Posting) → AreWritable kind before least ps
    → AscendBy kind (before + least) ps
ascend_by kind before least [] h = tt
ascend_by kind before least (p ∷ ps) (following, limit, is, rest) = let kept = kept_of kind p.recorded is in (following, limit, kept.0, kept.1, ascend_by kind p.document 1 ps rest)

-- the kind of the first posting is the one of all
pub first_keeps : (kind : RecordKind) (p : Posting) (ps : List Posting) → AreWritable kind 0 0 (p ∷ ps)
    → kind_kept p.recorded ≡ kind
first_keeps kind p ps (following, limit, is, rest) = (kept_of kind p.recorded is).0

pub are_of_term : (kind : RecordKind) (ps : List Posting) → AreWritable kind 0 0 ps → AreOfTerm ps
are_of_term kind [] h = tt
are_of_term kind (p ∷ ps) h =
    subst (λ (k : RecordKind). AscendBy k 0 (p ∷ ps)) (sym (first_keeps kind p ps h)) (ascend_by kind 0 0 (p ∷ ps) h)

kept_at : (kind : RecordKind) (before least : ℕ) (done : List Posting) (p : Posting) (later : List Posting)
    → AreWritable kind before least (done ++ p ∷ later) → IsOfKind kind p.recorded
kept_at kind before least [] p later (following, limit, is, rest) = is
kept_at kind before least (q ∷ done) p later (following, limit, is, rest) = kept_at kind q.document 1 done p later rest

-- ---- the hits in one document

pub counted_as : (kind : RecordKind) → kind ≡ Counts → (hits : List Hit) → length hits ≡ count_of (kept_hits kind hits)
counted_as kind is hits =
    sym (length-map hits (λ (h : Hit). h.position)) ∙ sym (ap (λ (k : RecordKind). count_of (kept_hits k hits)) is)

pub counted_placed : (kind : RecordKind) → kind ≡ Positions → (hits : List Hit)
    → length hits ≡ count_of (kept_hits kind hits)
counted_placed kind is hits =
    sym (length-map hits (λ (h : Hit). h.position)) ∙ sym (ap (λ (k : RecordKind). count_of (kept_hits k hits)) is)

pub all_placed : (kind : RecordKind) → kind ≡ Positions → (hits : List Hit)
    → map (λ (h : Hit). h.position) hits ≡ places_of (kept_hits kind hits)
all_placed kind is hits = sym (ap (λ (k : RecordKind). places_of (kept_hits k hits)) is)

pub none_placed : (kind : RecordKind) → kind ≢ Positions → (hits : List Hit) → [] ≡ places_of (kept_hits kind hits)
none_placed Documents other hits = refl
none_placed Counts other hits = refl
none_placed Positions other hits = absurd (other refl)

pub run_recorded : (kind : RecordKind) (run : List Hit) (count : ℕ) (places : List ℕ)
    → IsOfKind kind (kept_hits kind run) → count ≡ count_of (kept_hits kind run)
    → places ≡ places_of (kept_hits kind run) → IsRecorded kind (kept_hits kind run) count places
run_recorded kind run count places is counted are = let kept = kept_of kind (kept_hits kind run) is in record { keeps = kept.0; counted = counted; placed = are; rise = kept.2 }

-- ---- the hits so far

pub none_left : (kind : RecordKind) (rest : List Hit) → length rest ≡ 0 → postings_as kind (grouped rest) ≡ []
none_left kind [] none = refl
none_left kind (h ∷ hs) none = absurd (omega (arith, none))

-- the first run of the hits that are left, of which the document is that of the first hit
pub record IsRun (kind : RecordKind) (rest run others : List Hit) (d : ℕ) : Type 0 where
  pub first : postings_as kind (grouped rest) ≡ record { document = d; recorded = kept_hits kind run } ∷ postings_as kind (grouped others)

abbrev posting_of : RecordKind → ℕ → List Hit → Posting
posting_of kind d run = record { document = d; recorded = kept_hits kind run }

pub run_of : (kind : RecordKind) (rest run others : List Hit) (n d : ℕ) → IsFirstRun rest n → run ≡ take n rest
    → others ≡ drop n rest → d ≡ slice_index (map (λ (h : Hit). h.document) rest) 0 → IsRun kind rest run others d
run_of kind rest run others n d first front back document = record {
  first = ap (postings_as kind) (first.first)
      ∙ ap (λ hs. posting_of kind (slice_index (map (λ (h : Hit). h.document) rest) 0) hs ∷ postings_as kind (grouped (drop n rest))) (sym front)
      ∙ ap (λ hs. posting_of kind (slice_index (map (λ (h : Hit). h.document) rest) 0) run ∷ postings_as kind (grouped hs)) (sym back)
      ∙ ap (λ m. posting_of kind m run ∷ postings_as kind (grouped others)) (sym document);
}

module _ (kind : RecordKind) (bytes : List ℕ) (before now : Option FieldWriting) (all rest : List Hit) (may : IsSomeAnd before (MayTake bytes (postings_as kind (grouped all))))
    (so_far : AreGiven bytes before now (postings_as kind (grouped all)) (postings_as kind (grouped rest))) (run others : List Hit) (d : ℕ) (is : IsRun kind rest run others d) where
  pub run_kept : AreWritable kind 0 0 (postings_as kind (grouped all)) → IsOfKind kind (kept_hits kind run)
  run_kept writable =
      kept_at kind 0 0 so_far.done (posting_of kind d run) (postings_as kind (grouped others)) (subst (AreWritable kind 0 0) (sym (ap (λ l. so_far.done ++ l) (sym is.first) ∙ so_far.with_left)) writable)

  pub run_taken : IsSomeAnd now (MayTake bytes (record { document = d; recorded = kept_hits kind run } ∷ []))
  run_taken =
      may_take bytes before (postings_as kind (grouped all)) may now (postings_as kind (grouped rest)) so_far (posting_of kind d run ∷ []) (postings_as kind (grouped others)) is.first

  pub run_more : (after : Option FieldWriting)
      → HasGrown now after (with_more bytes (record { document = d; recorded = kept_hits kind run } ∷ []))
      → AreGiven bytes before after (postings_as kind (grouped all)) (postings_as kind (grouped others))
  run_more after g =
      given_more bytes before (postings_as kind (grouped all)) may now (postings_as kind (grouped rest)) so_far (posting_of kind d run ∷ []) (postings_as kind (grouped others)) is.first after g
