-- Terms that are written document by document.
use Rattle.std.proofs.Common.{◌≡◌, ℕ, ◌+◌, ◌-◌, ◌<◌, ◌≤◌, ◌^◌, List, [], ◌∷◌, ◌++◌, Some, None, Option, sym, refl, ap, ◌∙◌, subst, arith}
use Rattle.std.specs.Prelude.{unwrap_or, IfSome, IsSomeAnd}
use Rattle.std.proofs.lemmas.Option.{none-some, same_Some}
use Rattle.seg_common.specs.WriterGrowth.{HasGrown}
use Rattle.seg_model.specs.DocumentTerms.{Recorded, presence, frequency, positions, Posting}
use Rattle.seg_postings.specs.declared.record_kind.RecordKind.{RecordKind}
use Rattle.seg_postings.specs.declared.record_kind.RecordKind.TheVariants.{Documents, Counts, Positions}
use Rattle.seg_postings.specs.FieldSerializers.{TermWritten, FieldWriting, with_document, in_document, next_document, HasPositions, MayOccur, MayOpen}
use Rattle.seg_postings.specs.OpenPostings.{kind_kept, count_of, places_of}
use Rattle.seg_postings.specs.WritablePostings.{Rise, recorded_as}
use Rattle.seg_segment.specs.WrittenTerms.{term_with, open_postings, opened, posting_of, with_more, AreOfKind, AscendBy, AreOfTerm, MayTake}

-- ---- what a kind records

kind_is : (kind : RecordKind) (count : ℕ) (places : List ℕ) → kind_kept (recorded_as kind count places) ≡ kind
kind_is Documents count places = refl
kind_is Counts count places = refl
kind_is Positions count places = refl

-- a count and positions that can be written
record CanOccur (kind : RecordKind) (count : ℕ) (places : List ℕ) : Type 0 where
  some : 1 ≤ count
  counted : HasPositions kind count places
  rise : Rise 0 places

can_occur : (kind : RecordKind) (count : ℕ) (places : List ℕ) → AreOfKind kind count places
    → 1 ≤ count_of (recorded_as kind count places) → CanOccur kind count places
can_occur Documents count places (once, none) occurs =
    record { some = omega (arith, once); counted = none; rise = subst (Rise 0) (sym none) tt }
can_occur Counts count places none occurs =
    record { some = occurs; counted = none; rise = subst (Rise 0) (sym none) tt }
can_occur Positions count places (counted, rise) occurs =
    record { some = omega (arith, counted, occurs); counted = sym counted; rise = rise }

-- a count and positions are those of what is recorded
pub record IsRecorded (kind : RecordKind) (r : Recorded) (count : ℕ) (places : List ℕ) : Type 0 where
  pub keeps : kind_kept r ≡ kind
  pub counted : count ≡ count_of r
  pub placed : places ≡ places_of r
  pub rise : Rise 0 (places_of r)

own_kind : (r : Recorded) → Rise 0 (places_of r) → AreOfKind (kind_kept r) (count_of r) (places_of r)
own_kind presence rise = (refl, refl)
own_kind (frequency n) rise = refl
own_kind (positions ps) rise = (refl, rise)

recorded_back : (r : Recorded) → recorded_as (kind_kept r) (count_of r) (places_of r) ≡ r
recorded_back presence = refl
recorded_back (frequency n) = refl
recorded_back (positions ps) = refl

abbrev in_posting : ℕ → Recorded → Posting
in_posting document r = record { document = document; recorded = r }

module _ (kind : RecordKind) (r : Recorded) (count : ℕ) (places : List ℕ) (is : IsRecorded kind r count places) where
  pub are_of_kind : AreOfKind kind count places
  are_of_kind =
      subst (λ (k : RecordKind). AreOfKind k count places) is.keeps
      (subst (λ (n : ℕ). AreOfKind (kind_kept r) n places) (sym is.counted)
      (subst (λ (ps : List ℕ). AreOfKind (kind_kept r) (count_of r) ps) (sym is.placed) (own_kind r is.rise)))

  pub posting_is : (document : ℕ) → posting_of kind document count places ≡ record { document = document; recorded = r }
  posting_is document =
      ap (in_posting document)
      (ap (λ (k : RecordKind). recorded_as k count places) (sym is.keeps)
      ∙ ap (λ (n : ℕ). recorded_as (kind_kept r) n places) is.counted
      ∙ ap (λ (ps : List ℕ). recorded_as (kind_kept r) (count_of r) ps) is.placed
      ∙ recorded_back r)

-- ---- a posting after those of its term

-- what is known of the last one of some postings
record IsLast (kind : RecordKind) (least : ℕ) (p : Posting) : Type 0 where
  later : least ≤ p.document
  limit : p.document < 2 ^ 32 - 1
  keeps : kind_kept p.recorded ≡ kind
  occurs : 1 ≤ count_of p.recorded

last_of : (kind : RecordKind) (least : ℕ) (ps : List Posting) (p : Posting) → AscendBy kind least (ps ++ p ∷ [])
    → IsLast kind (next_document least ps) p
last_of kind least [] p up = record { later = up.0; limit = up.1; keeps = up.2; occurs = up.3 }
last_of kind least (q ∷ ps) p up = last_of kind (q.document + 1) ps p up.4

-- a term that is open is the one with its postings
record IsBegun (bytes : List ℕ) (t : TermWritten) : Type 0 where
  first : Posting
  rest : List Posting
  postings : t.postings ≡ first ∷ rest
  is : t ≡ record { bytes = bytes; kind = kind_kept first.recorded; postings = first ∷ rest }

begun : (bytes : List ℕ) (t : TermWritten) → Some t ≡ term_with bytes t.postings → IsBegun bytes t
begun bytes t is = by t.postings refl is
  where
    by : (ps : List Posting) → t.postings ≡ ps → Some t ≡ term_with bytes ps → IsBegun bytes t
    by [] are e = absurd (none-some t (sym e))
    by (p ∷ ps) are e = record { first = p; rest = ps; postings = are; is = same_Some t _ e }

-- ---- one more document

module _ (bytes : List ℕ) (kind : RecordKind) (document count : ℕ) (places : List ℕ) where
  abbrev news : Posting
  news = posting_of kind document count places

  abbrev fresh_term : TermWritten
  fresh_term = record { bytes = bytes; kind = kind; postings = [] }

  pub may_open : (o : Option FieldWriting) → IsSomeAnd o (MayTake bytes (posting_of kind document count places ∷ []))
      → IsSomeAnd o (λ w. w.current ≡ None → MayOpen w bytes)
  may_open None h = absurd h
  may_open (Some w) h = λ closed. record { closed = closed; ascends = h.ascends }

  -- the open term, or else a new one, keeps the kind and comes before the document
  record Takes (t : TermWritten) : Type 0 where
    keeps : t.kind ≡ kind
    ascends : next_document 0 t.postings ≤ document
    limit : document < 2 ^ 32 - 1
    occurs : 1 ≤ count_of (recorded_as kind count places)

  takes : (c : Option TermWritten) → c ≡ term_with bytes (open_postings c) → AreOfTerm (open_postings c ++ news ∷ [])
      → Takes (unwrap_or c fresh_term)
  takes None is are = record { keeps = refl; ascends = are.0; limit = are.1; occurs = are.3 }
  takes (Some t) is are =
      let b = begun bytes t is in
      let up : AscendBy (kind_kept b.first.recorded) 0 ((b.first ∷ b.rest) ++ news ∷ []) = subst (λ (qs : List Posting). AreOfTerm (qs ++ news ∷ [])) b.postings are in
      let last = last_of (kind_kept b.first.recorded) 0 (b.first ∷ b.rest) news up in
      record {
        keeps = ap (λ (x : TermWritten). x.kind) b.is ∙ sym last.keeps ∙ kind_is kind count places;
        ascends = subst (λ (qs : List Posting). next_document 0 qs ≤ document) (sym b.postings) last.later;
        limit = last.limit;
        occurs = last.occurs;
      }

  module _ (o mid : Option FieldWriting) (may : IsSomeAnd o (MayTake bytes (posting_of kind document count places ∷ []))) (g : HasGrown o mid (opened bytes kind)) where
    had : MayTake bytes (posting_of kind document count places ∷ []) g.kept
    had = subst (λ x. IsSomeAnd x (MayTake bytes (posting_of kind document count places ∷ []))) g.was may

    there : Takes (unwrap_or g.kept.current fresh_term)
    there = takes g.kept.current had.is_open had.are

    pub may_occur : AreOfKind kind count places → IfSome mid (λ w. IsSomeAnd w.current (MayOccur document count places))
    may_occur are =
        let can = can_occur kind count places are there.occurs in
        let here : MayOccur document count places (unwrap_or g.kept.current fresh_term) = record {
          ascends = there.ascends;
          limit = there.limit;
          some = can.some;
          counted = subst (λ (k : RecordKind). HasPositions k count places) (sym there.keeps) can.counted;
          rise = can.rise;
        } in
        subst (λ x. IfSome x (λ w. IsSomeAnd w.current (MayOccur document count places))) (sym g.is) here

    recorded : (t : TermWritten) → t.kind ≡ kind
        → in_document document count places t ≡ record t { postings = t.postings ++ news ∷ [] }
    recorded t keeps =
        ap (λ (k : RecordKind). record t { postings = t.postings ++ posting_of k document count places ∷ [] }) keeps

    joined : (c : Option TermWritten) → c ≡ term_with bytes (open_postings c)
        → Some (record (unwrap_or c fresh_term) { postings = (unwrap_or c fresh_term).postings ++ news ∷ [] }) ≡ term_with bytes (open_postings c ++ news ∷ [])
    joined None is =
        ap (λ (k : RecordKind). Some (record { bytes = bytes; kind = k; postings = news ∷ [] })) (sym (kind_is kind count places))
    joined (Some t) is =
        let b = begun bytes t is in
        ap (λ (x : TermWritten). Some (record x { postings = x.postings ++ news ∷ [] })) b.is
        ∙ ap (λ (qs : List Posting). term_with bytes (qs ++ news ∷ [])) (sym b.postings)

    pub has_more : (new : Option FieldWriting) → HasGrown mid new (with_document document count places)
        → HasGrown o new (with_more bytes (posting_of kind document count places ∷ []))
    has_more new h = record {
      kept = g.kept;
      was = g.was;
      is = h.is
          ∙ ap (λ w. Some (with_document document count places w)) (same_Some h.kept (opened bytes kind g.kept) (sym h.was ∙ g.is))
          ∙ ap (λ (t : TermWritten). Some (record g.kept { current = Some t })) (recorded (unwrap_or g.kept.current fresh_term) there.keeps)
          ∙ ap (λ c. Some (record g.kept { current = c })) (joined g.kept.current had.is_open);
    }
