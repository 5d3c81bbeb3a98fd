-- The totals that are read of the work segments: those of the documents of their batches.
use Rattle.std.proofs.Common.{◌≡◌, ◌∙◌, ℕ, suc, ◌-◌, ◌^◌, min, List, [], ◌∷◌, map, length, Bool, true, false, cond, nat_lt, Option, None, Some, refl, sym, ap, arith}
use Rattle.std.specs.Prelude.{IsSomeAnd, not, option_map, unwrap_or}
use Rattle.std.specs.FinMap.{empty, entries, get, len-empty, len-entries}
use Rattle.std.specs.List.{AllByRecursion, count_by, filter, list_all, list_any, slice_get}
use Rattle.std.specs.Cmp.Lexicographic.{slice_cmp}
use Rattle.std.specs.Ordering.{nat_cmp}
use Rattle.std.proofs.lemmas.Bool.{false≢true, lt-ltb}
use Rattle.std.proofs.lemmas.Bool.Decides.{nat_tests}
use Rattle.std.proofs.lemmas.List.{nil_from_length}
use Rattle.std.proofs.lemmas.List.Sums.{count_by-le-length, length-filter}
use Rattle.std.proofs.lemmas.Option.{same_Some, slice_get-map, unwrap_or-slice_get}
use Rattle.seg_common.specs.declared.name.FileName.TheVariants.{Part as file_part}
use Rattle.seg_common.specs.declared.name.SegmentComponent.TheVariants.{Postings}
use Rattle.seg_values.specs.Tree.{Document}
use Rattle.seg_values.specs.declared.schema.FieldEntry.{FieldEntry}
use Rattle.seg_directory.specs.Files.{NamedFiles}
use Rattle.seg_meta.specs.Metas as metas
use Rattle.seg_meta.specs.Metas.{deleted}
use Rattle.seg_model.specs.Contents.{Contents, full_reading, terms_at}
use Rattle.seg_model.specs.TokenEstimate.{joined_estimate}
use Rattle.seg_model.specs.Fields.{Schema, Analyzer, is_indexed}
use Rattle.seg_model.specs.Input.{Filter}
use Rattle.seg_model.specs.Join.{Part}
use Rattle.seg_model.specs.Laws.{AreReadingsOf}
use Rattle.seg_model.specs.Operations.{Batch}
use Rattle.seg_model.specs.DocumentTerms.{Posting, Terms, field_terms}
use Rattle.seg_model.proofs.Exports.{at_place, was_read}
use Rattle.seg_postings.specs.OpenedFields.{OpenField}
use Rattle.seg_segment.specs.TokenTotals.{TellTotals}
use Rattle.seg_build.specs.TokenTotal as count
use Rattle.seg_open.specs.OpenSegment.{OpenSegment, contents_of, part_of, terms_in}
use Rattle.seg_open.specs.OpeningSteps.{Asked, HaveTotals}
use Rattle.seg_merger.specs.JoinedTotals.{joined_total, total_read}
use Rattle.seg_batches.specs.BatchTotals.{AllHaveTotals, HasTotals, documents_total}
use Rattle.seg_batches.specs.WrittenSegments.{deletes_of, listed, segment_of}
use Rattle.seg_index_build.specs.IndexTotals.{merged_batches, with_totals}
use Rattle.seg_index_build.specs.MergeAnswers.{AllHaveHeld}
use Rattle.seg_index_build.specs.MergedSegments.{live_asked}
use Rattle.seg_index_build.proofs.WorkReadings.{IsCounted, has_live, live_batches, parts_of, under}

-- ---- the batches that are merged

one_more : (n m : ℕ) (t : Bool) → nat_lt n m ≡ t → nat_lt (suc n) (suc m) ≡ t
one_more n m true h = grind (arith, nat_tests)
one_more n m false h = grind (arith, nat_tests)

-- fewer are removed than there are, where one is alive
some_left : (alive : List Bool) → nat_lt (length (filter not alive)) (length alive) ≡ list_any (λ b. b) alive
some_left [] = refl
some_left (true ∷ bs) =
    let most = count_by-le-length not bs in
    let same = length-filter not bs in
    lt-ltb (length (filter not bs)) (suc (length bs)) (omega (arith, most, same))
some_left (false ∷ bs) = one_more (length (filter not bs)) (length bs) (list_any (λ b. b) bs) (some_left bs)

all_left : (alive : List Bool) → list_all (λ b. b) alive ≡ true → nat_lt 0 (length alive) ≡ list_any (λ b. b) alive
all_left [] all = refl
all_left (true ∷ bs) all = lt-ltb 0 (suc (length bs)) (omega arith)
all_left (false ∷ bs) all = absurd (false≢true all)

module _ (stamp : ℕ) where
  left_by : (t : Bool) (alive : List Bool) → list_all (λ b. b) alive ≡ t
      → nat_lt (deleted (cond t None (Some (record { number = count_by not alive; stamp = stamp })))) (length alive) ≡ list_any (λ b. b) alive
  left_by true alive all = all_left alive all
  left_by false alive all = ap (λ n. nat_lt n (length alive)) (sym (length-filter not alive)) ∙ some_left alive

  -- the meta counts a live document where there is one
  counts_live : (batch : Batch) → IsCounted batch → has_live stamp batch ≡ list_any (λ b. b) batch.alive
  counts_live batch counted =
      ap (λ n. nat_lt (deleted (deletes_of stamp batch.alive)) n) (sym counted)
      ∙ left_by (list_all (λ b. b) batch.alive) batch.alive refl

  -- they are those of which the meta counts a live document
  pub are_live : (filters : List (Option Filter)) (batches : List Batch) → AllByRecursion IsCounted batches
      → live_batches stamp filters batches ≡ merged_batches filters batches
  are_live [] [] counted = refl
  are_live (f ∷ filters) [] counted = refl
  are_live [] (batch ∷ batches) counted = refl
  are_live (f ∷ filters) (batch ∷ batches) counted =
      ap (λ t. cond t (under f batch ∷ live_batches stamp filters batches) (live_batches stamp filters batches)) (counts_live batch counted.0)
      ∙ ap (λ l. cond (list_any (λ b. b) batch.alive) (under f batch ∷ l) l) (are_live filters batches counted.1)

-- ---- one field of one segment

abbrev no_terms : Terms
no_terms = empty

no_entries : entries no_terms ≡ []
no_entries = nil_from_length (entries no_terms) (sym (len-entries no_terms) ∙ len-empty (slice_cmp nat_cmp) (List Posting))

-- without terms the total is 0
none_counted : (terms : Terms) → terms ≡ empty → min (2 ^ 64 - 1) (count.token_total (entries terms)) ≡ 0
none_counted terms none =
    let nothing : count.token_total (entries terms) ≡ 0 = ap (λ t. count.token_total (entries t)) none ∙ ap count.token_total no_entries in
    omega (arith, nothing)

-- what is there of two kinds is there of both
record Both {X : Type 0} (P Q : X → Type 0) : Type 0 where
  value : X
  first : P value
  second : Q value

both_there : {X : Type 0} (P Q : X → Type 0) (o : Option X) → IsSomeAnd o P → IsSomeAnd o Q → Both P Q
both_there P Q None h k = absurd h
both_there P Q (Some x) h k = record { value = x; first = h; second = k }

module _ (schema : Schema) (analyzer : Analyzer) (files : NamedFiles) (field : ℕ) (entry : FieldEntry)
    (at : slice_get schema field ≡ Some entry) (on : is_indexed entry ≡ true) where
  abbrev f : ℕ × FieldEntry
  f = (field, entry)

  module _ (documents : List Document) (s : OpenSegment) (read : full_reading schema analyzer documents ≡ Some (contents_of s)) where
    -- a field without terms has none
    no_total : (o : Option (Option OpenField)) → slice_get s.fields field ≡ o
        → unwrap_or (option_map terms_in o) empty ≡ empty → documents_total schema analyzer documents f ≡ 0
    no_total o is none =
        let opened : terms_at (contents_of s) field ≡ empty =
        sym (unwrap_or-slice_get (map terms_in s.fields) field empty)
        ∙ ap (λ x. unwrap_or x empty) (slice_get-map terms_in s.fields field ∙ ap (option_map terms_in) is) ∙ none in
        let given : terms_at (contents_of s) field ≡ field_terms schema analyzer documents f =
        ap (λ (c : Contents). terms_at c field) (was_read schema analyzer documents (contents_of s) read).is_reading
        ∙ at_place (field_terms schema analyzer documents) empty field schema entry at in
        none_counted (field_terms schema analyzer documents f) (sym given ∙ opened)

    read_by : (postings : List ℕ) → TellTotals schema (documents_total schema analyzer documents) postings
        → HaveTotals s.fields postings → (o : Option (Option OpenField)) → slice_get s.fields field ≡ o
        → total_read o ≡ documents_total schema analyzer documents f
    read_by postings tells have None is = sym (no_total None is refl)
    read_by postings tells have (Some None) is = sym (no_total (Some None) is refl)
    read_by postings tells have (Some (Some opened)) is =
        same_Some opened.total (documents_total schema analyzer documents f) (sym (have field opened is) ∙ tells field entry at on)

    -- the total that is read is that of the documents
    one_total : (id : ℕ) → HasTotals files id schema (documents_total schema analyzer documents)
        → IsSomeAnd (get files (file_part id Postings)) (HaveTotals s.fields)
        → total_read (slice_get s.fields field) ≡ documents_total schema analyzer documents f
    one_total id tells have =
        let b = both_there (TellTotals schema (documents_total schema analyzer documents)) (HaveTotals s.fields) (get files (file_part id Postings)) tells have in
        read_by b.value b.first b.second (slice_get s.fields field) refl

  -- ---- all segments

  module _ (stamp : ℕ) where
    abbrev asked_for : Option Filter → ℕ → Batch → Asked
    asked_for filter id batch = record { segment = metas.segment_of schema (listed stamp (segment_of id batch)); custom = filter }

    abbrev counted : OpenSegment → Part × ℕ
    counted s = (part_of s, total_read (slice_get s.fields field))

    abbrev Totals : List Batch → List Asked → Type 0
    Totals batches asked =
        (opened : List OpenSegment) → AllHaveHeld files asked opened → AreReadingsOf schema analyzer batches (map part_of opened)
        → map counted opened ≡ with_totals schema analyzer f batches (map part_of opened)

    totals_if : (t : Bool) (filter : Option Filter) (id : ℕ) (batch : Batch) (asked : List Asked) (batches : List Batch)
        → HasTotals files id schema (documents_total schema analyzer batch.documents) → Totals batches asked
        → Totals (cond t (under filter batch ∷ batches) batches) (cond t (asked_for filter id batch ∷ asked) asked)
    totals_if true filter id batch asked batches tells next [] h read = absurd h
    totals_if true filter id batch asked batches tells next (s ∷ opened) h read =
        ap (λ n. (part_of s, n) ∷ map counted opened) (one_total batch.documents s read.0.contents id tells h.0.totals)
        ∙ ap (λ l. (part_of s, documents_total schema analyzer batch.documents f) ∷ l) (next opened h.1 read.1)
    totals_if false filter id batch asked batches tells next opened h read = next opened h read

    -- those of all that are opened are those of the batches
    pub all_read : (filters : List (Option Filter)) (ids : List ℕ) (batches : List Batch) → length ids ≡ length batches
        → AllHaveTotals schema analyzer files ids batches
        → Totals (live_batches stamp filters batches) (live_asked (parts_of stamp schema ids batches) filters)
    all_read filters [] [] many tells [] h read = refl
    all_read filters [] [] many tells (s ∷ opened) h read = absurd h
    all_read filters [] (batch ∷ batches) many tells opened h read = absurd (omega (arith, many))
    all_read filters (id ∷ ids) [] many tells opened h read = absurd (omega (arith, many))
    all_read [] (id ∷ ids) (batch ∷ batches) many tells [] h read = refl
    all_read [] (id ∷ ids) (batch ∷ batches) many tells (s ∷ opened) h read = absurd h
    all_read (filter ∷ filters) (id ∷ ids) (batch ∷ batches) many tells opened h read =
        totals_if (has_live stamp batch) filter id batch (live_asked (parts_of stamp schema ids batches) filters)
        (live_batches stamp filters batches) tells.0
        (all_read filters ids batches (omega (arith, many)) tells.1) opened h read

-- ---- the totals of what they are joined to

-- totals that are the same are told
same_told : (files : NamedFiles) (id : ℕ) (schema : Schema) (total other : ℕ × FieldEntry → ℕ)
    → ((field : ℕ) (entry : FieldEntry) → slice_get schema field ≡ Some entry → is_indexed entry ≡ true
    → total (field, entry) ≡ other (field, entry))
    → HasTotals files id schema total → HasTotals files id schema other
same_told files id schema total other same tells = by (get files (file_part id Postings)) tells
  where
    by : (o : Option (List ℕ)) → IsSomeAnd o (TellTotals schema total) → IsSomeAnd o (TellTotals schema other)
    by None h = absurd h
    by (Some postings) h = λ field entry at on. h field entry at on ∙ ap (λ n. Some n) (same field entry at on)

-- the totals of open segments that are joined are the estimate over their batches
pub joined_told : (schema : Schema) (analyzer : Analyzer) (work output : NamedFiles) (stamp id : ℕ)
    → (filters : List (Option Filter)) (ids : List ℕ) (batches : List Batch) → length ids ≡ length batches
    → AllHaveTotals schema analyzer work ids batches
    → (opened : List OpenSegment) → AllHaveHeld work (live_asked (parts_of stamp schema ids batches) filters) opened
    → AreReadingsOf schema analyzer (live_batches stamp filters batches) (map part_of opened)
    → HasTotals output id schema (joined_total opened)
    → HasTotals output id schema (λ f. joined_estimate f (with_totals schema analyzer f (live_batches stamp filters batches) (map part_of opened)))
joined_told schema analyzer work output stamp id filters ids batches many tells opened held read joined =
    same_told output id schema (joined_total opened)
    (λ f. joined_estimate f (with_totals schema analyzer f (live_batches stamp filters batches) (map part_of opened)))
    (λ field entry at on. ap (joined_estimate (field, entry)) (all_read schema analyzer work field entry at on stamp filters ids batches many tells opened held read))
    joined
