-- The terms of a field in segments of full shape, under the new ids of their documents.
use Rattle.std.proofs.Common.{◌≡◌, ℕ, suc, ◌+◌, ◌-◌, ◌^◌, ◌<◌, ◌≤◌, Bool, true, false, cond, T, List, [], ◌∷◌, ◌++◌, map, length, Some, None, Option, sym, refl, ap, ◌∙◌, subst, arith, append_assoc}
use Rattle.std.specs.Prelude.{option_map, option_to_list, unwrap_or}
use Rattle.std.specs.FinMap.{empty, find, get, get-from_sorted, is_sorted}
use Rattle.std.specs.List.{AllByRecursion, flat_map}
use Rattle.std.specs.Ordering.{nat_cmp, eq_by_cmp}
use Rattle.std.specs.Cmp.Lexicographic.{slice_cmp}
use Rattle.std.proofs.lemmas.List.{map-append, length-append}
use Rattle.std.proofs.lemmas.Option.{slice_get-map, get_or_from_slice_get}
use Rattle.seg_segment.proofs.Exports.{pair_of}
use Rattle.seg_bits.specs.BitSets.{member_count}
use Rattle.seg_values.specs.declared.schema.FieldEntry.{FieldEntry}
use Rattle.seg_values.specs.declared.schema.IndexOption.{IndexOption}
use Rattle.seg_values.specs.declared.schema.IndexOption.TheVariants as options
use Rattle.seg_model.specs.Contents.{terms_at}
use Rattle.seg_model.specs.Join.{all_recorded, term_column, live_of, joined_postings}
use Rattle.seg_model.specs.Operations.{kept}
use Rattle.seg_model.specs.DocumentTerms.{Recorded, Posting, postings_from, term_option}
use Rattle.seg_model.specs.Shape.{IsRecordOf, ArePostings}
use Rattle.seg_common.proofs.Lists.{all_both}
use Rattle.seg_model.proofs.Exports.{ArePostings-from, AreRecordsOf, AreRecordsOf-all_recorded, each-kept, length-all_recorded}
use Rattle.seg_open.specs.OpenSegment.{OpenSegment, kept_count, part_of, terms_in}
use Rattle.seg_postings.specs.declared.record_kind.RecordKind.{RecordKind}
use Rattle.seg_postings.specs.OpenedFields.{ReadTerm, OpenField, written_terms}
use Rattle.seg_postings.specs.FieldSerializers.{TermWritten}
use Rattle.seg_postings.specs.TermMaps.{terms_held}
use Rattle.seg_postings.specs.RecordKinds.{kind_of}
use Rattle.seg_postings.specs.OpenPostings.{kind_kept, count_of}
use Rattle.seg_merger.specs.JoinedTerms.{IsOfField, terms_read, source_of}
use Rattle.seg_merger.specs.MovedPostings.{SourceTerms, Ascend, moved_from, moved_from_all, postings_with, term_at}
use Rattle.seg_merger.specs.NewIds.{new_ids, numbered_from}
use Rattle.seg_merger.specs.JoinedSources.{IsJoinable, AreJoinable}
use Rattle.seg_segment.specs.WrittenTerms.{AscendBy, AreOfTerm, term_with}
use Rattle.seg_merger.proofs.MovedIds.{moved_is_kept, postings_append, kept_counted}
use Rattle.seg_merger.proofs.SortedEntries.{find_there}

-- ---- the terms of an open field

pairs_written : (ts : List ReadTerm) → map (λ (t : TermWritten). (t.bytes, t.postings)) (map (λ (t : ReadTerm). record { bytes = t.bytes; kind = t.kind; postings = t.postings }) ts) ≡ map pair_of ts
pairs_written [] = refl
pairs_written (t ∷ ts) = ap (λ l. pair_of t ∷ l) (pairs_written ts)

found_by : (b : Bool) (t : ReadTerm) (rest : Option (List Posting)) (found : Option ReadTerm) → rest ≡ option_map (λ (x : ReadTerm). x.postings) found → cond b (Some t.postings) rest ≡ option_map (λ (x : ReadTerm). x.postings) (cond b (Some t) found)
found_by true t rest found same = refl
found_by false t rest found same = same

found_pairs : (key : List ℕ) (ts : List ReadTerm) → find (slice_cmp nat_cmp) key (map pair_of ts) ≡ option_map (λ (t : ReadTerm). t.postings) (term_at key ts)
found_pairs key [] = refl
found_pairs key (t ∷ ts) = found_by (eq_by_cmp (slice_cmp nat_cmp) key t.bytes) t (find (slice_cmp nat_cmp) key (map pair_of ts)) (term_at key ts) (found_pairs key ts)

module _ (f : OpenField) (up : Ascend f.terms) where
  held_is : (key : List ℕ) → get (terms_held (written_terms f)) key ≡ find (slice_cmp nat_cmp) key (map pair_of f.terms)
  held_is key =
      let pairs = pairs_written f.terms in
      get-from_sorted (slice_cmp nat_cmp) (map (λ (t : TermWritten). (t.bytes, t.postings)) (written_terms f)) key (subst T (sym (ap (is_sorted (slice_cmp nat_cmp)) pairs ∙ up)) tt)
      ∙ ap (find (slice_cmp nat_cmp) key) pairs

  all_held : (passed rest : List ReadTerm) → f.terms ≡ passed ++ rest → AllByRecursion (λ (t : ReadTerm). get (terms_held (written_terms f)) t.bytes ≡ Some t.postings) rest
  all_held passed [] are = tt
  all_held passed (t ∷ rest) are =
      let split : map pair_of f.terms ≡ map pair_of passed ++ pair_of t ∷ map pair_of rest = ap (map pair_of) are ∙ map-append pair_of passed (t ∷ rest) in (
        held_is t.bytes ∙ ap (find (slice_cmp nat_cmp) t.bytes) split ∙ find_there (map pair_of passed) (pair_of t) (map pair_of rest) (ap (is_sorted (slice_cmp nat_cmp)) (sym split) ∙ up),
        all_held (passed ++ t ∷ []) rest (are ∙ sym (append_assoc passed (t ∷ []) rest)),
      )

-- ---- what is recorded

kept_as : (option : IndexOption) (r : Recorded) → IsRecordOf option r → (kind_kept r ≡ kind_of option) × (1 ≤ count_of r)
kept_as options.No r is = subst (λ (x : Recorded). (kind_kept x ≡ kind_of options.No) × (1 ≤ count_of x)) (sym is) (refl, omega arith)
kept_as options.Basic r is = subst (λ (x : Recorded). (kind_kept x ≡ kind_of options.Basic) × (1 ≤ count_of x)) (sym is) (refl, omega arith)
kept_as options.Freqs r (n, some, is) = subst (λ (x : Recorded). (kind_kept x ≡ kind_of options.Freqs) × (1 ≤ count_of x)) (sym is) (refl, omega (arith, some))
kept_as options.Positions r (ps, some, is) = subst (λ (x : Recorded). (kind_kept x ≡ kind_of options.Positions) × (1 ≤ count_of x)) (sym is) (refl, omega (arith, some))

module _ (option : IndexOption) where
  ascend_by : (first last : ℕ) (ps : List Posting) → last ≤ 2 ^ 32 - 1 → ArePostings option first last ps → AscendBy (kind_of option) first ps
  ascend_by first last [] few h = tt
  ascend_by first last (p ∷ ps) few h = let k = kept_as option p.recorded h.2 in (h.0, omega (arith, h.1), k.0, k.1, ascend_by (p.document + 1) last ps few h.3)

  of_term : (ps : List Posting) → AscendBy (kind_of option) 0 ps → AreOfTerm ps
  of_term [] h = tt
  of_term (p ∷ ps) h = subst (λ (k : RecordKind). AscendBy k 0 (p ∷ ps)) (sym h.2) h

  all_low : (first last : ℕ) (ps : List Posting) → ArePostings option first last ps → AllByRecursion (λ (p : Posting). p.document < last) ps
  all_low first last [] h = tt
  all_low first last (p ∷ ps) h = (h.1, all_low (p.document + 1) last ps h.3)

length-new_ids : (first : ℕ) (marks : List Bool) → length (new_ids first marks) ≡ length marks
length-new_ids first [] = refl
length-new_ids first (true ∷ marks) = ap suc (length-new_ids (first + 1) marks)
length-new_ids first (false ∷ marks) = ap suc (length-new_ids first marks)

-- ---- segments

module _ (entry : FieldEntry) (field : ℕ) where
  abbrev source : ℕ → OpenSegment → SourceTerms
  source first p = source_of field (record { part = p; ids = new_ids first p.alive })

  abbrev pub sources_from : ℕ → List OpenSegment → List SourceTerms
  sources_from first ps = map (source_of field) (numbered_from first ps)

  module _ (first : ℕ) (p : OpenSegment) (is : IsOfField entry field p) (up : Ascend (source_of field (record { part = p; ids = new_ids first p.alive })).terms) where
    terms_are : (source first p).terms ≡ is.opened.terms
    terms_are = ap terms_read is.is_open

    opened_up : Ascend is.opened.terms
    opened_up = subst Ascend terms_are up

    module _ (key : List ℕ) where
      read_is : get (terms_held (written_terms is.opened)) key ≡ option_map (λ (t : ReadTerm). t.postings) (term_at key (source first p).terms)
      read_is = held_is is.opened opened_up key ∙ found_pairs key is.opened.terms ∙ ap (λ ts. option_map (λ (t : ReadTerm). t.postings) (term_at key ts)) (sym terms_are)

      -- the terms of the contents have the same at a key
      column_is : term_column field key (part_of p) ≡ all_recorded 0 p.documents (postings_with key (source first p).terms)
      column_is =
          let at : terms_at (part_of p).contents field ≡ terms_held (written_terms is.opened) =
          get_or_from_slice_get (map terms_in p.fields) field (terms_in (Some is.opened)) empty (slice_get-map terms_in p.fields field ∙ ap (option_map terms_in) is.is_open) in
          ap (λ m. all_recorded 0 p.documents (unwrap_or (get m key) [])) at
          ∙ ap (λ o. all_recorded 0 p.documents (unwrap_or o [])) read_is

      shaped : ArePostings (term_option entry key) 0 p.documents (postings_with key (source first p).terms)
      shaped = subst (λ o. ArePostings (term_option entry key) 0 p.documents (unwrap_or o [])) read_is (by (get (terms_held (written_terms is.opened)) key) refl)
        where
          by : (o : Option (List Posting)) → get (terms_held (written_terms is.opened)) key ≡ o → ArePostings (term_option entry key) 0 p.documents (unwrap_or o [])
          by None e = tt
          by (Some ps) e = (is.shape key ps e).postings_ascend

      moved_one : moved_from key (source first p) ≡ postings_from first (kept p.alive (term_column field key (part_of p)))
      moved_one = moved_is_kept (term_option entry key) first p.documents p.alive (postings_with key (source first p).terms) is.marked shaped ∙ ap (λ rs. postings_from first (kept p.alive rs)) (sym column_is)

      records : AreRecordsOf (term_option entry key) (term_column field key (part_of p))
      records = subst (AreRecordsOf (term_option entry key)) (sym column_is) (AreRecordsOf-all_recorded (term_option entry key) 0 p.documents 0 p.documents (postings_with key (source first p).terms) shaped)

      counted : length (kept p.alive (term_column field key (part_of p))) ≡ member_count p.alive
      counted = kept_counted p.alive (term_column field key (part_of p)) (is.marked ∙ sym (ap length column_is ∙ length-all_recorded 0 p.documents (postings_with key (source first p).terms)))

    within : AllByRecursion (λ (t : ReadTerm). AllByRecursion (λ (x : Posting). x.document < length (new_ids first p.alive)) t.postings) (source first p).terms
    within = subst (AllByRecursion (λ (t : ReadTerm). AllByRecursion (λ (x : Posting). x.document < length (new_ids first p.alive)) t.postings)) (sym terms_are) (each is.opened.terms (all_held is.opened opened_up [] is.opened.terms refl))
      where
        many : p.documents ≡ length (new_ids first p.alive)
        many = sym is.marked ∙ sym (length-new_ids first p.alive)

        each : (ts : List ReadTerm) → AllByRecursion (λ (t : ReadTerm). get (terms_held (written_terms is.opened)) t.bytes ≡ Some t.postings) ts → AllByRecursion (λ (t : ReadTerm). AllByRecursion (λ (x : Posting). x.document < length (new_ids first p.alive)) t.postings) ts
        each [] h = tt
        each (t ∷ ts) h =
            (subst (λ n. AllByRecursion (λ (x : Posting). x.document < n) t.postings) many (all_low (term_option entry t.bytes) 0 p.documents t.postings (is.shape t.bytes t.postings h.0).postings_ascend), each ts h.1)

  -- ---- all of them

  abbrev AreUp : ℕ → List OpenSegment → Type 0
  AreUp first ps = AllByRecursion (λ (s : SourceTerms). Ascend s.terms) (sources_from first ps)

  abbrev columns : List ℕ → List OpenSegment → List (Option Recorded)
  columns key ps = live_of (term_column field key) (map part_of ps)

  joinable : (first : ℕ) (ps : List OpenSegment) → AllByRecursion (IsOfField entry field) ps → AreUp first ps → AllByRecursion IsJoinable (sources_from first ps)
  joinable first [] all up = tt
  joinable first (p ∷ ps) all up = (record { ascend = up.0; within = within first p all.0 up.0 }, joinable (first + member_count p.alive) ps all.1 up.1)

  module _ (key : List ℕ) where
    moved_all : (first : ℕ) (ps : List OpenSegment) → AllByRecursion (IsOfField entry field) ps → AreUp first ps → moved_from_all key (sources_from first ps) ≡ postings_from first (columns key ps)
    moved_all first [] all up = refl
    moved_all first (p ∷ ps) all up =
        let here = kept p.alive (term_column field key (part_of p)) in
        ap (λ l. l ++ moved_from_all key (sources_from (first + member_count p.alive) ps)) (moved_one first p all.0 up.0 key)
        ∙ ap (λ l. postings_from first here ++ l) (moved_all (first + member_count p.alive) ps all.1 up.1)
        ∙ ap (λ n. postings_from first here ++ postings_from (first + n) (columns key ps)) (sym (counted first p all.0 up.0 key))
        ∙ sym (postings_append first here (columns key ps))

    all_records : (first : ℕ) (ps : List OpenSegment) → AllByRecursion (IsOfField entry field) ps → AreUp first ps → AreRecordsOf (term_option entry key) (columns key ps)
    all_records first [] all up = tt
    all_records first (p ∷ ps) all up = all_both _ (kept p.alive (term_column field key (part_of p))) (columns key ps) (each-kept _ p.alive (term_column field key (part_of p)) (records first p all.0 up.0 key)) (all_records (first + member_count p.alive) ps all.1 up.1)

    all_counted : (first : ℕ) (ps : List OpenSegment) → AllByRecursion (IsOfField entry field) ps → AreUp first ps → length (columns key ps) ≡ kept_count ps
    all_counted first [] all up = refl
    all_counted first (p ∷ ps) all up =
        let here = kept p.alive (term_column field key (part_of p)) in
        let both = length-append here (columns key ps) in
        let one = counted first p all.0 up.0 key in
        let rest = all_counted (first + member_count p.alive) ps all.1 up.1 in
        omega (arith, both, one, rest)

  module _ (ps : List OpenSegment) (all : AllByRecursion (IsOfField entry field) ps) (few : kept_count ps < 2 ^ 31) (up : AllByRecursion (λ (s : SourceTerms). Ascend s.terms) (map (source_of field) (numbered_from 0 ps))) where
    pub moved_are_joined : (key : List ℕ) → moved_from_all key (sources_from 0 ps) ≡ joined_postings (map part_of ps) field key
    moved_are_joined key = moved_all key 0 ps all up

    ascending : (key : List ℕ) → AscendBy (kind_of (term_option entry key)) 0 (moved_from_all key (sources_from 0 ps))
    ascending key =
        let many = all_counted key 0 ps all up in
        subst (AscendBy (kind_of (term_option entry key)) 0) (sym (moved_all key 0 ps all up))
        (ascend_by (term_option entry key) 0 (0 + length (columns key ps)) (postings_from 0 (columns key ps)) (omega (arith, many, few)) (ArePostings-from (term_option entry key) 0 (columns key ps) (all_records key 0 ps all up)))

    pub are_joinable : AreJoinable (sources_from 0 ps)
    are_joinable = record { each = joinable 0 ps all up; postings = λ key. of_term (term_option entry key) _ (ascending key) }

    -- each joined term keeps what its field asks for
    kind_at : (key : List ℕ) (qs : List Posting) → AscendBy (kind_of (term_option entry key)) 0 qs → AllByRecursion (λ (t : TermWritten). t.kind ≡ kind_of (term_option entry t.bytes)) (option_to_list (term_with key qs))
    kind_at key [] h = tt
    kind_at key (q ∷ qs) h = (h.2, tt)

    pub kinds_are : {X : Type 0} (ts : List (List ℕ × X)) → AllByRecursion (λ (t : TermWritten). t.kind ≡ kind_of (term_option entry t.bytes)) (flat_map (λ (t : List ℕ × X). option_to_list (term_with t.0 (moved_from_all t.0 (sources_from 0 ps)))) ts)
    kinds_are [] = tt
    kinds_are (t ∷ ts) = all_both _ (option_to_list (term_with t.0 (moved_from_all t.0 (sources_from 0 ps)))) _ (kind_at t.0 _ (ascending t.0)) (kinds_are ts)
