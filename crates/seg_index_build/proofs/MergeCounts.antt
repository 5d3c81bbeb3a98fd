-- How many documents are kept of segments that were opened.
use Rattle.std.proofs.Common.{◌≡◌, ◌≤◌, ◌∙◌, ℕ, ◌+◌, ◌-◌, Bool, true, false, cond, List, [], ◌∷◌, map, length, replicate, Option, Some, None, Ok, refl, sym, ap, subst, arith}
use Rattle.std.specs.Prelude.{◌&&◌, ◌==◌, if◌then◌else◌, not}
use Rattle.std.specs.List.{AllByRecursion, count_by}
use Rattle.std.specs.Option.{option_map}
use Rattle.std.proofs.lemmas.Bool.{and_parts, eqb-true}
use Rattle.std.proofs.lemmas.List.{length-append, length-replicate}
use Rattle.std.proofs.lemmas.Option.{none-some, same_Some}
use Rattle.seg_common.proofs.Lists.{all_filtered}
use Rattle.seg_bits.specs.BitSets.{member_count, set_of}
use Rattle.seg_directory.specs.DirectoryStates.{DirectoryState}
use Rattle.seg_meta.specs.IndexOfFiles.{Deletes, ListedSegment}
use Rattle.seg_meta.specs.Metas.{SegmentParts, deleted}
use Rattle.seg_model.specs.Columns.{Columns}
use Rattle.seg_model.specs.Contents.{Contents}
use Rattle.seg_model.specs.Fields.{Schema}
use Rattle.seg_model.specs.Input.{Filter}
use Rattle.seg_model.specs.Join.{Part, join, joined_columns, joined_with, live_of}
use Rattle.seg_model.specs.Operations.{both_marked, filtered_by, kept}
use Rattle.seg_open.specs.OpenSegment.{OpenSegment, contents_of, kept_count, part_of}
use Rattle.seg_open.specs.OpeningSteps.{AreReadersOf, Asked, Found, IsReaderOf, agreeing, alive_read, asked_of}
use Rattle.seg_open.proofs.Exports.{all_counted, both_long, counts_both, count-more}
use Rattle.seg_merger.specs.Merger.{all_fit, fits}
use Rattle.seg_index_build.specs.MergedSegments.{MergeInput, first_schema, is_live, joined, live_asked, live_documents}
use Rattle.seg_index_build.proofs.MergeTurns.{Opens}
use Rattle.seg_index_build.proofs.JoinedSurvivors.{kept_counted}

-- ---- the marks that are read

-- there is one for each document, and as many are alive as the meta counts
record AreCounted (documents : ℕ) (deletes : Option Deletes) (marks : List Bool) : Type 0 where
  pub long : length marks ≡ documents
  pub count : member_count marks ≡ documents - deleted deletes

module _ (documents : ℕ) (d : Deletes) where
  abbrev given : Bool → List Bool → Option (List Bool)
  given t set = if t then Some set else None

  given_counted : (set marks : List Bool) (t : Bool) → ((length set == documents) && (count_by not set == d.number)) ≡ t
      → given t set ≡ Some marks → AreCounted documents (Some d) marks
  given_counted set marks true tests is =
      let parts = and_parts (length set == documents) (count_by not set == d.number) tests in
      let long = eqb-true (length set) documents parts.0 in
      let lacks = eqb-true (count_by not set) d.number parts.1 in
      let left : member_count set ≡ documents - d.number = omega (arith, counts_both set, long, lacks) in
      subst (AreCounted documents (Some d)) (same_Some set marks is) (record { long = long; count = left })
  given_counted set marks false tests is = absurd (none-some marks is)

  agreeing_counted : (o : Option (List Bool)) (marks : List Bool) → agreeing documents d o ≡ Some marks
      → AreCounted documents (Some d) marks
  agreeing_counted None marks is = absurd (none-some marks is)
  agreeing_counted (Some set) marks is = given_counted set marks _ refl is

marks_counted : (documents : ℕ) (deletes : Option Deletes) (bytes : List ℕ) (marks : List Bool)
    → alive_read documents deletes bytes ≡ Some marks → AreCounted documents deletes marks
marks_counted documents None bytes marks is =
    let all : member_count (replicate documents true) ≡ documents - 0 = omega (arith, all_counted documents) in
    subst (AreCounted documents None) (same_Some (replicate documents true) marks is)
    (record { long = length-replicate documents true; count = all })
marks_counted documents (Some d) bytes marks is = agreeing_counted documents d (set_of bytes) marks is

-- ---- under a filter

-- no more are alive
fewer_both : (alive keeps : List Bool) → member_count (both_marked alive keeps) ≤ member_count alive
fewer_both [] keeps = omega arith
fewer_both (a ∷ alive) [] = let none : member_count [] ≡ 0 = refl in omega (arith, none)
fewer_both (true ∷ alive) (true ∷ keeps) =
    let old : member_count (true ∷ alive) ≡ 1 + member_count alive = count-more true alive in
    let new : member_count (true ∷ both_marked alive keeps) ≡ 1 + member_count (both_marked alive keeps) = count-more true (both_marked alive keeps) in
    let rest = fewer_both alive keeps in
    omega (arith, old, new, rest)
fewer_both (true ∷ alive) (false ∷ keeps) =
    let old : member_count (true ∷ alive) ≡ 1 + member_count alive = count-more true alive in
    let new : member_count (false ∷ both_marked alive keeps) ≡ 0 + member_count (both_marked alive keeps) = count-more false (both_marked alive keeps) in
    let rest = fewer_both alive keeps in
    omega (arith, old, new, rest)
fewer_both (false ∷ alive) (k ∷ keeps) =
    let old : member_count (false ∷ alive) ≡ 0 + member_count alive = count-more false alive in
    let new : member_count (false ∷ both_marked alive keeps) ≡ 0 + member_count (both_marked alive keeps) = count-more false (both_marked alive keeps) in
    let rest = fewer_both alive keeps in
    omega (arith, old, new, rest)

fewer_left : (f : Option Filter) (marks : List Bool) → member_count (filtered_by f marks) ≤ member_count marks
fewer_left None marks = omega arith
fewer_left (Some keeps) marks = fewer_both marks keeps

-- and as many are marked
one_long : (f : Option Filter) (s : SegmentParts) (marks : List Bool) → fits f s ≡ true → length marks ≡ s.meta.documents
    → length (filtered_by f marks) ≡ s.meta.documents
one_long None s marks fit long = long
one_long (Some keeps) s marks fit long =
    both_long s.meta.documents marks keeps long (eqb-true (length keeps) s.meta.documents fit)

-- ---- one segment

module _ (a : Asked) (f : Found) (s : OpenSegment) (is : IsReaderOf a f s) where
  counted : AreCounted a.segment.meta.documents a.segment.meta.deletes is.marks
  counted = marks_counted a.segment.meta.documents a.segment.meta.deletes f.alive_file is.marks is.marked

  one_few : member_count s.alive ≤ a.segment.meta.documents - deleted a.segment.meta.deletes
  one_few =
      let same : member_count s.alive ≡ member_count (filtered_by a.custom is.marks) = ap (λ (l : List Bool). member_count l) is.alive in
      let left = fewer_left a.custom is.marks in
      let all = counted.count in
      omega (arith, same, left, all)

  one_stored : fits a.custom a.segment ≡ true → length s.alive ≡ length (contents_of s).stored
  one_stored fit =
      ap (λ (l : List Bool). length l) is.alive ∙ one_long a.custom a.segment is.marks fit counted.long ∙ sym is.has.of_number
      ∙ sym is.has.spell.shape.stored

-- ---- all segments

abbrev asked_meta : List Asked → List ListedSegment
asked_meta asked = map (λ (a : Asked). a.segment.meta) asked

abbrev pub metas_of : List SegmentParts → List ListedSegment
metas_of segments = map (λ (s : SegmentParts). s.meta) segments

each_few : (asked : List Asked) (found : List Found) (opened : List OpenSegment) → AreReadersOf asked found opened
    → kept_count opened ≤ live_documents (asked_meta asked)
each_few [] found [] are = omega arith
each_few [] found (s ∷ opened) are = absurd are
each_few (a ∷ asked) [] opened are = absurd are
each_few (a ∷ asked) (f ∷ found) [] are = absurd are
each_few (a ∷ asked) (f ∷ found) (s ∷ opened) are =
    let one = one_few a f s are.0 in
    let rest = each_few asked found opened are.1 in
    omega (arith, one, rest)

live_few : (segments : List SegmentParts) (filters : List (Option Filter))
    → live_documents (asked_meta (live_asked segments filters)) ≤ live_documents (metas_of segments)
live_few [] filters = omega arith
live_few (s ∷ segments) [] = omega arith
live_few (s ∷ segments) (f ∷ filters) = by (is_live s.meta) (live_few segments filters)
  where
    by : (t : Bool) → live_documents (asked_meta (live_asked segments filters)) ≤ live_documents (metas_of segments)
        → live_documents (asked_meta (cond t (record { segment = s; custom = f } ∷ live_asked segments filters) (live_asked segments filters)))
        ≤ live_documents (metas_of (s ∷ segments))
    by true rest = omega (arith, rest)
    by false rest = omega (arith, rest)

asked_fit : (segments : List SegmentParts) (filters : List (Option Filter)) → all_fit filters segments ≡ true
    → AllByRecursion (λ (a : Asked). fits a.custom a.segment ≡ true) (asked_of segments filters)
asked_fit [] filters fit = tt
asked_fit (s ∷ segments) [] fit = tt
asked_fit (s ∷ segments) (f ∷ filters) fit =
    let parts = and_parts (fits f s) (all_fit filters segments) fit in
    (parts.0, asked_fit segments filters parts.1)

-- as many marks as documents that are stored
abbrev pub IsStored : OpenSegment → Type 0
IsStored s = length s.alive ≡ length (contents_of s).stored

each_stored : (asked : List Asked) (found : List Found) (opened : List OpenSegment) → AreReadersOf asked found opened
    → AllByRecursion (λ (a : Asked). fits a.custom a.segment ≡ true) asked → AllByRecursion IsStored opened
each_stored [] found [] are fit = tt
each_stored [] found (s ∷ opened) are fit = absurd are
each_stored (a ∷ asked) [] opened are fit = absurd are
each_stored (a ∷ asked) (f ∷ found) [] are fit = absurd are
each_stored (a ∷ asked) (f ∷ found) (s ∷ opened) are fit =
    (one_stored a f s are.0 fit.0, each_stored asked found opened are.1 fit.1)

number_of : (opened : List OpenSegment) → AllByRecursion IsStored opened
    → length (live_of (λ p. p.contents.stored) (map part_of opened)) ≡ kept_count opened
number_of [] all = refl
number_of (s ∷ opened) all =
    length-append (kept s.alive (contents_of s).stored) (live_of (λ p. p.contents.stored) (map part_of opened))
    ∙ ap (λ n. n + length (live_of (λ p. p.contents.stored) (map part_of opened))) (sym (kept_counted s.alive (contents_of s).stored all.0))
    ∙ ap (λ n. member_count s.alive + n) (number_of opened all.1)

join_counts : (schema : Schema) (parts : List Part) (contents : Contents) → join schema parts ≡ Some contents
    → contents.documents ≡ length (live_of (λ p. p.contents.stored) parts)
join_counts schema parts contents is = by (joined_columns schema parts) is
  where
    by : (o : Option Columns) → option_map (joined_with schema parts) o ≡ Some contents
        → contents.documents ≡ length (live_of (λ p. p.contents.stored) parts)
    by None h = absurd (none-some contents h)
    by (Some cs) h = ap (λ (c : Contents). c.documents) (sym (same_Some (joined_with schema parts cs) contents h))

-- they are joined to as many as are kept
pub stored_number : (schema : Schema) (opened : List OpenSegment) → AllByRecursion IsStored opened → (contents : Contents)
    → joined schema opened ≡ Some contents → contents.documents ≡ kept_count opened
stored_number schema opened all contents is = join_counts schema (map part_of opened) contents is ∙ number_of opened all

-- ---- what was opened

module _ (m : MergeInput) (opened : List OpenSegment) (a b : DirectoryState) (h : Opens m (Ok opened) a b) where
  -- no more documents are kept than are live by the metas
  pub opened_few : kept_count opened ≤ live_documents (metas_of m.segments)
  opened_few =
      let each = each_few (live_asked m.segments m.filters) h.found opened h.are in
      let all = live_few m.segments m.filters in
      omega (arith, each, all)

  pub opened_stored : all_fit m.filters m.segments ≡ true → AllByRecursion IsStored opened
  opened_stored fit =
      each_stored (live_asked m.segments m.filters) h.found opened h.are
      (all_filtered (λ (a : Asked). fits a.custom a.segment ≡ true) (λ a. is_live a.segment.meta) (asked_of m.segments m.filters)
      (asked_fit m.segments m.filters fit))

  -- they are joined to as many
  pub opened_number : all_fit m.filters m.segments ≡ true → (contents : Contents)
      → joined (first_schema m.segments) opened ≡ Some contents → contents.documents ≡ kept_count opened
  opened_number fit contents is = stored_number (first_schema m.segments) opened (opened_stored fit) contents is
