-- New ids, one document and one segment after another.
use Rattle.std.proofs.Common.{◌≡◌, ℕ, zero, suc, ◌+◌, ◌<◌, Bool, true, false, cond, List, [], ◌∷◌, ◌++◌, map, length, drop, get_or, Some, None, Option, sym, refl, ap, ◌∙◌, subst, arith, append_assoc}
use Rattle.std.specs.Prelude.{is_some, option_map}
use Rattle.std.specs.FinMap.{empty, get}
use Rattle.std.specs.List.{AllByRecursion, slice_get}
use Rattle.std.proofs.lemmas.Bool.{false≢true}
use Rattle.std.proofs.lemmas.List.{drop_more}
use Rattle.std.proofs.lemmas.Option.{none-some, same_Some, slice_get-map, get_or_from_slice_get}
use Rattle.seg_bits.specs.BitSets.{member_count}
use Rattle.seg_values.specs.declared.schema.FieldEntry.{FieldEntry}
use Rattle.seg_model.specs.Fields.{Schema, is_indexed}
use Rattle.seg_model.specs.Contents.{terms_at}
use Rattle.seg_open.specs.OpenSegment.{IsMarked, IsOfSchema, OpenSegment, contents_of, kept_count, terms_in}
use Rattle.seg_postings.specs.OpenedFields.{OpenField, written_terms}
use Rattle.seg_postings.specs.TermMaps.{terms_held}
use Rattle.seg_open.proofs.Exports.{count-more}
use Rattle.seg_merger.specs.JoinedTerms.{FieldsAreOpen, IsOpenAt, IsOfField, source_of}
use Rattle.seg_merger.specs.MovedPostings.{SourceTerms}
use Rattle.seg_merger.specs.NewIds.{new_ids, NumberedSegment, numbered_from, parts_of}

-- ---- documents

abbrev step : Bool → ℕ
step b = cond b 1 0

ids_first : (b : Bool) (next : ℕ) (marks : List Bool) → new_ids next (b ∷ marks) ≡ cond b (Some next) None ∷ new_ids (next + step b) marks
ids_first true next marks = refl
ids_first false next marks = ap (λ n. None ∷ new_ids n marks) (let z : next ≡ next + 0 = omega arith in z)

module _ (marks : List Bool) (d : ℕ) (lt : d < length marks) (b : Bool) (is : b ≡ get_or marks d false) where
  split : drop d marks ≡ b ∷ drop (d + 1) marks
  split = drop_more marks d false lt ∙ ap (λ x. x ∷ drop (d + 1) marks) (sym is)

  counted : member_count (drop d marks) ≡ step b + member_count (drop (d + 1) marks)
  counted = ap member_count split ∙ count-more b (drop (d + 1) marks)

  module _ (next limit : ℕ) (room : next + member_count (drop d marks) < limit) where
    pub one_fits : next + cond b 1 0 < limit
    one_fits = let c = counted in omega (arith, c, room)

    pub room_left : (after : ℕ) → after ≡ next + cond b 1 0 → after + member_count (drop (d + 1) marks) < limit
    room_left after e = let c = counted in omega (arith, c, room, e)

    pub one_numbered : (all before now : List (Option ℕ)) (after : ℕ) → before ++ new_ids next (drop d marks) ≡ all → now ≡ before ++ cond b (Some next) None ∷ [] → after ≡ next + cond b 1 0 → now ++ new_ids after (drop (d + 1) marks) ≡ all
    one_numbered all before now after so_far is e =
        ap (λ l. l ++ new_ids after (drop (d + 1) marks)) is
        ∙ append_assoc before (cond b (Some next) None ∷ []) (new_ids after (drop (d + 1) marks))
        ∙ ap (λ n. before ++ cond b (Some next) None ∷ new_ids n (drop (d + 1) marks)) e
        ∙ ap (λ l. before ++ l) (sym (ap (new_ids next) split ∙ ids_first b next (drop (d + 1) marks)))
        ∙ so_far

-- ---- segments

module _ (parts : List OpenSegment) (i : ℕ) (lt : i < length parts) (p : OpenSegment) (is : p ≡ get_or parts i p) where
  part_split : drop i parts ≡ p ∷ drop (i + 1) parts
  part_split = drop_more parts i p lt ∙ ap (λ x. x ∷ drop (i + 1) parts) (sym is)

  parts_counted : kept_count (drop i parts) ≡ member_count p.alive + kept_count (drop (i + 1) parts)
  parts_counted = ap kept_count part_split

  pub parts_fit : (first limit after : ℕ) → first + kept_count (drop i parts) < limit → after ≡ first + member_count p.alive → after + kept_count (drop (i + 1) parts) < limit
  parts_fit first limit after room e = let c = parts_counted in omega (arith, c, room, e)

  pub part_numbered : (first after : ℕ) (all before now : List NumberedSegment) → before ++ numbered_from first (drop i parts) ≡ all → now ≡ before ++ record { part = p; ids = new_ids first p.alive } ∷ [] → after ≡ first + member_count p.alive
      → now ++ numbered_from after (drop (i + 1) parts) ≡ all
  part_numbered first after all before now so_far added e =
      ap (λ l. l ++ numbered_from after (drop (i + 1) parts)) added
      ∙ append_assoc before (record { part = p; ids = new_ids first p.alive } ∷ []) (numbered_from after (drop (i + 1) parts))
      ∙ ap (λ n. before ++ record { part = p; ids = new_ids first p.alive } ∷ numbered_from n (drop (i + 1) parts)) e
      ∙ ap (λ l. before ++ l) (sym (ap (numbered_from first) part_split))
      ∙ so_far

  -- what holds of each that is left
  pub all_left : (P : OpenSegment → Type 0) → P p → AllByRecursion P (drop (i + 1) parts) → AllByRecursion P (drop i parts)
  all_left P here rest = subst (AllByRecursion P) (sym part_split) (here, rest)

pub parts_back : (first : ℕ) (parts : List OpenSegment) → parts_of (numbered_from first parts) ≡ parts
parts_back first [] = refl
parts_back first (p ∷ parts) = ap (λ l. p ∷ l) (parts_back (first + member_count p.alive) parts)

-- ---- an indexed field of segments of full shape

open_there : (field : ℕ) (p : OpenSegment) (entry : FieldEntry) → FieldsAreOpen p → slice_get p.schema field ≡ Some entry → is_indexed entry ≡ true → IsOpenAt field p
open_there field p entry same at on = by (slice_get p.fields field) refl
  where
    told : option_map is_some (slice_get p.fields field) ≡ Some true
    told =
        sym (slice_get-map is_some p.fields field)
        ∙ ap (λ (l : List Bool). slice_get l field) same
        ∙ slice_get-map is_indexed p.schema field
        ∙ ap (option_map is_indexed) at
        ∙ ap Some on

    by : (o : Option (Option OpenField)) → slice_get p.fields field ≡ o → IsOpenAt field p
    by None e = absurd (none-some true (ap (option_map is_some) (sym e) ∙ told))
    by (Some None) e = absurd (false≢true (same_Some false true (ap (option_map is_some) (sym e) ∙ told)))
    by (Some (Some f)) e = (f, e)

-- what holds of each segment holds of one
pub part_at : (P : OpenSegment → Type 0) (ns : List NumberedSegment) (i : ℕ) (n : NumberedSegment) → i < length ns → n ≡ get_or ns i n → AllByRecursion P (parts_of ns) → P n.part
part_at P [] i n lt is all = absurd (omega (arith, lt))
part_at P (x ∷ ns) zero n lt is all = subst (λ (y : NumberedSegment). P y.part) (sym is) all.0
part_at P (x ∷ ns) (suc i) n lt is all = part_at P ns i n (omega (arith, lt)) is all.1

pub all_open : (entry : FieldEntry) (field : ℕ) (ps : List OpenSegment) → AllByRecursion (IsOfField entry field) ps → AllByRecursion (IsOpenAt field) ps
all_open entry field [] all = tt
all_open entry field (p ∷ ps) all = ((all.0.opened, all.0.is_open), all_open entry field ps all.1)

-- segments of a schema have its indexed fields
pub all_of_field : (schema : Schema) (field : ℕ) (entry : FieldEntry) → slice_get schema field ≡ Some entry → is_indexed entry ≡ true → (ps : List OpenSegment)
    → AllByRecursion (IsOfSchema schema) ps → AllByRecursion IsMarked ps → AllByRecursion FieldsAreOpen ps → AllByRecursion (IsOfField entry field) ps
all_of_field schema field entry at on [] of marked fields = tt
all_of_field schema field entry at on (p ∷ ps) of marked fields =
    let there = open_there field p entry fields.0 (ap (λ s. slice_get s field) of.0.0 ∙ at) on in (
      record {
        opened = there.0;
        is_open = there.1;
        marked = marked.0;
        shape = λ term postings is.
            let same : terms_at (contents_of p) field ≡ terms_held (written_terms there.0) =
            get_or_from_slice_get (map terms_in p.fields) field (terms_in (Some there.0)) empty (slice_get-map terms_in p.fields field ∙ ap (option_map terms_in) there.1) in
            of.0.1.terms field entry at on term postings (ap (λ m. get m term) same ∙ is);
      },
      all_of_field schema field entry at on ps of.1 marked.1 fields.1,
    )

pub one_source : (field : ℕ) (ns : List NumberedSegment) (i : ℕ) (n : NumberedSegment) → i < length ns → n ≡ get_or ns i n → (before now all : List SourceTerms) (s : SourceTerms)
    → before ++ map (source_of field) (drop i ns) ≡ all → now ≡ before ++ s ∷ [] → s ≡ source_of field n → now ++ map (source_of field) (drop (i + 1) ns) ≡ all
one_source field ns i n lt is before now all s so_far pushed same =
    ap (λ l. l ++ map (source_of field) (drop (i + 1) ns)) pushed
    ∙ append_assoc before (s ∷ []) (map (source_of field) (drop (i + 1) ns))
    ∙ ap (λ x. before ++ x ∷ map (source_of field) (drop (i + 1) ns)) (same ∙ ap (source_of field) is)
    ∙ ap (λ l. before ++ l) (sym (ap (map (source_of field)) (drop_more ns i n lt)))
    ∙ so_far

pub all_pushed : {X : Type 0} (P : X → Type 0) (before now : List X) (x : X) → now ≡ before ++ x ∷ [] → AllByRecursion P before → P x → AllByRecursion P now
all_pushed {X = X} P before now x pushed all here = subst (AllByRecursion P) (sym pushed) (each before all)
  where
    each : (xs : List X) → AllByRecursion P xs → AllByRecursion P (xs ++ x ∷ [])
    each [] h = (here, tt)
    each (y ∷ ys) h = (h.0, each ys h.1)

-- ---- all segments

module _ (ns : List NumberedSegment) (parts : List OpenSegment) (is : ns ≡ numbered_from 0 parts) where
  pub same_parts : parts_of ns ≡ parts
  same_parts = ap parts_of is ∙ parts_back 0 parts

  pub are_numbered : ns ≡ numbered_from 0 (parts_of ns)
  are_numbered = is ∙ ap (numbered_from 0) (sym same_parts)
