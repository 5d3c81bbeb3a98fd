-- Cases of what a crash may leave of files, and of what files open as.
use Rattle.std.proofs.Common.{◌≡◌, ℕ, zero, suc, Bool, true, false, cond, not, List, [], ◌∷◌, Option, Some, None, refl, sym, ap, ◌∙◌, arith}
use Rattle.std.proofs.lemmas.Bool.Decides.{nat_tests}
use mathlib.Core.Bool.{true≢false}
use Rattle.std.specs.List.{count_by}
use Rattle.std.specs.Option.{option_and_then}
use Rattle.std.specs.Ordering.{nat_cmp, eq_by_cmp}
use Rattle.std.specs.FinMap.{get, get-empty, get-from_sorted}
use Rattle.seg_directory.specs.Disk.{IsImage, may_hold}
use Rattle.seg_meta.specs.IndexOfFiles.{ListedSegment, Meta, index_of, OpensWith}
use Rattle.seg_model_cases.specs.Files.{file, disk, DiskCases, settings, segments_of, meta, forms, three, OpeningCases}

got : (bytes : List ℕ) (name : ℕ) → get (file bytes) name ≡ cond (eq_by_cmp nat_cmp name 0) (Some bytes) None
got bytes name = get-from_sorted nat_cmp ((0, bytes) ∷ []) name tt

-- a name past 0 is not the name 0
other_name : (n : ℕ) → eq_by_cmp nat_cmp (suc n) 0 ≡ false
other_name n = grind (arith, nat_tests)

image_of : (bytes : List ℕ) → may_hold disk 0 (Some bytes) ≡ true → IsImage disk (file bytes)
image_of bytes e zero = rw (got bytes 0) e
image_of bytes e (suc n) = rw (got bytes (suc n), got (1 ∷ []) (suc n), other_name n) refl

pub disk_cases : DiskCases
disk_cases = record {
  changed = rw (got (1 ∷ []) 0) refl;
  unchanged = rw (got (1 ∷ []) 1) refl;
  cut_off = rw (got (1 ∷ []) 1) refl;
  images = (image_of (1 ∷ []) (rw (got (1 ∷ []) 0) refl), image_of (2 ∷ []) (rw (got (1 ∷ []) 0) refl));
  other = λ h. true≢false (sym (h 0) ∙ rw (got (3 ∷ []) 0, got (1 ∷ []) 0) refl);
  none = λ h. true≢false (sym (h 0) ∙ rw (get-empty nat_cmp 0, got (1 ∷ []) 0) refl);
}

meta_read : (bytes : List ℕ) → index_of forms (file bytes) ≡ Some (meta bytes)
meta_read bytes = ap (option_and_then forms.meta_of) (got bytes 0)

abbrev segments_in : Option Meta → List ListedSegment
segments_in None = []
segments_in (Some index) = index.segments

-- what opens with some segments has those of its bytes
opened : (bytes : List ℕ) (segments : List ListedSegment) → OpensWith forms (file bytes) settings [] segments → segments_of bytes ≡ segments
opened bytes segments h = ap segments_in (sym (meta_read bytes) ∙ h.read) ∙ h.listed

opens : (bytes : List ℕ) → OpensWith forms (file bytes) settings [] (segments_of bytes)
opens bytes = record { index = meta bytes; read = meta_read bytes; settings_given = refl; schema_given = refl; listed = refl }

abbrev first_has_deletes : List ListedSegment → Bool
first_has_deletes [] = false
first_has_deletes (s ∷ ss) = elim s.deletes [ None ↦ false | Some _ ↦ true ]

abbrev are_none : List ListedSegment → Bool
are_none [] = true
are_none (s ∷ ss) = false

pub opening_cases : OpeningCases
opening_cases = record {
  no_index = get-empty nat_cmp 0;
  an_index = λ h. let e = sym (got [] 0) ∙ h in cc;
  empty_index = opens [];
  not_empty = λ h. true≢false (sym (ap are_none (opened (1 ∷ []) [] h)));
  whole = record { id = 7; opens = opens (1 ∷ []); held = refl };
  not_whole = λ h. true≢false (ap are_none (opened [] _ h.opens));
  with_deletes = λ h. true≢false (ap first_has_deletes (opened (1 ∷ 2 ∷ []) _ h.opens));
  whole_segments = (record { contents = three; held = refl; number = refl; deletes_agree = tt }, record { contents = three; held = refl; number = refl; deletes_agree = (true ∷ true ∷ false ∷ [], refl, refl, refl) });
  other_number = λ h. omega (arith, sym (ap (count_by not) h.deletes_agree.1) ∙ h.deletes_agree.3);
}
