-- The part of a field in a file has no more bytes than the file.
use Rattle.std.proofs.Common.{◌≡◌, ℕ, ◌-◌, ◌≤◌, Bool, true, false, cond, List, [], ◌∷◌, length, take, drop, Some, None, ap, arith, length-drop, length-take}
use Rattle.std.specs.Prelude.{◌==◌, slice_range}
use Rattle.std.specs.Option.{option_and_then}
use Rattle.std.proofs.lemmas.Option.{none-some, same_Some}
use Rattle.seg_directory.specs.CompositeFiles.{Part, field_of, is_composite, parts_from, parts_of, table_of}
use Rattle.seg_open.specs.FieldParts.{part_in}

cut_fits : (start end : ℕ) (body part : List ℕ) → Some (slice_range body start end) ≡ Some part → length part ≤ length body
cut_fits start end body part here =
    let cut : length (take (end - start) (drop start body)) ≡ length part =
    ap length (same_Some (slice_range body start end) part here) in
    let taken = length-take (end - start) (drop start body) in
    let dropped = length-drop start body in
    omega (arith, cut, taken, dropped)

one_fits : (start : ℕ) (es : List (ℕ × ℕ)) (body part : List ℕ) (field : ℕ)
    → field_of (parts_from start es body) field ≡ Some part → length part ≤ length body
one_fits start [] body part field at = absurd (none-some part at)
one_fits start (e ∷ es) body part field at = by (e.0 == field) at (one_fits e.1 es body part field)
  where
    by : (b : Bool) → cond b (Some (slice_range body start e.1)) (field_of (parts_from e.1 es body) field) ≡ Some part
        → (field_of (parts_from e.1 es body) field ≡ Some part → length part ≤ length body) → length part ≤ length body
    by true here later = cut_fits start e.1 body part here
    by false there later = later there

fits : (file part : List ℕ) (field : ℕ) → field_of (parts_of file) field ≡ Some part → length part ≤ length file
unfolding parts_of
fits file part field at = one_fits 0 (table_of file) file part field at

pub part_fits : (file part : List ℕ) (field : ℕ) → part_in file field ≡ Some part → length part ≤ length file
part_fits file part field at = by (is_composite file) at
  where
    by : (b : Bool) → option_and_then (λ (ps : List Part). field_of ps field) (cond b (Some (parts_of file)) None) ≡ Some part
        → length part ≤ length file
    by true here = fits file part field here
    by false none = absurd (none-some part none)
