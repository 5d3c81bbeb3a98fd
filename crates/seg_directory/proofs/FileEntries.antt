-- The entries of a `BTreeMap` as files by their names.
use Rattle.std.proofs.Common.{◌≡◌, ℕ, ◌+◌, List, [], ◌∷◌, length, map, Option, None, Some, cond, refl, ap, sym, ◌∙◌, arith}
use Rattle.std.specs.BTreeMap.{is_at}
use Rattle.std.specs.Cmp.{eq_by_cmp_equiv}
use Rattle.std.specs.FinMap.{get, insert, len, from_entries, find, get-from_entries, get-insert, len-empty, len-insert, same_map}
use Rattle.std.specs.List.Sorted.{IsStrictlySortedBy}
use Rattle.std.specs.List.{AllByRecursion}
use Rattle.std.specs.Map.{lookup}
use Rattle.std.specs.Ordering.{eq_by_cmp}
use Rattle.std.specs.declared.cmp.Ordering.TheVariants.{Less}
use Rattle.seg_common.specs.declared.name.FileName.{FileName}
use Rattle.seg_common.specs.FileNameKeys.{name_cmp, name_cmp_total, name_cmp_exact}

-- what the entries have under a name
abbrev pub file_at : List (FileName × List ℕ) → FileName → Option (List ℕ)
file_at entries name = lookup (is_at (name_cmp name)) entries

find_file : (entries : List (FileName × List ℕ)) (name : FileName) → find name_cmp name entries ≡ file_at entries name
find_file [] name = refl
find_file (e ∷ entries) name = ap (cond (is_at (name_cmp name) e.0) (Some e.1)) (find_file entries name)

-- the files have under a name what the entries have
pub get_file : (entries : List (FileName × List ℕ)) (name : FileName) → get (from_entries {R = name_cmp} entries) name ≡ file_at entries name
get_file entries name = get-from_entries name_cmp_total entries name ∙ find_file entries name

-- entries that differ at one name are files that differ there
pub one_written : (old new : List (FileName × List ℕ)) (name : FileName) (bytes : List ℕ)
    → ((q : FileName) → file_at new q ≡ cond (is_at (name_cmp name) q) (Some bytes) (file_at old q))
    → from_entries {R = name_cmp} new ≡ insert (from_entries old) name bytes
one_written old new name bytes written = same_map name_cmp_total name_cmp_exact _ _ (λ q.
    get_file new q ∙ written q ∙ ap (λ b. cond b (Some bytes) (file_at old q)) ((eq_by_cmp_equiv name_cmp_total).symm name q)
    ∙ sym (get-insert name_cmp_total (from_entries old) name bytes q ∙ ap (cond (eq_by_cmp name_cmp q name) (Some bytes)) (get_file old q)))

below_is_absent : (name : FileName) (entries : List (FileName × List ℕ)) → AllByRecursion (λ y. name_cmp name y ≡ Less) (map (λ e. e.0) entries)
    → find name_cmp name entries ≡ None
below_is_absent name [] below = refl
below_is_absent name (e ∷ entries) below = rw below.0 (below_is_absent name entries below.1)

-- there are as many files as entries
pub len_files : (entries : List (FileName × List ℕ)) → IsStrictlySortedBy name_cmp (map (λ e. e.0) entries) → len (from_entries {R = name_cmp} entries) ≡ length entries
unfolding IsStrictlySortedBy
len_files [] sorted = len-empty name_cmp (List ℕ)
len_files (e ∷ entries) sorted =
    let absent : get (from_entries {R = name_cmp} entries) e.0 ≡ None = get-from_entries name_cmp_total entries e.0 ∙ below_is_absent e.0 entries sorted.0 in
    len-insert name_cmp_total (from_entries entries) e.0 e.1 ∙ rw absent (ap (λ n. n + 1) (len_files entries sorted.1) ∙ omega arith)
