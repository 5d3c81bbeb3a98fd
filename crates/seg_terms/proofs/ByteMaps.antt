-- Maps from bytes, read by these.
use Rattle.std.proofs.Common.{◌≡◌, ℕ, cond, List, [], ◌∷◌, Some, refl, ap, ◌∙◌}
use Rattle.std.specs.Ordering.{nat_cmp}
use Rattle.std.specs.Cmp.Lexicographic.{slice_cmp, nat_list_cmp_total}
use Rattle.std.specs.Str.{bytes_eq}
use Rattle.std.specs.Map.{lookup}
use Rattle.std.specs.FinMap.{FinMap, get, find, insert, from_entries, get-from_entries, get-insert, same_map, slice_cmp-IsAntisymmetric, nat_cmp-IsAntisymmetric}
use Rattle.std.proofs.lemmas.Map.Text.{is_eq-slice_cmp}

module _ {Y : Type 0} where
  -- maps that tell the same of each bytes are the same
  pub same_by_bytes : (m n : FinMap (slice_cmp nat_cmp) Y) → ((q : List ℕ) → get m q ≡ get n q) → m ≡ n
  same_by_bytes = same_map nat_list_cmp_total (slice_cmp-IsAntisymmetric nat_cmp-IsAntisymmetric)

  pub find-lookup : (q : List ℕ) (es : List (List ℕ × Y)) → find (slice_cmp nat_cmp) q es ≡ lookup (bytes_eq q) es
  find-lookup q [] = refl
  find-lookup q (e ∷ es) = ap (λ b. cond b (Some e.1) (find (slice_cmp nat_cmp) q es)) (is_eq-slice_cmp q e.0)
      ∙ ap (cond (bytes_eq q e.0) (Some e.1)) (find-lookup q es)

  pub get-lookup : (es : List (List ℕ × Y)) (q : List ℕ)
      → get (from_entries {R = slice_cmp nat_cmp} es) q ≡ lookup (bytes_eq q) es
  get-lookup es q = get-from_entries nat_list_cmp_total es q ∙ find-lookup q es

  pub get-insert_bytes : (m : FinMap (slice_cmp nat_cmp) Y) (k : List ℕ) (v : Y) (q : List ℕ)
      → get (insert m k v) q ≡ cond (bytes_eq q k) (Some v) (get m q)
  get-insert_bytes m k v q = get-insert nat_list_cmp_total m k v q
      ∙ ap (λ b. cond b (Some v) (get m q)) (is_eq-slice_cmp q k)
