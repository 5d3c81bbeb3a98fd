-- Where the next text of each joined path begins, as it is kept from leaf to leaf.
use Rattle.std.proofs.Common.{◌≡◌, ℕ, ◌+◌, ◌≤◌, Bool, true, false, cond, List, [], ◌∷◌, Some, None, Option, sym, refl, ap, ◌∙◌, subst, arith, eq-eqb}
use Rattle.std.specs.Prelude.{is_some, nat_eq}
use Rattle.std.specs.FinMap.{get, insert, get-insert, get-empty}
use Rattle.std.specs.FinMap as fin
use Rattle.std.specs.Cmp.Lexicographic.{slice_cmp, bytes_decides, nat_list_cmp_total}
use Rattle.std.specs.Ordering.{nat_cmp}
use Rattle.std.specs.Str.{bytes_eq}
use Rattle.std.proofs.lemmas.Bool.{false≢true}
use Rattle.std.proofs.lemmas.Bool.Decides.{nat_tests}
use Rattle.std.proofs.lemmas.Map.Text.{is_eq-slice_cmp}
use Rattle.std.proofs.lemmas.Option.{same_Some}
use Rattle.seg_model.specs.Occurrences.{start_after}
use Rattle.seg_check.specs.LeafContents.{LeafContent, text_leaf, coded_leaf}
use Rattle.seg_build.specs.LeafPositions.{PathLeaves, kept_start, after_leaf, after_leaves, kept_starts}
use Rattle.seg_build.specs.PathStarts.{PathStarts, start_in, path_start}
use Rattle.seg_build.specs.declared.path_start.PathStart.{PathStart}

-- ---- a text of a path

pub get-put : (starts : PathStarts) (own path : List ℕ) (s : PathStart) → get (insert starts own s) path
    ≡ cond (bytes_eq path own) (Some s) (get starts path)
get-put starts own path s =
    get-insert nat_list_cmp_total starts own s path
    ∙ ap (λ b. cond b (Some s) (get starts path)) (is_eq-slice_cmp path own)

module _ (id : ℕ) (starts : PathStarts) where
  by_path : (b : Bool) (next : ℕ) (path : List ℕ)
      → start_in id (cond b (Some (record { document = id; start = next })) (get starts path))
      ≡ cond b next (path_start id starts path)
  by_path true next path = ap (λ b. cond b next 0) (eq-eqb id id refl)
  by_path false next path = refl

  not_moved : (own path : List ℕ) (b : Bool) → bytes_eq path own ≡ b → path_start id starts path
      ≡ cond b (path_start id starts own) (path_start id starts path)
  not_moved own path true is = ap (path_start id starts) ((bytes_decides path own).0 is)
  not_moved own path false is = refl

  pub one_kept : (own : List ℕ) (c : LeafContent) (path : List ℕ) → path_start id (kept_start id starts own c) path
      ≡ after_leaf (path_start id starts) (own, c) path
  one_kept own (text_leaf ts) path =
      let next = start_after (path_start id starts own) ts in
      ap (start_in id) (get-put starts own path (record { document = id; start = next }))
      ∙ by_path (bytes_eq path own) next path
  one_kept own (coded_leaf coded) path = not_moved own path (bytes_eq path own) refl

-- what is kept of leaves says where texts begin after them
pub path_start-kept : (id : ℕ) (starts : PathStarts) (ls : PathLeaves) (path : List ℕ)
    → path_start id (kept_starts id starts ls) path ≡ after_leaves (path_start id starts) ls path
path_start-kept id starts [] path = refl
path_start-kept id starts (l ∷ ls) path =
    path_start-kept id (kept_start id starts l.0 l.1) ls path
    ∙ ap (λ (f : List ℕ → ℕ). after_leaves f ls path) (λ i q. one_kept id starts l.0 l.1 q i)

-- ---- stamps

-- no text is of a document after this one
pub record AreStamped (id : ℕ) (starts : PathStarts) : Type 0 where
  pub at : (path : List ℕ) (s : PathStart) → get starts path ≡ Some s → s.document ≤ id

stamped-put : (id : ℕ) (starts : PathStarts) (own : List ℕ) (next : ℕ) → AreStamped id starts
    → AreStamped id (insert starts own (record { document = id; start = next }))
stamped-put id starts own next stamped = record {
  at = λ path s is. by path s (bytes_eq path own)
      (sym (get-put starts own path (record { document = id; start = next })) ∙ is);
}
  where
    by : (path : List ℕ) (s : PathStart) (b : Bool)
        → cond b (Some (record { document = id; start = next })) (get starts path) ≡ Some s → s.document ≤ id
    by path s true is = subst (λ (s : PathStart). s.document ≤ id)
        (same_Some (record { document = id; start = next }) s is) (omega arith)
    by path s false is = stamped.at path s is

pub stamped-kept : (id : ℕ) (starts : PathStarts) (ls : PathLeaves) → AreStamped id starts
    → AreStamped id (kept_starts id starts ls)
stamped-kept id starts [] stamped = stamped
stamped-kept id starts (l ∷ ls) stamped = stamped-kept id (kept_start id starts l.0 l.1) ls (by l.1)
  where
    by : (c : LeafContent) → AreStamped id (kept_start id starts l.0 c)
    by (text_leaf ts) = stamped-put id starts l.0 (start_after (path_start id starts l.0) ts) stamped
    by (coded_leaf coded) = stamped

pub stamped-none : (id : ℕ) → AreStamped id fin.empty
stamped-none id = record {
  at = λ path s is. absurd (false≢true (ap is_some (sym (get-empty (slice_cmp nat_cmp) path)
      ∙ is)));
}

pub stamped-more : (id : ℕ) (starts : PathStarts) → AreStamped id starts → AreStamped (id + 1) starts
stamped-more id starts stamped = record { at = λ path s is. let le = stamped.at path s is in omega (arith, le) }

-- where there is no text, they begin at 0
pub starts-none : (id : ℕ) (path : List ℕ) → path_start id fin.empty path ≡ 0
starts-none id path = ap (start_in id) (get-empty (slice_cmp nat_cmp) path)

-- and so in the next document
pub starts-next : (id : ℕ) (starts : PathStarts) → AreStamped id starts → (path : List ℕ)
    → path_start (id + 1) starts path ≡ 0
starts-next id starts stamped path = by (get starts path) refl
  where
    by : (o : Option PathStart) → get starts path ≡ o → start_in (id + 1) o ≡ 0
    by None is = refl
    by (Some s) is = ap (λ b. cond b s.start 0) (other s.document (stamped.at path s is))
      where
        other : (n : ℕ) → n ≤ id → nat_eq n (id + 1) ≡ false
        other n le = grind (arith, nat_tests)
