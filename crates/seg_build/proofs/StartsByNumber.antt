-- Where texts of joined paths begin, as it is kept by the numbers of the paths.
use Rattle.std.proofs.Common.{◌≡◌, ℕ, zero, suc, ◌<◌, ◌≤◌, Bool, true, false, cond, List, [], ◌∷◌, length, get_or, Some, None, Option, sym, refl, ap, ◌∙◌, arith, eq-eqb}
use Rattle.std.specs.Prelude.{◌==◌, ◌||◌}
use Rattle.std.specs.FinMap.{get, insert}
use Rattle.std.specs.List.{list_any, slice_index_or}
use Rattle.std.specs.Ordering.{nat_cmp, eq_by_cmp}
use Rattle.std.specs.Cmp.Lexicographic.{slice_cmp, bytes_decides, nat_list_cmp_total}
use Rattle.std.specs.Str.{bytes_eq}
use Rattle.std.proofs.lemmas.Bool.{false≢true, eqb-true, or_right}
use Rattle.std.proofs.lemmas.List.{get_or_past}
use Rattle.std.proofs.lemmas.Map.Text.{is_eq-slice_cmp}
use Rattle.seg_common.specs.TabulatedMaps.{is_among}
use Rattle.seg_common.proofs.TabulatedMaps.{IsComplete, texts_apart, get-tabulated, table_from_gets}
use Rattle.seg_paths.specs.Paths.{Extends, number_of}
use Rattle.seg_paths.proofs.Exports.{number-kept, number-past, number-read}
use Rattle.seg_build.specs.PathStarts.{PathStarts, start_in, path_start, blank, kept_by, if_text, starts_of}
use Rattle.seg_build.specs.declared.path_start.PathStart.{PathStart}
use Rattle.seg_build.proofs.KeptStarts.{get-put}

any_at : (test : List ℕ → Bool) (xs : List (List ℕ)) (n : ℕ) → n < length xs → test (get_or xs n []) ≡ true
    → list_any test xs ≡ true
any_at test [] n lt is = absurd (let none : ⊥ = omega (arith, lt) in none)
any_at test (x ∷ xs) zero lt is = ap (λ b. b || list_any test xs) is
any_at test (x ∷ xs) (suc n) lt is = or_right (test x) (list_any test xs) (any_at test xs n (omega (arith, lt)) is)

module _ (paths : List (List ℕ)) (kept : List PathStart) where
  -- what is kept of a path
  abbrev pub kept_at : List ℕ → Option PathStart
  kept_at path = if_text (kept_by kept (number_of paths path))

  complete : IsComplete nat_list_cmp_total texts_apart kept_at paths
  complete = record { outside = λ path none. by path none (number_of paths path) refl }
    where
      by : (path : List ℕ) → is_among (slice_cmp nat_cmp) paths path ≡ false → (o : Option ℕ) → number_of paths path ≡ o
          → if_text (kept_by kept o) ≡ None
      by path none None is = refl
      by path none (Some n) is =
          let there = number-read paths path n is in
          absurd (false≢true (sym none ∙ any_at (eq_by_cmp (slice_cmp nat_cmp) path) paths n there.0
          (ap (eq_by_cmp (slice_cmp nat_cmp) path) there.1 ∙ is_eq-slice_cmp path path
          ∙ (bytes_decides path path).1 refl)))

  pub get-starts : (path : List ℕ) → get (starts_of paths kept) path ≡ kept_at path
  get-starts path = get-tabulated nat_list_cmp_total texts_apart kept_at paths complete path

  pub starts-from : (m : PathStarts) → ((path : List ℕ) → get m path ≡ kept_at path) → m ≡ starts_of paths kept
  starts-from m same = table_from_gets nat_list_cmp_total texts_apart kept_at paths complete m same

either_same : (b : Bool) (n : ℕ) → n ≡ cond b n n
either_same true n = refl
either_same false n = refl

-- what is read by a number
start_by : (document : ℕ) (s : PathStart) → start_in document (if_text s) ≡ cond (s.document == document) s.start 0
start_by document s = by (s.start == 0) refl
  where
    by : (b : Bool) → (s.start == 0) ≡ b → start_in document (cond b None (Some s))
        ≡ cond (s.document == document) s.start 0
    by true none = either_same (s.document == document) 0
        ∙ ap (λ n. cond (s.document == document) n 0) (sym (eqb-true s.start 0 none))
    by false some = refl

pub start-read : (paths : List (List ℕ)) (kept : List PathStart) (path : List ℕ) (n document : ℕ) (s : PathStart)
    → number_of paths path ≡ Some n → s ≡ slice_index_or kept n blank
    → path_start document (starts_of paths kept) path ≡ cond (s.document == document) s.start 0
start-read paths kept path n document s is read =
    ap (start_in document) (get-starts paths kept path ∙ ap (λ o. if_text (kept_by kept o)) is ∙ ap if_text (sym read))
    ∙ start_by document s

-- a text of a path
module _ (paths : List (List ℕ)) (old new : List PathStart) (own : List ℕ) (n : ℕ) (s : PathStart)
    (number : number_of paths own ≡ Some n) (text : (s.start == 0) ≡ false)
    (set : (k : ℕ) → slice_index_or new k blank ≡ cond (k == n) s (slice_index_or old k blank)) where
  own_put : kept_at paths new own ≡ Some s
  own_put =
      ap (λ o. if_text (kept_by new o)) number
      ∙ ap if_text (set n ∙ ap (λ b. cond b s (slice_index_or old n blank)) (eq-eqb n n refl))
      ∙ ap (λ b. cond b None (Some s)) text

  other_put : (path : List ℕ) → bytes_eq path own ≡ false → (o : Option ℕ) → number_of paths path ≡ o
      → if_text (kept_by new o) ≡ if_text (kept_by old o)
  other_put path other None is = refl
  other_put path other (Some k) is = by (k == n) refl
    where
      same_path : k ≡ n → path ≡ own
      same_path e = sym (number-read paths path k is).1 ∙ ap (λ j. get_or paths j []) e
          ∙ (number-read paths own n number).1

      by : (b : Bool) → (k == n) ≡ b → if_text (slice_index_or new k blank) ≡ if_text (slice_index_or old k blank)
      by true e = absurd (false≢true (sym other ∙ (bytes_decides path own).1 (same_path (eqb-true k n e))))
      by false e = ap if_text (set k ∙ ap (λ b. cond b s (slice_index_or old k blank)) e)

  pub starts-put : insert (starts_of paths old) own s ≡ starts_of paths new
  starts-put = starts-from paths new (insert (starts_of paths old) own s)
      (λ path. get-put (starts_of paths old) own path s ∙ by path (bytes_eq path own) refl)
    where
      by : (path : List ℕ) (b : Bool) → bytes_eq path own ≡ b → cond b (Some s) (get (starts_of paths old) path)
          ≡ kept_at paths new path
      by path true is = sym (ap (kept_at paths new) ((bytes_decides path own).0 is) ∙ own_put)
      by path false is = get-starts paths old path ∙ sym (other_put path is (number_of paths path) refl)

-- more paths, of which nothing is kept
pub starts-extended : (old new : List (List ℕ)) (kept : List PathStart) → Extends old new → length kept ≤ length old
    → starts_of new kept ≡ starts_of old kept
starts-extended old new kept more few = starts-from old kept (starts_of new kept) (λ path. get-starts new kept path
    ∙ by path (number_of old path) refl)
  where
    past : (path : List ℕ) → number_of old path ≡ None → (o : Option ℕ) → number_of new path ≡ o
        → if_text (kept_by kept o) ≡ None
    past path none None is = refl
    past path none (Some n) is =
        let following = number-past old new path n more none is in
        ap if_text (get_or_past kept n blank (omega (arith, following, few)))

    by : (path : List ℕ) (o : Option ℕ) → number_of old path ≡ o → kept_at new kept path ≡ if_text (kept_by kept o)
    by path None is = past path is (number_of new path) refl
    by path (Some n) is = ap (λ o. if_text (kept_by kept o)) (number-kept old new path n more is)
