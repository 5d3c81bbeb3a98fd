-- What calls on columns and heads give.
use Rattle.std.proofs.Common.{◌≡◌, ◌⊎◌, ℕ, ◌+◌, ◌-◌, ◌<◌, ◌≤◌, Bool, true, false, List, [], ◌∷◌, ◌++◌, length, map, take, get_or, slice_get, Option, Some, None, inl, inr, sym, ap, subst, ◌∙◌, arith}
use Rattle.std.specs.Prelude.{IfSome, MatchBool, MatchOption}
use Rattle.std.specs.Borrow.{Bor}
use Rattle.std.specs.Cmp.Lexicographic.{slice_cmp}
use Rattle.std.specs.List.Sorted.{IsPermutation, IsStrictlySortedBy}
use Rattle.std.specs.Ordering.{nat_cmp}
use Rattle.std.specs.Str.{bytes_eq}
use Rattle.std.proofs.lemmas.Bool.{cases_lt, false≢true}
use Rattle.std.proofs.lemmas.List.{get_or_append_left, get_or_default, get_or_past, get_or_push, length-map, length_push, map-append, take_more}
use Rattle.std.proofs.lemmas.Option.{get_or_from_slice_get, slice_get-map}
use Rattle.std.proofs.lemmas.Slice.Eq.{bytes_eq-Decides}
use Rattle.seg_column_merge_parts.specs.HeadHeaps.{Head, Pops}
use Rattle.seg_column_merge_parts.specs.TermHeads.{Advances, AreLong, EndsWith, IsLast, column_at, heads_at, with_ordinal}
use Rattle.seg_column_merge_parts.specs.UsedTerms.{IsNextUsed, MarkedTerms, NoneUsed, no_terms}
use Rattle.seg_column_merge_parts.proofs.HeadSteps.{SoFar, fewer_left, is_head, measure, one_merged, ordinal_there}

-- ---- columns by their places

pub item_is : (columns : List MarkedTerms) (place : ℕ) (m : MarkedTerms) → place < length columns
    → m ≡ get_or columns place m → m ≡ column_at columns place
item_is columns place m lt is = is ∙ get_or_default columns place m no_terms lt

module _ (columns : List MarkedTerms) (m : MarkedTerms) (ordinals : List (List ℕ)) (zeros : List ℕ)
    (long : AreLong columns ordinals) (one : length zeros ≡ length m.terms) where
  pushed_at : (p : ℕ) → (p < length columns) ⊎ (length columns ≤ p)
      → (p < length columns + 1) ⊎ (length columns + 1 ≤ p)
      → length (get_or (ordinals ++ zeros ∷ []) p []) ≡ length (column_at (columns ++ m ∷ []) p).terms
  pushed_at p (inl lt) any =
      ap length (get_or_append_left ordinals (zeros ∷ []) [] p (omega (arith, lt, long.many))) ∙ long.each p
      ∙ sym (ap (λ (c : MarkedTerms). length c.terms) (get_or_append_left columns (m ∷ []) no_terms p lt))
  pushed_at p (inr le) (inl lt) =
      let here : length columns ≡ p = omega (arith, le, lt) in
      ap length (get_or_push ordinals zeros [] p (long.many ∙ here)) ∙ one
      ∙ sym (ap (λ (c : MarkedTerms). length c.terms) (get_or_push columns m no_terms p here))
  pushed_at p (inr le) (inr past) =
      ap length (get_or_past (ordinals ++ zeros ∷ []) p [] (omega (arith, past, long.many, length_push ordinals zeros)))
      ∙ sym (ap (λ (c : MarkedTerms). length c.terms)
      (get_or_past (columns ++ m ∷ []) p no_terms (omega (arith, past, length_push columns m))))

  pushed_long : AreLong (columns ++ m ∷ []) (ordinals ++ zeros ∷ [])
  pushed_long = record {
    many = length_push ordinals zeros ∙ ap (λ (n : ℕ). n + 1) long.many ∙ sym (length_push columns m);
    each = λ p. pushed_at p (cases_lt p (length columns)) (cases_lt p (length columns + 1));
  }

pub long_more : {V : Type 0} (items : V → List ℕ) (columns : List MarkedTerms) (i : ℕ) (m : MarkedTerms)
    → i < length columns → m ≡ get_or columns i m → (old new : List V) (v : V) → new ≡ old ++ v ∷ []
    → length (items v) ≡ length m.terms → AreLong (take i columns) (map items old)
    → AreLong (take (i + 1) columns) (map items new)
long_more {V} items columns i m lt is old new v pushed one long =
    subst (AreLong (take (i + 1) columns)) (sym (ap (map items) pushed ∙ map-append items old (v ∷ [])))
    (subst (λ (cs : List MarkedTerms). AreLong cs (map items old ++ items v ∷ []))
    (ap (λ (c : MarkedTerms). take i columns ++ c ∷ []) is ∙ sym (take_more columns i m lt))
    (pushed_long (take i columns) m (map items old) (items v) long one))

-- ---- the next head of a column

module _ (m : MarkedTerms) (from : ℕ) where
  abbrev IsNext : Option ℕ → Type 0
  IsNext next = MatchOption next (NoneUsed m.used from (length m.used)) (IsNextUsed m.used from)

  pub next_within : (next : Option ℕ) → IsNext next → length m.used ≡ length m.terms
      → IfSome next (λ ord. ord < length m.terms)
  next_within None is long = tt
  next_within (Some ord) is long = omega (arith, is.within, long)

  pub goes_on : (place : ℕ) (next : Option ℕ) (old new : List Head) → IsNext next
      → IsStrictlySortedBy (slice_cmp nat_cmp) m.terms → length m.used ≡ length m.terms
      → IsPermutation (heads_at m place next ++ old) new → Advances m place from old new
  goes_on place next old new is ascend long moves = record {
    ascend = ascend;
    long = long;
    next = next;
    is = is;
    moves = moves;
  }

-- ---- the last of terms

abbrev pub seen : List (Bor (List ℕ)) → List (List ℕ)
seen terms = map (λ (t : Bor (List ℕ)). t.now) terms

pub last_is : (terms : List (Bor (List ℕ))) (last : Bor (List ℕ)) → slice_get terms (length terms - 1) ≡ Some last
    → IsLast (seen terms) last.now
last_is terms last is =
    ap (λ (n : ℕ). slice_get (seen terms) (n - 1)) (length-map terms (λ (t : Bor (List ℕ)). t.now))
    ∙ slice_get-map (λ (t : Bor (List ℕ)). t.now) terms (length terms - 1)
    ∙ ap (λ (o : Option (Bor (List ℕ))). seen_option o) is
  where
    seen_option : Option (Bor (List ℕ)) → Option (List ℕ)
    seen_option None = None
    seen_option (Some t) = Some t.now

pub last_tested : (terms : List (Bor (List ℕ))) (last : Bor (List ℕ)) (term : List ℕ) (b : Bool)
    → slice_get terms (length terms - 1) ≡ Some last → b ≡ bytes_eq last.now term
    → MatchBool b (IsLast (seen terms) term) (IsLast (seen terms) term → ⊥)
last_tested terms last term true is same =
    subst (IsLast (seen terms)) ((bytes_eq-Decides last.now term).0 (sym same)) (last_is terms last is)
last_tested terms last term false is same = λ other.
    let n = length (seen terms) - 1 in
    let equal : last.now ≡ term = sym (get_or_from_slice_get (seen terms) n last.now [] (last_is terms last is))
    ∙ get_or_from_slice_get (seen terms) n term [] other in
    false≢true (same ∙ (bytes_eq-Decides last.now term).1 equal)

-- ---- one head

pub passed : {V : Type 0} (items : V → List ℕ) (columns : List MarkedTerms) (heads rest new : List Head) (h : Head)
    (m : MarkedTerms) (terms more : List (Bor (List ℕ))) (lists next : List V) (ordinal : ℕ)
    → SoFar columns heads (seen terms) (map items lists) → Pops heads rest h → m ≡ get_or columns h.1 m
    → EndsWith m (seen terms) h.0 (seen more) → ordinal ≡ length more - 1
    → map items next ≡ with_ordinal (map items lists) h ordinal → Advances m h.1 (h.2 + 1) rest new
    → SoFar columns new (seen more) (map items next) × (measure columns new < measure columns heads)
passed {V} items columns heads rest new h m terms more lists next ordinal so_far pops read ends is put goes =
    let there : h.1 < length columns = (is_head columns heads rest h (seen terms) (map items lists) so_far pops).place in
    let same : m ≡ column_at columns h.1 = item_is columns h.1 m there read in
    let ended = subst (λ (c : MarkedTerms). EndsWith c (seen terms) h.0 (seen more)) same ends in
    let gone = subst (λ (c : MarkedTerms). Advances c h.1 (h.2 + 1) rest new) same goes in
    let count : ordinal ≡ length (seen more) - 1 =
    is ∙ ap (λ (n : ℕ). n - 1) (sym (length-map more (λ (t : Bor (List ℕ)). t.now))) in
    let all : map items next ≡ with_ordinal (map items lists) h (length (seen more) - 1) =
    put ∙ ap (with_ordinal (map items lists) h) count in (
      subst (SoFar columns new (seen more)) (sym all)
          (one_merged columns heads rest h (seen terms) (map items lists) so_far pops (seen more) ended new gone),
      fewer_left columns heads rest h (seen terms) (map items lists) so_far pops (seen more) ended new gone,
    )

-- what is known of a head that was taken out, by its column
pub record IsAt (m : MarkedTerms) (h : Head) (lists : List (List ℕ)) : Type 0 where
  pub within : h.2 < length m.terms
  pub is : h.0 ≡ get_or m.terms h.2 []
  pub ordinal : h.2 < length (get_or lists h.1 [])

pub at_head : (columns : List MarkedTerms) (heads rest : List Head) (h : Head) (m : MarkedTerms)
    (terms lists : List (List ℕ)) → SoFar columns heads terms lists → Pops heads rest h → m ≡ get_or columns h.1 m
    → IsAt m h lists
at_head columns heads rest h m terms lists so_far pops read =
    let head = is_head columns heads rest h terms lists so_far pops in
    let same : column_at columns h.1 ≡ m = sym (item_is columns h.1 m head.place read) in
    record {
      within = subst (λ (c : MarkedTerms). h.2 < length c.terms) same head.within;
      is = subst (λ (c : MarkedTerms). h.0 ≡ get_or c.terms h.2 []) same head.is;
      ordinal = ordinal_there columns heads rest h terms lists so_far pops;
    }
