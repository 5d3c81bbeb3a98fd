-- The order of rows by their keys.
use Rattle.std.proofs.Common.{◌≡◌, ℕ, ◌+◌, ◌<◌, ◌≤◌, Bool, true, false, cond, List, [], ◌∷◌, ◌++◌, filter, get_or, length, refl, sym, ap, ◌∙◌, inl, inr, ◌⊎◌, arith}
use Rattle.std.specs.Prelude.{◌&&◌, All, not}
use Rattle.std.specs.Borrow.{Bor}
use Rattle.std.specs.Cmp.{IsStrictWeakOrder, IsTotalOrder}
use Rattle.std.specs.Cmp.Lexicographic.{nat_list_cmp_total}
use Rattle.std.specs.List.{AllByRecursion}
use Rattle.std.specs.List.Sorted.{IsSortedBy, ties}
use Rattle.std.specs.Ordering.{is_lt, nat_cmp, ordering_reverse, ordering_then}
use Rattle.std.specs.declared.cmp.Ordering.{Ordering}
use Rattle.std.specs.declared.cmp.Ordering.TheVariants.{Less, Equal, Greater}
use Rattle.std.proofs.lemmas.Bool.{and_left, cases_lt, false≢true, true≢false}
use Rattle.std.proofs.lemmas.Cmp.{nat_cmp_total, on_total, then_total}
use Rattle.std.proofs.lemmas.List.{get_or_append_left, get_or_push, length_push}
use Rattle.std.proofs.lemmas.List.Elements.{filter-append}
use Rattle.std.proofs.lemmas.List.Sorted.{ranks_by}
use Rattle.seg_common.proofs.Numbers.{is_lt-below}
use Rattle.seg_column_merge_parts.specs.HeadHeaps.{head_cmp}
use Rattle.seg_column_merge.specs.TableOrder.{row_head, row_lt}
use Rattle.seg_column_merge_parts.specs.Tables.{table_key, table_key_cmp}
use Rattle.seg_column_merge_parts.specs.declared.tables.TableRow.{TableRow}

-- ---- lists in some order

not_less : (a b : Bool) → (not a && not b) ≡ true → b ≡ false
not_less true b e = absurd (false≢true e)
not_less false true e = absurd (false≢true e)
not_less false false e = refl

module _ {X : Type 0} (lt : X → X → Bool) (o : IsStrictWeakOrder lt) where
  pub not_itself : (x : X) → lt x x ≡ false
  not_itself x = by (lt x x) refl
    where
      by : (b : Bool) → lt x x ≡ b → lt x x ≡ false
      by true e = o.one_way x x e
      by false e = e

  pub less_then : (x y z : X) → lt x y ≡ true → lt z y ≡ false → lt x z ≡ true
  less_then x y z less le = by (lt x z) refl
    where
      by : (b : Bool) → lt x z ≡ b → lt x z ≡ true
      by true e = e
      by false e = absurd (false≢true (sym (o.chain x z y e le) ∙ less))

  -- what ties with an element doesn't tie with one above it
  apart : (x r y : X) → ties lt x r ≡ true → lt r y ≡ true → ties lt x y ≡ false
  apart x r y tie less = by (lt x y) refl
    where
      by : (b : Bool) → lt x y ≡ b → ties lt x y ≡ false
      by true e = and_left (not (lt x y)) (not (lt y x)) (ap not e)
      by false e = absurd (false≢true (sym (o.chain r x y (not_less (lt x r) (lt r x) tie) e) ∙ less))

  -- an element that goes in front of those above it stays where it is among those that tie
  pub in_front_of : (x r : X) (front back : List X) → AllByRecursion (λ y. lt r y ≡ true) front
      → filter (ties lt x) (front ++ r ∷ back) ≡ filter (ties lt x) (r ∷ (front ++ back))
  in_front_of x r front back above = by (ties lt x r) refl
    where
      among : List X → List X
      among l = filter (ties lt x) l

      none : ties lt x r ≡ true → (l : List X) → AllByRecursion (λ y. lt r y ≡ true) l → among l ≡ []
      none tie [] all = refl
      none tie (y ∷ ys) all =
          ap (λ (c : Bool). cond c (y ∷ among ys) (among ys)) (apart x r y tie all.0) ∙ none tie ys all.1

      by : (b : Bool) → ties lt x r ≡ b → among (front ++ r ∷ back) ≡ among (r ∷ (front ++ back))
      by true e =
          let gone = none e front above in
          filter-append (ties lt x) front (r ∷ back) ∙ ap (λ (l : List X). l ++ among (r ∷ back)) gone
          ∙ ap (λ (l : List X). cond (ties lt x r) (r ∷ l) l)
          (sym (filter-append (ties lt x) front back ∙ ap (λ (l : List X). l ++ among back) gone))
      by false e =
          filter-append (ties lt x) front (r ∷ back)
          ∙ ap (λ (c : Bool). among front ++ cond c (r ∷ among back) (among back)) e
          ∙ sym (filter-append (ties lt x) front back)
          ∙ sym (ap (λ (c : Bool). cond c (r ∷ among (front ++ back)) (among (front ++ back))) e)

pub push_sorted : {X : Type 0} (lt : X → X → Bool) (xs : List X) (x : X) → IsSortedBy lt xs
    → All (λ y. lt x y ≡ false) xs → IsSortedBy lt (xs ++ x ∷ [])
push_sorted {X} lt xs x up low k d le within = by (cases_lt (k + 1) (length xs))
  where
    by : (k + 1 < length xs) ⊎ (length xs ≤ k + 1)
        → lt (get_or (xs ++ x ∷ []) (k + 1) d) (get_or (xs ++ x ∷ []) k d) ≡ false
    by (inl inner) =
        (λ j. lt (get_or_append_left xs (x ∷ []) d (k + 1) inner j)
        (get_or_append_left xs (x ∷ []) d k (omega (arith, inner)) j))
        ∙ up k d le inner
    by (inr past) =
        let here : length xs ≡ k + 1 = omega (arith, past, within, length_push xs x) in
        (λ j. lt (get_or_push xs x d (k + 1) here j)
        (get_or_append_left xs (x ∷ []) d k (omega (arith, here)) j))
        ∙ low k d (omega (arith, here))

-- ---- rows

pub key_total : IsTotalOrder table_key_cmp
key_total = then_total (on_total (λ (k : Bor (List ℕ) × ℕ). k.0.now) nat_list_cmp_total)
    (on_total (λ (k : Bor (List ℕ) × ℕ). k.1) nat_cmp_total)

pub row_order : IsStrictWeakOrder row_lt
row_order = ranks_by key_total table_key

-- a row whose head isn't below another one's isn't below it, and is above it where it comes before
pub beside_least : (row least : TableRow) (place at : ℕ)
    → is_lt (head_cmp (row_head row place) (row_head least at)) ≡ false
    → (row_lt row least ≡ false) × (place < at → row_lt least row ≡ true)
beside_least row least place at le = by (compared row least) refl
  where
    compared : TableRow → TableRow → Ordering
    compared x y = table_key_cmp (table_key x) (table_key y)

    told : (c : Ordering) → compared row least ≡ c → is_lt (ordering_then c (nat_cmp place at)) ≡ false
    told c e = ap (λ (p : Ordering). is_lt (ordering_then p (nat_cmp place at))) (sym e) ∙ le

    by : (c : Ordering) → compared row least ≡ c → (row_lt row least ≡ false) × (place < at → row_lt least row ≡ true)
    by Less e = absurd (true≢false (told Less e))
    by Equal e = (ap is_lt e, (λ lt. absurd (true≢false (sym (is_lt-below place at lt) ∙ told Equal e))))
    by Greater e = (
      ap is_lt e,
      (λ lt. ap is_lt (key_total.antisymm (table_key least) (table_key row) ∙ ap ordering_reverse e)),
    )
