-- The values of a document, one after the other.
use Rattle.std.proofs.Common.{◌≡◌, ℕ, Bool, drop, length-drop, zero, suc, ◌+◌, ◌*◌, ◌-◌, ◌<◌, ◌≤◌, List, [], ◌∷◌, length, map, get_or, slice_get, Option, Some, None, refl, sym, ap, subst, ◌∙◌, arith, mul_comm}
use Rattle.std.specs.Prelude.{IsSome, IsSomeAnd, is_some, MatchBool, slice_range}
use Rattle.std.proofs.Math.Nat.{mul-le-mul_left}
use Rattle.std.specs.List.{filter_map, range_with_len, cons_option}
use Rattle.std.proofs.lemmas.Bool.{false≢true}
use Rattle.std.specs.Iterator.{YieldsFirst, MakesProgress, item_count}
use Rattle.seg_columns.specs.Ends.{start_at}
use Rattle.seg_columns.specs.Columns.{IsColumn, AreKnown, first_or, value_at, values_between}
use Rattle.seg_columns.proofs.RisingEnds.{at_most_all}

module _ {T : Type 0} where
  some_value : (r : Option T) → IsSome r → (rest : List T) → IsSomeAnd r (λ x. cons_option r rest ≡ x ∷ rest)
  some_value (Some x) h rest = refl
  some_value None h rest = absurd (false≢true h)

  pub next_value : (width : ℕ) (decoded : List ℕ → Option T) (values : List ℕ) (place end : ℕ) → place < end
      → IsSome (value_at width decoded values place) → (r : Option T) → r ≡ value_at width decoded values place
      → IsSomeAnd r (λ x. values_between width decoded values place end ≡ x ∷ values_between width decoded values
      (place + 1) end)
  next_value width decoded values place end lt known r e =
      let n : end - place ≡ suc (end - (place + 1)) = omega arith in
      let f : ℕ → Option T = value_at width decoded values in
      let rest : List T = values_between width decoded values (place + 1) end in
      subst (λ (q : Option T). IsSomeAnd q (λ x. values_between width decoded values place end ≡ x ∷ rest)) (sym e)
      (subst (λ (m : ℕ). IsSomeAnd (f place) (λ x. filter_map f (range_with_len place m) ≡ x ∷ rest)) (sym n)
      (some_value (f place) known rest))

  pub steps : (old new : List T) (r : Option T) → IsSomeAnd r (λ x. old ≡ x ∷ new) → YieldsFirst (λ s. s) old r new
  steps old new (Some x) h = h
  steps old new None h = absurd h

  pub goes : (can : List T → Type 0) → ((s : List T) → can s) → (old new : List T) (r : Option T)
      → IsSomeAnd r (λ x. old ≡ x ∷ new) → MakesProgress can (item_count (λ s. s)) old r new
  goes can all old new (Some x) h =
      let shorter = ap length h in
      record { on = λ finite. (all new, tt, omega (arith, shorter)); keeps = all new; rests = λ finite. tt }
  goes can all old new None h = absurd h

  -- the bytes of a value, by its place
  pub at_place : (width : ℕ) (decoded : List ℕ → Option T) (values : List ℕ) (place w v : ℕ) → w ≡ width → v ≡ width
      → (r : Option T) → r ≡ decoded (slice_range values (place * w) (place * w + v))
      → r ≡ value_at width decoded values place
  unfolding value_at
  at_place width decoded values place w v a b r h =
      let s : place * w ≡ width * place = ap (λ n. place * n) a ∙ mul_comm place width in
      subst (λ (m : ℕ). r ≡ decoded (slice_range values m (m + width))) s
      (subst (λ (m : ℕ). r ≡ decoded (slice_range values (place * w) (place * w + m))) b h)

  pub told_some : (b : Bool) (r : Option T) → b ≡ is_some r → (v : Option T) → r ≡ v
      → MatchBool b (IsSome v) (IsSome v → ⊥)
  told_some b r e v is =
      subst (λ (q : Option T). MatchBool b (IsSome q) (IsSome q → ⊥)) is
      (subst (λ (a : Bool). MatchBool a (IsSome r) (IsSome r → ⊥)) (sym e) (by r))
    where
      by : (q : Option T) → MatchBool (is_some q) (IsSome q) (IsSome q → ⊥)
      by (Some x) = refl
      by None = λ h. false≢true h

  -- a document without a value has the default
  defaulted : (default : T) (rows : List (List T)) (doc : ℕ) → doc < length rows
      → slice_get (get_or rows doc []) 0 ≡ None
      → slice_get (map (first_or default) rows) doc ≡ Some default
  defaulted default [] doc lt none = absurd (omega (arith, lt))
  defaulted default ([] ∷ rows) zero lt none = refl
  defaulted default ((x ∷ xs) ∷ rows) zero lt none = absurd cc
  defaulted default (row ∷ rows) (suc doc) lt none = defaulted default rows doc (omega (arith, lt)) none

  pub has_default : (default : T) (rows : List (List T)) (seen : List T) (doc : ℕ) → map (first_or default) rows ≡ seen
      → doc < length rows → slice_get (get_or rows doc []) 0 ≡ None → slice_get seen doc ≡ Some default
  has_default default rows seen doc view lt none =
      subst (λ (vs : List T). slice_get vs doc ≡ Some default) view (defaulted default rows doc lt none)

  -- ---- an open column

  module _ (width : ℕ) (decoded : List ℕ → Option T) (rows : ℕ) (bytes : List ℕ)
      (is : IsColumn width decoded rows bytes) where
    pub within : (i : ℕ) → i ≤ rows → width * start_at bytes i ≤ length (drop (8 * rows) bytes)
    within i h =
        omega (arith, is.fill, length-drop (8 * rows) bytes, mul-le-mul_left width (at_most_all bytes rows is.rise i h))

    pub known : (i : ℕ) → i ≤ rows → AreKnown width decoded (drop (8 * rows) bytes) (start_at bytes i)
    known i h k lt = is.known k (omega (arith, lt, at_most_all bytes rows is.rise i h))
