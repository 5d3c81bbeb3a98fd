-- The terms of a field as its parts grow.
use Rattle.std.proofs.Common.{◌≡◌, ℕ, ◌<◌, ◌≤◌, List, [], ◌∷◌, ◌++◌, length, Option, Some, None, option_map, refl, ap, ◌∙◌, arith, slice_range}
use Rattle.std.specs.Prelude.{option_and_then}
use Rattle.std.specs.List.{AllByRecursion}
use Rattle.std.proofs.lemmas.Option.{none-some, same_Some}
use Rattle.seg_common.proofs.Lists.{range-front}
use Rattle.seg_termdict.specs.Dictionary.{Term}
use Rattle.seg_postings.specs.Postings.{TermPostings, term_postings}
use Rattle.seg_postings.specs.FieldSerializers.{TermWritten}
use Rattle.seg_postings.specs.Field.{term_at, terms_at}
use Rattle.seg_postings.specs.FieldParts.{LiesWithin}

-- a term of its ranges
abbrev pub term_in : ℕ → List ℕ → List ℕ → List ℕ → Option TermWritten
term_in number key postings positions = option_map (λ (p : TermPostings). record { bytes = key; kind = p.kind; postings = p.postings }) (term_postings number postings positions)

-- a term whose ranges lie within the parts is the same where these go on
pub term_at-front : (a x b y : List ℕ) (t : Term) → LiesWithin (length a) (length b) t → term_at (a ++ x) (b ++ y) t ≡ term_at a b t
term_at-front a x b y t within =
    ap (λ r. term_in t.1.doc_freq t.0 r (slice_range (b ++ y) t.1.positions_start t.1.positions_end)) (range-front a x t.1.postings_start t.1.postings_end within.0 within.1)
    ∙ ap (λ r. term_in t.1.doc_freq t.0 (slice_range a t.1.postings_start t.1.postings_end) r) (range-front b y t.1.positions_start t.1.positions_end within.2 within.3)

abbrev joined : Option TermWritten → Option (List TermWritten) → Option (List TermWritten)
joined first others = option_and_then (λ w. option_map (λ ws. w ∷ ws) others) first

pub terms_at-front : (a x b y : List ℕ) (ts : List Term) → AllByRecursion (LiesWithin (length a) (length b)) ts → terms_at (a ++ x) (b ++ y) ts ≡ terms_at a b ts
unfolding terms_at
terms_at-front a x b y [] within = refl
terms_at-front a x b y (t ∷ ts) within =
    ap (λ o. joined o (terms_at (a ++ x) (b ++ y) ts)) (term_at-front a x b y t within.0)
    ∙ ap (λ os. joined (term_at a b t) os) (terms_at-front a x b y ts within.1)

-- terms lie within more
pub within-more : (m n k l : ℕ) (ts : List Term) → m ≤ k → n ≤ l → AllByRecursion (LiesWithin m n) ts → AllByRecursion (LiesWithin k l) ts
within-more m n k l [] mk nl within = within
within-more m n k l (t ∷ ts) mk nl within =
    let (rise, low, positions_rise, positions_low) = within.0 in
    ((rise, omega (arith, low, mk), positions_rise, omega (arith, positions_low, nl)), within-more m n k l ts mk nl within.1)

pub within-push : (m n : ℕ) (ts : List Term) (t : Term) → AllByRecursion (LiesWithin m n) ts → LiesWithin m n t → AllByRecursion (LiesWithin m n) (ts ++ t ∷ [])
within-push m n [] t within one = (one, within)
within-push m n (x ∷ ts) t within one = (within.0, within-push m n ts t within.1 one)

pub occurs-push : (ws : List TermWritten) (w : TermWritten) → AllByRecursion (λ (t : TermWritten). 0 < length t.postings) ws → 0 < length w.postings → AllByRecursion (λ (t : TermWritten). 0 < length t.postings) (ws ++ w ∷ [])
occurs-push [] w all one = (one, all)
occurs-push (v ∷ ws) w all one = (all.0, occurs-push ws w all.1 one)

-- both were read
pub record Both (first : Option TermWritten) (others : Option (List TermWritten)) (all : List TermWritten) : Type 0 where
  pub w : TermWritten
  pub ws : List TermWritten
  pub is_first : first ≡ Some w
  pub are_others : others ≡ Some ws
  pub are_all : w ∷ ws ≡ all

pub both : (first : Option TermWritten) (others : Option (List TermWritten)) (all : List TermWritten) → joined first others ≡ Some all → Both first others all
both None others all h = absurd (none-some all h)
both (Some w) None all h = absurd (none-some all h)
both (Some w) (Some ws) all h = record { w = w; ws = ws; is_first = refl; are_others = refl; are_all = same_Some _ _ h }

-- one more term
pub terms_at-push : (a b : List ℕ) (ts : List Term) (t : Term) (ws : List TermWritten) (w : TermWritten) → terms_at a b ts ≡ Some ws → term_at a b t ≡ Some w → terms_at a b (ts ++ t ∷ []) ≡ Some (ws ++ w ∷ [])
unfolding terms_at
terms_at-push a b [] t ws w read one = ap (λ o. joined o (Some [])) one ∙ ap (λ vs. Some (vs ++ w ∷ [])) (same_Some _ _ read)
terms_at-push a b (x ∷ ts) t ws w read one =
    let parts = both (term_at a b x) (terms_at a b ts) ws read in
    ap (λ o. joined o (terms_at a b (ts ++ t ∷ []))) parts.is_first
    ∙ ap (λ os. joined (Some parts.w) os) (terms_at-push a b ts t parts.ws w parts.are_others one)
    ∙ ap (λ vs. Some (vs ++ w ∷ [])) parts.are_all
