-- The ids of segments, in a list and in a set.
use Rattle.std.proofs.Common.{◌≡◌, ℕ, List, [], ◌∷◌, ◌++◌, Bool, true, false, not, ◌||◌, cond, nat_eq, refl, sym, ap, ◌∙◌}
use Rattle.std.proofs.lemmas.List.Folds.{list_any-append}
use Rattle.std.specs.List.{list_any}
use Rattle.seg_common.proofs.Numbers.{nat_eq-sym}
use Rattle.seg_meta.specs.IndexOfFiles.{ListedSegment}
use Rattle.seg_meta.specs.SavableMetas.{same_id}

-- ids are compared both ways
pub same_id-sym : (s t : ListedSegment) → same_id s t ≡ same_id t s
same_id-sym s t = nat_eq-sym s.id t.id

old : (added there among : Bool) → added ≡ not there → there ≡ among → added ≡ false → among ≡ true
old true there among e f g = cc
old false true among e f g = sym f
old false false among e f g = cc

new : (added there among : Bool) → added ≡ not there → there ≡ among → added ≡ true → among ≡ false
new false there among e f g = cc
new true false among e f g = sym f
new true true among e f g = cc

-- what the set holds already isn't added
pub known : (added there : Bool) (among : ℕ → Bool) (key id : ℕ) → added ≡ not there → there ≡ among key → key ≡ id → added ≡ false → among id ≡ true
known added there among key id e f is g = old added there (among id) e (f ∙ ap among is) g

-- and what it doesn't is
pub unknown : (added there : Bool) (among : ℕ → Bool) (key id : ℕ) → added ≡ not there → there ≡ among key → key ≡ id → added ≡ true → among id ≡ false
unknown added there among key id e f is g = new added there (among id) e (f ∙ ap among is) g

joined : (b c : Bool) → cond b true c ≡ (c || (b || false))
joined true true = refl
joined true false = refl
joined false true = refl
joined false false = refl

-- one id more, in both
pub one_more : (id q : ℕ) (s : ListedSegment) (before now : List ListedSegment) (had has : Bool) → s.id ≡ id → now ≡ before ++ s ∷ [] → has ≡ cond (nat_eq id q) true had → had ≡ list_any (λ t. nat_eq t.id q) before
    → has ≡ list_any (λ t. nat_eq t.id q) now
one_more id q s before now had has is more e f =
    e ∙ ap (λ b. cond (nat_eq id q) true b) f ∙ joined (nat_eq id q) (list_any (λ t. nat_eq t.id q) before)
    ∙ ap (λ n. list_any (λ t. nat_eq t.id q) before || (nat_eq n q || false)) (sym is) ∙ sym (ap (λ l. list_any (λ t. nat_eq t.id q) l) more ∙ list_any-append (λ t. nat_eq t.id q) before (s ∷ []))
