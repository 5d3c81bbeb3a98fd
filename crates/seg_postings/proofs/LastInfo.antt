-- The last term of a dictionary, by its place.
use Rattle.std.proofs.Common.{◌≡◌, ℕ, zero, suc, List, [], ◌∷◌, length, get_or, Option, Some, None, refl, sym, ap, ◌∙◌, arith, subst}
use Rattle.std.specs.Prelude.{IsSomeAnd, slice_get, option_map}
use Rattle.std.proofs.lemmas.Option.{slice_get-get_or}
use Rattle.seg_common.specs.declared.term_info.TermInfo.{TermInfo}
use Rattle.seg_termdict.specs.Dictionary.{Term}
use Rattle.seg_termdict.specs.DictionaryBuilders.{last_term}

last_is : (before : Option Term) (terms : List Term) (i : ℕ) → length terms ≡ suc i → last_term before terms ≡ slice_get terms i
last_is before [] i e = absurd (omega (arith, e))
last_is before (t ∷ []) zero e = refl
last_is before (t ∷ []) (suc i) e = absurd (omega (arith, e))
last_is before (t ∷ u ∷ terms) zero e = absurd (omega (arith, e))
last_is before (t ∷ u ∷ terms) (suc i) e = last_is (Some t) (u ∷ terms) i (omega (arith, e))

pub last_info_is : (terms : List Term) (i : ℕ) (info : TermInfo) → length terms ≡ suc i → IsSomeAnd (slice_get terms i) (λ t. t.1 ≡ info) → Some info ≡ option_map (λ (t : Term). t.1) (last_term None terms)
last_info_is terms i info e has =
    let d : Term = ([], info) in
    let is : slice_get terms i ≡ Some (get_or terms i d) = slice_get-get_or terms i d (omega (arith, e)) in
    let same : (get_or terms i d).1 ≡ info = subst (λ (o : Option Term). IsSomeAnd o (λ t. t.1 ≡ info)) is has in
    sym (ap (option_map (λ (t : Term). t.1)) (last_is None terms i e ∙ is) ∙ ap (λ x. Some x) same)

pub no_last_info : (terms : List Term) → length terms ≡ 0 → None ≡ option_map (λ (t : Term). t.1) (last_term None terms)
no_last_info [] e = refl
no_last_info (t ∷ terms) e = absurd (omega (arith, e))
