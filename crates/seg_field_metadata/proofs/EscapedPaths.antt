-- Paths whose dots are escaped, part by part.
use Rattle.std.proofs.Common.{◌≡◌, ◌≢◌, ℕ, suc, ◌<◌, false, cond, List, [], ◌∷◌, ◌++◌, length, refl, sym, ap, ◌∙◌, arith, append_assoc, append-nil}
use Rattle.std.specs.Prelude.{◌==◌, slice_index}
use Rattle.std.proofs.lemmas.Bool.Decides.{nat_tests}
use Rattle.seg_common.specs.Replacements.{replacement}
use Rattle.seg_field_metadata.specs.ListedNames.{dotted_path, escaped_path}

abbrev pub HasNoDot : List ℕ → Type 0
HasNoDot path = (i : ℕ) → i < length path → slice_index path i ≢ 46

not_equal : (b : ℕ) → b ≢ 46 → (b == 46) ≡ false
not_equal b other = grind (arith, nat_tests)

pub escaped_plain : (part rest : List ℕ) → HasNoDot part → escaped_path (part ++ rest) ≡ dotted_path part ++ escaped_path rest
escaped_plain [] rest plain = refl
escaped_plain (b ∷ part) rest plain =
    ap (λ t. cond t (92 ∷ 46 ∷ []) (replacement 1 46 b ∷ []) ++ escaped_path (part ++ rest)) (not_equal b (plain 0 (omega arith)))
    ∙ ap (λ l. replacement 1 46 b ∷ l) (escaped_plain part rest (λ i lt. plain (suc i) (omega (arith, lt))))

-- a part, a dot, and what is after it
pub escaped_cut : (text part others : List ℕ) → text ≡ part ++ 46 ∷ others → HasNoDot part
    → escaped_path text ≡ (dotted_path part ++ 92 ∷ 46 ∷ []) ++ escaped_path others
escaped_cut text part others is plain =
    ap escaped_path is ∙ escaped_plain part (46 ∷ others) plain
    ∙ sym (append_assoc (dotted_path part) (92 ∷ 46 ∷ []) (escaped_path others))

pub escaped_last : (rest : List ℕ) → HasNoDot rest → escaped_path rest ≡ dotted_path rest
escaped_last rest plain =
    ap escaped_path (sym (append-nil rest)) ∙ escaped_plain rest [] plain ∙ append-nil (dotted_path rest)
