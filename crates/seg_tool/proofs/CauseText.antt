-- The text of a cause, by its name and its numbers.
use Rattle.std.proofs.Common.{◌≡◌, ℕ, List, [], ◌∷◌, ◌++◌, Option, append_assoc, ap, sym, refl, ◌∙◌}
use Rattle.std.specs.Prelude.{option_to_list, decimal}
use Rattle.seg_tool.specs.Statuses.{CauseWords, numbers_text, cause_text}

numbers_text-append : (ms ns : List ℕ) → numbers_text (ms ++ ns) ≡ numbers_text ms ++ numbers_text ns
numbers_text-append [] ns = refl
numbers_text-append (m ∷ ms) ns = ap (λ xs. 32 ∷ (decimal m ++ xs)) (numbers_text-append ms ns) ∙ ap (λ xs. 32 ∷ xs) (sym (append_assoc (decimal m) (numbers_text ms) (numbers_text ns)))

pub cause_text-parts : (words : CauseWords) (name : List ℕ) (first second : Option ℕ) → name ≡ words.name → option_to_list first ++ option_to_list second ≡ words.numbers
    → cause_text words ≡ (name ++ numbers_text (option_to_list first)) ++ numbers_text (option_to_list second)
cause_text-parts words name first second named numbered =
    ap (λ xs. xs ++ numbers_text words.numbers) (sym named)
    ∙ ap (λ ns. name ++ numbers_text ns) (sym numbered)
    ∙ ap (λ xs. name ++ xs) (numbers_text-append (option_to_list first) (option_to_list second))
    ∙ sym (append_assoc name (numbers_text (option_to_list first)) (numbers_text (option_to_list second)))
