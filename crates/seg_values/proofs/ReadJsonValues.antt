-- JSON values that are read one after another.
use Rattle.std.proofs.Common.{◌≡◌, List, [], ◌∷◌, ◌++◌, Option, Some, None, refl, sym, ap, ◌∙◌, append_assoc}
use Rattle.std.specs.Option.{option_map}
use Rattle.seg_values.specs.JsonTrees.{put_first}

-- what was read before, and then the rest, where it can be read
abbrev pub after : {A : Type 0} → List A → Option (List A) → Option (List A)
after done rest = option_map (λ xs. done ++ xs) rest

pub after_one : {A : Type 0} (done next : List A) (x : A) (first : Option A) (rest : Option (List A)) → first ≡ Some x → next ≡ done ++ x ∷ [] → after next rest ≡ after done (put_first first rest)
after_one done next x first rest is more = ap (λ l. after l rest) more ∙ by rest ∙ ap (λ o. after done (put_first o rest)) (sym is)
  where
    by : (rest : Option (List _)) → after (done ++ x ∷ []) rest ≡ after done (put_first (Some x) rest)
    by None = refl
    by (Some xs) = ap Some (append_assoc done (x ∷ []) xs)
