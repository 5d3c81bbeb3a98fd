-- Fields whose length ids are written one by one.
use Rattle.std.proofs.Common.{◌≡◌, ◌≤◌, ◌<◌, ℕ, ◌+◌, Bool, true, false, cond, get_or, List, [], ◌∷◌, ◌++◌, length, take, drop, Some, None, Option, refl, sym, ap, subst, ◌∙◌, arith}
use Rattle.std.specs.Prelude.{◌&&◌, ◌-◌, ◌^◌, nat_lt, IfSome}
use Rattle.std.specs.List.{list_all}
use Rattle.std.proofs.lemmas.Bool.{and_parts}
use Rattle.std.proofs.lemmas.Bool.Decides.{nat_tests}
use Rattle.std.proofs.lemmas.List.{drop_more, map_more}
use Rattle.std.proofs.lemmas.Option.{none-some, same_Some}
use Rattle.seg_common.specs.WriterGrowth.{HasGrown}
use Rattle.seg_values.specs.DistinctLists.{all_distinct}
use Rattle.seg_values.specs.SchemaRules.{is_entry, is_schema, same_name}
use Rattle.seg_values.specs.declared.schema.FieldEntry.{FieldEntry}
use Rattle.seg_model.specs.Fields.{Schema, has_lengths}
use Rattle.seg_directory.specs.CompositeFiles.{Part, low_after}
use Rattle.seg_norms.specs.FieldNorms.{fields_with_lengths}
use Rattle.seg_segment.specs.WrittenLengths.{AscendFrom, parts_with}
use Rattle.seg_segment.proofs.UniqueContents.{selected}

low_after-last : (low : ℕ) (parts : List Part) (p : Part) → low_after low (parts ++ p ∷ []) ≡ p.0 + 1
low_after-last low [] p = refl
low_after-last low (q ∷ parts) p = low_after-last (q.0 + 1) parts p

-- ---- one field after another

module _ (fs : List ℕ) (i f : ℕ) (lt : i < length fs) (is : f ≡ get_or fs i f) where
  -- the fields that are left ascend, after those that are done
  first_ascends : (low : ℕ) → AscendFrom low (drop i fs) → AscendFrom low (f ∷ drop (i + 1) fs)
  first_ascends low ascend =
      subst (AscendFrom low) (drop_more fs i f lt ∙ ap (λ g. g ∷ drop (i + 1) fs) (sym is)) ascend

  pub next_fits : (file : Option (List Part)) → IfSome file (λ ps. AscendFrom (low_after 0 ps) (drop i fs))
      → IfSome file (λ ps. low_after 0 ps ≤ f)
  next_fits None ascend = tt
  next_fits (Some ps) ascend = (first_ascends (low_after 0 ps) ascend).0

  pub next_limit : (file : Option (List Part)) (parts : List Part) → file ≡ Some parts
      → IfSome file (λ ps. AscendFrom (low_after 0 ps) (drop i fs)) → f < 2 ^ 32 - 1
  next_limit None parts was ascend = absurd (none-some parts was)
  next_limit (Some ps) parts was ascend = (first_ascends (low_after 0 ps) ascend).1

  pub rest_ascends : (before after : Option (List Part)) (ids : List ℕ)
      → HasGrown before after (λ ps. ps ++ (f, ids) ∷ [])
      → IfSome before (λ ps. AscendFrom (low_after 0 ps) (drop i fs))
      → IfSome after (λ ps. AscendFrom (low_after 0 ps) (drop (i + 1) fs))
  rest_ascends before after ids grown ascend =
      let ps = grown.kept in
      let here : AscendFrom (low_after 0 ps) (drop i fs) = subst (λ o. IfSome o (λ qs. AscendFrom (low_after 0 qs) (drop i fs))) grown.was ascend in
      let rest : AscendFrom (f + 1) (drop (i + 1) fs) = (first_ascends (low_after 0 ps) here).2 in
      let last : low_after 0 (ps ++ (f, ids) ∷ []) ≡ f + 1 = low_after-last 0 ps (f, ids) in
      subst (λ o. IfSome o (λ qs. AscendFrom (low_after 0 qs) (drop (i + 1) fs))) (sym grown.is) (subst (λ low. AscendFrom low (drop (i + 1) fs)) (sym last) rest)

  -- one more part
  pub next_parts : (ids : ℕ → List ℕ) (before after : Option (List Part))
      → HasGrown before after (λ ps. ps ++ (f, ids f) ∷ []) → before ≡ Some (parts_with ids (take i fs))
      → after ≡ Some (parts_with ids (take (i + 1) fs))
  next_parts ids before after grown was =
      let same = same_Some grown.kept (parts_with ids (take i fs)) (sym grown.was ∙ was) in
      grown.is
      ∙ ap (λ ps. Some (ps ++ (f, ids f) ∷ [])) same
      ∙ ap (λ g. Some (parts_with ids (take i fs) ++ (g, ids g) ∷ [])) is
      ∙ ap Some (sym (map_more (λ g. (g, ids g)) fs i f lt))

-- ---- the fields of a schema

ascend_by : (b : Bool) (low n : ℕ) (rest : List ℕ) → low ≤ n → n < 2 ^ 32 - 1 → AscendFrom (n + 1) rest
    → (b ≡ false → AscendFrom low rest) → AscendFrom low (cond b (n ∷ []) [] ++ rest)
ascend_by true low n rest le lt later without = (le, lt, later)
ascend_by false low n rest le lt later without = without refl

selected_ascend : (low n : ℕ) (es : List FieldEntry) → low ≤ n → n + length es < 2 ^ 32 - 1
    → AscendFrom low (selected n es)
selected_ascend low n [] le few = tt
selected_ascend low n (e ∷ es) le few =
    ascend_by (has_lengths e) low n (selected (n + 1) es) le (omega (arith, few))
    (selected_ascend (n + 1) (n + 1) es (omega arith) (omega (arith, few)))
    (λ no. selected_ascend low (n + 1) es (omega (arith, le)) (omega (arith, few)))

few_fields : (schema : Schema) → is_schema schema ≡ true → nat_lt (length schema) (2 ^ 32 - 1) ≡ true
few_fields schema valid =
    let rest = (and_parts (list_all is_entry schema) (all_distinct same_name schema && nat_lt (length schema) (2 ^ 32 - 1)) valid).1 in
    (and_parts (all_distinct same_name schema) (nat_lt (length schema) (2 ^ 32 - 1)) rest).1

-- the fields that have lengths ascend
pub fields_ascend : (schema : Schema) (fs : List ℕ) → is_schema schema ≡ true → fs ≡ fields_with_lengths schema
    → AscendFrom 0 fs
fields_ascend schema fs valid are =
    let tested = few_fields schema valid in
    let few : 0 + length schema < 2 ^ 32 - 1 = grind (arith, nat_tests) in
    subst (AscendFrom 0) (sym are) (selected_ascend 0 0 schema (omega arith) few)
