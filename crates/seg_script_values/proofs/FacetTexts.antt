-- Facets as paths tell them.
use Rattle.std.proofs.Common.{◌≡◌, ◌≢◌, ℕ, ◌<◌, List, [], ◌∷◌, map, drop, length, Bool, true, ◌&&◌, cond, Some, None, nat_lt, refl, ap, ◌∙◌, sym, subst, arith}
use Rattle.std.specs.List.{AllByRecursion, list_all}
use Rattle.std.specs.Str.{bytes_eq}
use Rattle.std.proofs.lemmas.Bool.{and_parts}
use Rattle.std.proofs.lemmas.Bool.Decides.{nat_tests}
use Rattle.std.proofs.lemmas.List.Elements.{All-from_recursion, recursion_from_All}
use Rattle.std.proofs.lemmas.Option.{cond_some}
use Rattle.std.proofs.lemmas.Slice.Eq.{bytes_eq-Decides}
use Rattle.seg_common.specs.Replacements.{replacement}
use Rattle.seg_values.specs.Facets.{path_of, steps, Tells}
use Rattle.seg_script_values.specs.FacetTexts.{encoded_from, has_full_steps, facet_of}
use Rattle.seg_script_values.specs.Laws.{PathsAreFacets}

restored_byte : (byte : ℕ) → byte ≢ 47 → replacement 47 0 (replacement 0 47 byte) ≡ byte
restored_byte byte ne = grind (arith, nat_tests)

restored : (bs : List ℕ) → AllByRecursion (λ b. b ≢ 47) bs → map (replacement 47 0) (map (replacement 0 47) bs) ≡ bs
restored [] h = refl
restored (b ∷ bs) h = λ i. restored_byte b h.0 i ∷ restored bs h.1 i

gone_byte : (byte : ℕ) → replacement 47 0 byte ≢ 47
gone_byte byte e = grind (arith, nat_tests)

gone : (bs : List ℕ) → AllByRecursion (λ b. b ≢ 47) (map (replacement 47 0) bs)
gone [] = tt
gone (b ∷ bs) = (gone_byte b, gone bs)

full : (n : ℕ) → 0 < n → nat_lt 0 n ≡ true
full n h = grind (arith, nat_tests)

not_empty : (n : ℕ) → nat_lt 0 n ≡ true → 0 < n
not_empty n h = grind (arith, nat_tests)

all_full : (pieces : List (List ℕ)) → AllByRecursion (λ step. 0 < length step) pieces → list_all (λ step. nat_lt 0 (length step)) pieces ≡ true
all_full [] h = refl
all_full (p ∷ ps) h = rw (full (length p) h.0) (all_full ps h.1)

none_empty : (pieces : List (List ℕ)) → list_all (λ step. nat_lt 0 (length step)) pieces ≡ true → AllByRecursion (λ step. 0 < length step) pieces
none_empty [] h = tt
none_empty (p ∷ ps) h =
    let parts = and_parts (nat_lt 0 (length p)) (list_all (λ step. nat_lt 0 (length step)) ps) h in
    (not_empty (length p) parts.0, none_empty ps parts.1)

chosen : {A : Type 0} (b c : Bool) (x y : A) → b ≡ true → c ≡ true → x ≡ y → cond (b && c) (Some x) None ≡ Some y
chosen b c x y hb hc e = rw (hb, hc) (ap Some e)

told : (path encoded : List ℕ) → Tells path encoded → facet_of path ≡ Some encoded
told path encoded t =
    let same : encoded_from path ≡ encoded = ap encoded_from t.path_of_encoded ∙ restored encoded (recursion_from_All (λ b. b ≢ 47) encoded t.no_slash) in
    chosen (bytes_eq path (path_of (encoded_from path))) (has_full_steps (encoded_from path)) (encoded_from path) encoded
    ((bytes_eq-Decides path (path_of (encoded_from path))).1 (t.path_of_encoded ∙ ap path_of (sym same)))
    (ap has_full_steps same ∙ all_full (steps encoded) (recursion_from_All (λ step. 0 < length step) (steps encoded) t.no_empty_step))
    same

tells : (path encoded : List ℕ) → facet_of path ≡ Some encoded → Tells path encoded
tells path encoded h =
    let said = cond_some (bytes_eq path (path_of (encoded_from path)) && has_full_steps (encoded_from path)) (encoded_from path) encoded h in
    let parts = and_parts (bytes_eq path (path_of (encoded_from path))) (has_full_steps (encoded_from path)) said.0 in
    subst (λ e. Tells path e) said.1 (record {
      path_of_encoded = (bytes_eq-Decides path (path_of (encoded_from path))).0 parts.0;
      no_empty_step = All-from_recursion (λ step. 0 < length step) (steps (encoded_from path)) (none_empty (steps (encoded_from path)) parts.1);
      no_slash = All-from_recursion (λ b. b ≢ 47) (encoded_from path) (gone (drop 1 path));
    })

pub paths_are_facets : PathsAreFacets
paths_are_facets path encoded = (tells path encoded, told path encoded)
