use Rattle.std.proofs.Common.{◌≡◌, [], ◌∷◌, ◌∙◌, ◌||◌, List, ℕ, rules, sym, ap, subst}
use Rattle.std.specs.List.{list_any}
use Rattle.seg_column_format.specs.PathStarts.{AreApart, Ascend, begins}
use Rattle.seg_column_format.proofs.OuterStarts.{MeetsUpTo, ascend_left, met_all, none_left, still_apart, still_meets, still_tells}
use Rattle.seg_column_format.proofs.path_starts.outermost.Goals as goal

pub loop-start-init : goal.loop-start-init
loop-start-init c =
    let made = c.new-starts.result.items in
    let left = c.into_iter-start-iterator.result.rest.items in
    let none : made ≡ [] = search rules in
    let all : left ≡ c.args.sorted.items = search rules in
    record {
      apart = subst AreApart (sym none) tt;
      meets = subst (λ (l : List (List ℕ)). MeetsUpTo l left) (sym none) (met_all left);
      ascend = subst Ascend (sym all) c.requires;
      tells = λ path. ap (λ (l : List (List ℕ)). list_any (begins path) l || list_any (begins path) left) none
          ∙ ap (list_any (begins path)) all;
    }

pub loop-start-preserved : goal.loop-start-preserved
loop-start-preserved c =
    let so_far = c.loop-start.invariant in
    let old = c.loop-start.starts.items in
    let left = c.next.new.self.rest.items in
    let s = c.in-Some.start in
    let all : c.loop-start.start-iterator.rest.items ≡ s ∷ left = search rules in
    let meets : MeetsUpTo old (s ∷ left) = subst (MeetsUpTo old) all so_far.meets in
    let ascend : Ascend (s ∷ left) = subst Ascend all so_far.ascend in
    let new = sym c.in_ok-add_start.ensures in
    record {
      apart = subst AreApart new (still_apart old s so_far.apart meets);
      meets = subst (λ (l : List (List ℕ)). MeetsUpTo l left) new (still_meets old s left ascend meets);
      ascend = ascend_left s left ascend;
      tells = λ path.
          ap (λ (l : List (List ℕ)). list_any (begins path) l || list_any (begins path) left) (sym new)
          ∙ (still_tells old s path (list_any (begins path) left)
          ∙ (ap (λ (l : List (List ℕ)). list_any (begins path) old || list_any (begins path) l) (sym all)
          ∙ so_far.tells path));
    }

pub returns : goal.returns
returns c =
    let so_far = c.loop-start.invariant in
    let all : c.loop-start.start-iterator.rest.items ≡ [] = search rules in (
      so_far.apart,
      λ path. none_left path c.loop-start.starts.items c.loop-start.start-iterator.rest.items all ∙ so_far.tells path,
    )
