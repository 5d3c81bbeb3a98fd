-- What trees of merges leave.
use Rattle.std.proofs.Common.{◌≡◌, List, [], ◌∷◌, ◌++◌, Some, sym, refl, ap, ◌∙◌, subst}
use Rattle.std.specs.List.{flat_map}
use Rattle.std.proofs.lemmas.List.{append-nil}
use Rattle.seg_model.specs.Contents.{Contents}
use Rattle.seg_model.specs.Fields.{Schema}
use Rattle.seg_model.specs.Join.{Part, join}
use Rattle.seg_model.specs.Laws.{AreJoinsOf, AreOfFullShape, JoinsGroupInOrder, JoinsHaveFullShape, whole}
use Rattle.seg_model.specs.MergeTrees.{HasSegments, HaveSegments, MergeTree, MergeTrees, TreesReadAsOne, all_first_segments, first_segments, index, merged, no_trees, tree}

module _ (group_in_order : JoinsGroupInOrder) (full_shape : JoinsHaveFullShape) (schema : Schema) where
  -- segments join to contents
  record JoinTo (segments : List Part) (contents : Contents) : Type 0 where
    shape : AreOfFullShape schema segments
    joined : join schema segments ≡ Some contents

  -- the groups of segments join to the same contents as those that they became
  record Grouped (first last : List Part) : Type 0 where
    first_groups : List (List Part)
    last_groups : List (List Part)
    contents : List Contents
    first_joined : AreJoinsOf schema first_groups contents
    last_joined : AreJoinsOf schema last_groups contents
    first_are : flat_map (λ g. g) first_groups ≡ first
    last_are : flat_map (λ g. g) last_groups ≡ last
    shape_first : AreOfFullShape schema first
    shape_last : AreOfFullShape schema last

  both_shaped : (xs ys : List Part) → AreOfFullShape schema xs → AreOfFullShape schema ys → AreOfFullShape schema (xs ++ ys)
  both_shaped [] ys h k = k
  both_shaped (x ∷ xs) ys h k = (h.0, both_shaped xs ys h.1 k)

  same_join : (first last : List Part) → Grouped first last → join schema first ≡ join schema last
  same_join first last g =
      ap (join schema) (sym g.first_are) ∙ sym (group_in_order schema g.first_groups g.contents g.first_joined)
      ∙ group_in_order schema g.last_groups g.contents g.last_joined ∙ ap (join schema) g.last_are

  -- what was joined joins to itself
  joined_once : (segments : List Part) (c : Contents) → AreOfFullShape schema segments → join schema segments ≡ Some c → join schema (whole c ∷ []) ≡ Some c
  joined_once segments c shape e =
      group_in_order schema (segments ∷ []) (c ∷ []) (shape, e, tt) ∙ ap (join schema) (append-nil segments) ∙ e

  none : Grouped [] []
  none = record { first_groups = []; last_groups = []; contents = []; first_joined = tt; last_joined = tt; first_are = refl; last_are = refl; shape_first = tt; shape_last = tt }

  -- one more index
  one_more : (first last firsts lasts : List Part) (c : Contents) → JoinTo first c → JoinTo last c → Grouped firsts lasts → Grouped (first ++ firsts) (last ++ lasts)
  one_more first last firsts lasts c f l g = record {
    first_groups = first ∷ g.first_groups;
    last_groups = last ∷ g.last_groups;
    contents = c ∷ g.contents;
    first_joined = (f.shape, f.joined, g.first_joined);
    last_joined = (l.shape, l.joined, g.last_joined);
    first_are = ap (λ l. first ++ l) g.first_are;
    last_are = ap (λ l. last ++ l) g.last_are;
    shape_first = both_shaped first firsts f.shape g.shape_first;
    shape_last = both_shaped last lasts l.shape g.shape_last;
  }

  -- an index has in the end what joins to the same contents as what it began with
  record Left (first last : List Part) : Type 0 where
    contents : Contents
    first_joins : JoinTo first contents
    last_joins : JoinTo last contents

  merged_left : (first all last : List Part) (c : Contents) → Grouped first all → join schema all ≡ Some c → last ≡ whole c ∷ [] → Left first last
  merged_left first all last c g e is = record {
    contents = c;
    first_joins = record { shape = g.shape_first; joined = same_join first all g ∙ e };
    last_joins = subst (λ ps. JoinTo ps c) (sym is) (record { shape = (full_shape schema all c g.shape_last e, tt); joined = joined_once all c g.shape_last e });
  }

  mutual
    left : (t : MergeTree) (last : List Part) → HasSegments schema t last → Left (first_segments t) last
    left (index segments) last h =
        let own : JoinTo segments h.1.0 = record { shape = h.0; joined = h.1.1 } in
        record { contents = h.1.0; first_joins = own; last_joins = subst (λ ps. JoinTo ps h.1.0) (sym h.2) own }
    left (merged ts) last h = merged_left (all_first_segments ts) h.0 last h.1 (all_left ts h.0 h.2) h.3 h.4

    all_left : (ts : MergeTrees) (last : List Part) → HaveSegments schema ts last → Grouped (all_first_segments ts) last
    all_left no_trees last h = subst (Grouped []) (sym h) none
    all_left (tree t ts) last h =
        let mine = left t h.0 h.2 in
        subst (Grouped (first_segments t ++ all_first_segments ts)) (sym h.4)
        (one_more (first_segments t) h.0 (all_first_segments ts) h.1 mine.contents mine.first_joins mine.last_joins (all_left ts h.1 h.3))

pub trees_read_as_one : JoinsGroupInOrder → JoinsHaveFullShape → TreesReadAsOne
trees_read_as_one group_in_order full_shape schema t last h =
    let kept = left group_in_order full_shape schema t last h in
    kept.last_joins.joined ∙ sym kept.first_joins.joined
