use Rattle.std.proofs.Common.{◌≡◌, ◌<◌, ◌∙◌, List, [], ◌∷◌, ◌++◌, ℕ, suc, refl, sym, ap, subst, arith}
use Rattle.std.specs.List.{flat_map, join_with_byte}
use Rattle.seg_column_writer.specs.DocumentRows.{with_values}
use Rattle.seg_fastfield.specs.FastLeaves.{entry_leaf}
use Rattle.seg_common.specs.JsonPaths.{written_key}
use Rattle.seg_values.specs.Tree.{levels, array, object, trees_from, members_from}
use Rattle.seg_values.specs.ValueTrees.{tree_of}
use Rattle.seg_values.proofs.Exports.{levels-at, member_levels-at}
use Rattle.seg_model.specs.Fields.{is_json}
use Rattle.seg_model.specs.Leaves.{leaves_at, level_in_array}
use Rattle.seg_model.specs.AcceptedTrees.{is_own_array}
use Rattle.seg_paths.specs.NumberedLeaves.{leaf_in}
use Rattle.seg_fastfield.specs.RecordedLeaves.{IsPlaceOf}
use Rattle.seg_fastfield.proofs.PathNumbers.{can_be_above, key_after, path_number, still_then, text_number}
use Rattle.seg_fastfield.proofs.ColumnIds.{leaf_column}
use Rattle.seg_fastfield.proofs.DocumentSteps.{can_record_leaf, in_level, popped, recorded_deep, recorded_leaf}
use Rattle.seg_fastfield.proofs.LoopTurns.{is_leaf, member_turn, object_json, takes_tree, tree_turn}
use Rattle.seg_fastfield.proofs.LeafRecords.{place_below, place_in_array}
use Rattle.seg_fastfield.proofs.row_recorder.RowRecorder.+record_tree.Goals as goal
use Rattle.std.specs.Prelude.{◌||◌}

pub returns-then-level-gt-MOST_LEVELS-clause-recorded :
    goal.returns-then-level-gt-MOST_LEVELS-clause-recorded
returns-then-level-gt-MOST_LEVELS-clause-recorded g t c keys place = (
  refl,
  recorded_deep (g.Z.Analyzers.tokens_of c.args.self.now.analyzers.now) c.args.self.now.row c.args.entry.now keys
      c.args.level c.args.path.now (tree_of c.args.value.now) c.args.columns.now place c.if-level-gt-MOST_LEVELS.true,
)

pub record_tree-requires : goal.record_tree-requires
record_tree-requires g t c =
    let below : levels (tree_of c.get.result.now) < levels (array (trees_from c.in-Array.values)) =
    levels-at c.in-Array.values c.loop-at.at (tree_of c.get.result.now) c.get.ensures in
    let is = ap (λ v. levels (tree_of v)) c.in-Array.is in
    let entry = c.args.entry.now in
    let inv = c.loop-at.invariant in λ κs lives. (
      omega (arith, c.decreases, is, below),
      (
        lives,
        (
          record {
            under_way = inv.under_way;
            field = c.requires.can.field;
            known_is = c.requires.can.known_is;
            takes = takes_tree entry c.in-Array.values c.loop-at.at (tree_of c.get.result.now) c.get.ensures
                (sym (ap (λ v. is_json entry.kind || is_own_array entry.kind (tree_of v)) c.in-Array.is)
                ∙ c.requires.can.takes);
            keys = c.requires.can.keys;
            place = subst (IsPlaceOf entry c.requires.can.keys c.level_in_array-inner.result) (sym inv.path)
                (subst (λ (l : ℕ). IsPlaceOf entry c.requires.can.keys l c.args.path.now)
                (sym c.level_in_array-inner.ensures)
                (place_in_array entry c.requires.can.keys c.args.level c.args.path.now c.requires.can.place));
          },
          (
            c.requires.column,
            (
              inv.known.0,
              path_number c.loop-at.known.paths c.args.place.number c.args.path.now c.loop-at.path inv.path
                  (inv.known.1 c.args.place.number (join_with_byte 1 c.args.path.now.keys) c.requires.known.1),
            ),
          ),
        ),
      ),
    )

pub loop-at-preserved : goal.loop-at-preserved
loop-at-preserved g t c =
    let entry = c.args.entry.now in
    let inv = c.loop-at.invariant in
    let analyzer = g.Z.Analyzers.tokens_of c.args.self.now.analyzers.now in
    let inner = c.level_in_array-inner.ensures in
    let there = λ (keys : List (List ℕ)) (place : IsPlaceOf entry keys c.args.level c.args.path.now).
    c.in_ok-record_tree-in-Array.ensures.recorded keys
    (subst (IsPlaceOf entry keys c.level_in_array-inner.result) (sym inv.path)
    (subst (λ (l : ℕ). IsPlaceOf entry keys l c.args.path.now) (sym inner)
    (place_in_array entry keys c.args.level c.args.path.now place))) in
    record {
      path = (there c.requires.can.keys c.requires.can.place).0 ∙ inv.path;
      recorded = λ keys place.
          tree_turn c.args.self.now.row analyzer entry keys (level_in_array c.args.level) (tree_of c.get.result.now)
          c.loop-at.columns c.record_tree.new.columns c.in-Array.values c.loop-at.at c.get.ensures
          (subst (λ (l : ℕ). c.record_tree.new.columns ≡ with_values c.args.self.now.row
          (flat_map (entry_leaf analyzer entry) (leaves_at keys l (tree_of c.get.result.now))) c.loop-at.columns) inner
          (there keys place).1)
          ∙ inv.recorded keys place;
      under_way = c.record_tree.ensures.under_way;
      known = still_then c.args.known.now c.loop-at.known c.record_tree.new.known c.loop-at.columns
          c.record_tree.new.columns inv.known c.in_ok-record_tree-in-Array.ensures.known;
    }

pub key_number-requires : goal.key_number-requires
key_number-requires g t c =
    let inv = c.loop-index.invariant in
    can_be_above c.loop-index.known.paths c.args.place.number (join_with_byte 1 c.args.path.now.keys)
    (inv.known.1 c.args.place.number (join_with_byte 1 c.args.path.now.keys) c.requires.known.1)

pub record_tree-requires-in-loop-index : goal.record_tree-requires-in-loop-index
record_tree-requires-in-loop-index g t c =
    let key = c.get-in-loop-index.result.0.now in
    let child = c.get-in-loop-index.result.1.now in
    let below : levels (tree_of child) < levels (object (members_from c.in-Object.members)) =
    member_levels-at c.in-Object.members c.loop-index.index (key, tree_of child) c.get-in-loop-index.ensures in
    let is = ap (λ v. levels (tree_of v)) c.in-Object.is in
    let entry = c.args.entry.now in
    let inv = c.loop-index.invariant in
    let json = object_json entry
    (sym (ap (λ v. is_json entry.kind || is_own_array entry.kind (tree_of v)) c.in-Object.is)
    ∙ c.requires.can.takes) in λ κs lives. (
      omega (arith, c.decreases, is, below),
      (
        lives,
        (
          record {
            under_way = inv.under_way;
            field = c.requires.can.field;
            known_is = c.requires.can.known_is;
            takes = ap (λ b. b || is_own_array entry.kind (tree_of child)) json;
            keys = c.requires.can.keys ++ key ∷ [];
            place = place_below entry c.requires.can.keys c.args.level key c.loop-index.path c.push_key.new.path
                (subst (IsPlaceOf entry c.requires.can.keys c.args.level) (sym inv.path) c.requires.can.place) json
                c.in_ok-push_key-in-Object.ensures;
          },
          (
            c.requires.column,
            (
              c.in_ok-number-in-Object.ensures.more.known c.loop-index.columns inv.known.0,
              key_after entry c.requires.can.keys c.loop-index.path c.push_key.new.path key
                  c.in_ok-number-in-Object.number c.key_number.new.self.paths
                  (inv.path ∙ c.requires.can.place.path_is) c.in_ok-push_key-in-Object.ensures
                  (c.in_ok-number-in-Object.ensures.number (join_with_byte 1 c.loop-index.path.keys)
                  (path_number c.loop-index.known.paths c.args.place.number c.args.path.now c.loop-index.path inv.path
                  (inv.known.1 c.args.place.number (join_with_byte 1 c.args.path.now.keys) c.requires.known.1))),
            ),
          ),
        ),
      ),
    )

pub loop-index-preserved : goal.loop-index-preserved
loop-index-preserved g t c =
    let key = c.get-in-loop-index.result.0.now in
    let child = c.get-in-loop-index.result.1.now in
    let entry = c.args.entry.now in
    let inv = c.loop-index.invariant in
    let analyzer = g.Z.Analyzers.tokens_of c.args.self.now.analyzers.now in
    let row = c.args.self.now.row in
    let pushed = c.in_ok-push_key-in-Object.ensures in
    let json = object_json entry
    (sym (ap (λ v. is_json entry.kind || is_own_array entry.kind (tree_of v)) c.in-Object.is) ∙ c.requires.can.takes) in
    let there = λ (keys : List (List ℕ)) (place : IsPlaceOf entry keys c.args.level c.args.path.now).
    c.in_ok-record_tree-in-Object.ensures.recorded (keys ++ key ∷ [])
    (place_below entry keys c.args.level key c.loop-index.path c.push_key.new.path
    (subst (IsPlaceOf entry keys c.args.level) (sym inv.path) place) json pushed) in
    record {
      path = popped c.loop-index.path c.record_tree-in-loop-index.new.path c.pop.new.self
          (written_key c.loop-index.path.expand_dots key) ((there c.requires.can.keys c.requires.can.place).0
          ∙ pushed) c.pop.ensures
          ∙ inv.path;
      recorded = λ keys place.
          member_turn row analyzer entry keys (suc c.args.level) (tree_of child) c.loop-index.columns
          c.record_tree-in-loop-index.new.columns c.in-Object.members c.loop-index.index key c.get-in-loop-index.ensures
          (in_level analyzer row entry (keys ++ key ∷ []) c.args.level (tree_of child) c.loop-index.columns
          c.record_tree-in-loop-index.new.columns (there keys place).1)
          ∙ inv.recorded keys place;
      under_way = c.record_tree-in-loop-index.ensures.under_way;
      known = still_then c.args.known.now c.loop-index.known c.record_tree-in-loop-index.new.known c.loop-index.columns
          c.record_tree-in-loop-index.new.columns inv.known (
            c.in_ok-record_tree-in-Object.ensures.known.0,
            λ number path is. c.in_ok-record_tree-in-Object.ensures.known.1 number path
                (c.in_ok-number-in-Object.ensures.more.numbers number path is),
          );
    }

pub record_leaf-requires-clause-can : goal.record_leaf-requires-clause-can
record_leaf-requires-clause-can g t c =
    let t = tree_of c.args.value.now in
    can_record_leaf (g.Z.Analyzers.knows c.args.self.now.analyzers.now) c.args.self.now.schema.now c.args.self.now.row
    c.args.entry.now c.args.path.now c.args.level t (leaf_in t) c.as_str.result.now c.args.columns.now c.requires.can
    (is_leaf c.args.value.now c.in_default.not-Array c.in_default.not-Object) c.as_str.ensures

pub returns-in_default-clause-recorded : goal.returns-in_default-clause-recorded
returns-in_default-clause-recorded g t c keys place =
    let t = tree_of c.args.value.now in
    recorded_leaf (g.Z.Analyzers.tokens_of c.args.self.now.analyzers.now) c.args.self.now.row c.args.entry.now keys
    c.args.level c.args.path.now t (leaf_in t) c.as_str.result.now c.args.columns.now c.record_leaf.new.columns
    c.record_leaf.result c.requires.can.field.fast c.if-level-gt-MOST_LEVELS.false place
    (is_leaf c.args.value.now c.in_default.not-Array c.in_default.not-Object) c.as_str.ensures
    c.record_leaf.ensures.recorded

pub record_leaf-requires-clause-column : goal.record_leaf-requires-clause-column
record_leaf-requires-clause-column g t c =
    let t = tree_of c.args.value.now in
    leaf_column (g.Z.Analyzers.knows c.args.self.now.analyzers.now) c.args.self.now.schema.now c.args.self.now.row
    c.args.entry.now c.args.path.now c.args.level t (leaf_in t) c.as_str.result.now c.args.columns.now
    c.args.place.column c.requires.can c.requires.column
    (is_leaf c.args.value.now c.in_default.not-Array c.in_default.not-Object) c.as_str.ensures

pub record_leaf-requires-clause-known : goal.record_leaf-requires-clause-known
record_leaf-requires-clause-known g t c = (
  c.requires.known.0,
  text_number c.args.known.now.paths c.args.place.number c.args.path.now c.as_str.result.now
      c.as_str.ensures c.requires.known.1,
)
