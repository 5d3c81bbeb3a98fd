-- Documents that are taken are sound where their texts are UTF-8.
use Rattle.std.proofs.Common.{◌≡◌, true, List, [], ◌∷◌}
use Rattle.std.specs.List.{list_all, AllByRecursion}
use Rattle.std.proofs.lemmas.Bool.{and_parts}
use Rattle.seg_values.specs.Tree.{Document}
use Rattle.seg_values.specs.Utf8Values.{IsUtf8Document}
use Rattle.seg_model.specs.TextDocuments.{is_taken}
use Rattle.seg_model.specs.Fields.{Schema, Analyzer}
use Rattle.seg_model.specs.DocumentCheck.{IsSound}
use Rattle.seg_build.proofs.TakenDocuments.{passed}

module _ (schema : Schema) (analyzer : Analyzer) where
  sound_document : (d : Document) → is_taken schema analyzer d ≡ true → IsUtf8Document d → IsSound schema d
  sound_document d taken utf8 = let h = passed schema analyzer d taken in record { taken = h.taken; json = h.json; utf8 = utf8 }

  pub taken_are_sound : (ds : List Document) → list_all (is_taken schema analyzer) ds ≡ true → AllByRecursion IsUtf8Document ds → AllByRecursion (IsSound schema) ds
  taken_are_sound [] h utf8 = tt
  taken_are_sound (d ∷ ds) h utf8 =
      let two = and_parts (is_taken schema analyzer d) (list_all (is_taken schema analyzer) ds) h in
      (sound_document d two.0 utf8.0, taken_are_sound ds two.1 utf8.1)
