-- Files in a directory, and the contents that they spell.
use Rattle.std.proofs.Common.{◌≡◌, ℕ, List, ◌∙◌, subst}
use Rattle.std.specs.FinMap.{get}
use Rattle.seg_common.specs.declared.name.FileName.TheVariants.{Part}
use Rattle.seg_common.specs.declared.name.SegmentComponent.{SegmentComponent}
use Rattle.seg_common.specs.declared.name.SegmentComponent.TheVariants.{Terms, Store, Postings, Positions, FastFields, FieldNorms}
use Rattle.seg_values.specs.Tree.{Document}
use Rattle.seg_model.specs.Contents.{Contents}
use Rattle.seg_model.specs.Fields.{Schema, Analyzer}
use Rattle.seg_meta.specs.IndexOfFiles as index
use Rattle.seg_directory.specs.Files.{NamedFiles}
use Rattle.seg_segment.specs.IndexForms.{segment_forms}
use Rattle.seg_segment.specs.FileContents.{Holds}
use Rattle.seg_segment.specs.Laws.{HeldFilesSpell, HoldsOneContents}
use Rattle.seg_segment.specs.SegmentFiles.{HasFiles}
use Rattle.seg_segment.specs.SpelledContents.{Spell}
use Rattle.seg_segment.specs.DocumentsOfFiles.{StandFor}
use Rattle.seg_segment.specs.declared.segment_files.SegmentFiles.{SegmentFiles}
use Rattle.seg_segment.proofs.UniqueContents.{one, one_spelled}

-- the files of an id that are there are one set
same_files : (directory : NamedFiles) (id : ℕ) (a b : SegmentFiles) → HasFiles directory id a → HasFiles directory id b → a ≡ b
same_files directory id a b p q =
    let terms = one (get directory (Part id Terms)) a.terms b.terms p.0 q.0 in
    let store = one (get directory (Part id Store)) a.store b.store p.1.0 q.1.0 in
    let postings = one (get directory (Part id Postings)) a.postings b.postings p.1.1.0 q.1.1.0 in
    let positions = one (get directory (Part id Positions)) a.positions b.positions p.1.1.1.0 q.1.1.1.0 in
    let fast = one (get directory (Part id FastFields)) a.fast_fields b.fast_fields p.1.1.1.1.0 q.1.1.1.1.0 in
    let norms = one (get directory (Part id FieldNorms)) a.field_norms b.field_norms p.1.1.1.1.1.0 q.1.1.1.1.1.0 in
    λ j. record { terms = terms j; store = store j; postings = postings j; positions = positions j; fast_fields = fast j; field_norms = norms j }

pub held_spells : HeldFilesSpell
held_spells directory id schema files contents has held =
    subst (λ (f : SegmentFiles). Spell schema f contents) (same_files directory id held.files files held.there has) held.spelled

pub one_held : HoldsOneContents
one_held directory id schema a b h k = one_spelled schema h.files a b h.spelled (held_spells directory id schema h.files b h.there k)

-- files that are there stand for their documents there
pub stands_there : (schema : Schema) (analyzer : Analyzer) (documents : List Document) (files : SegmentFiles) (directory : NamedFiles) (id : ℕ) → StandFor schema analyzer documents files → HasFiles directory id files → index.StandsFor segment_forms directory schema analyzer id documents
stands_there schema analyzer documents files directory id stand has = record {
  contents = stand.contents;
  read = stand.read;
  held = record { files = files; there = has; spelled = stand.spelled };
}

-- what files hold stays where the six files stay
pub held_on : (id : ℕ) (old new : NamedFiles) → ((c : SegmentComponent) → get new (Part id c) ≡ get old (Part id c)) → (schema : Schema) (contents : Contents) → Holds old id schema contents → Holds new id schema contents
held_on id old new kept schema contents h = record {
  files = h.files;
  there = (
    kept Terms ∙ h.there.0,
    (
      kept Store ∙ h.there.1.0,
      (
        kept Postings ∙ h.there.1.1.0,
        (kept Positions ∙ h.there.1.1.1.0, (kept FastFields ∙ h.there.1.1.1.1.0, (kept FieldNorms ∙ h.there.1.1.1.1.1.0, tt))),
      ),
    ),
  );
  spelled = h.spelled;
}
