-- The parts that were taken are determined by the answers.
use Rattle.std.proofs.Common.{◌≡◌, ◌∙◌, ℕ, List, [], ◌∷◌, refl, sym, ap, subst}
use Rattle.seg_common.specs.declared.name.FileName.TheVariants.{Alive, Part}
use Rattle.seg_common.specs.declared.name.SegmentComponent.TheVariants.{Terms, Postings, Positions, Store, FastFields, FieldNorms}
use Rattle.seg_directory.specs.declared.answer.Answer.{Answer}
use Rattle.seg_model.specs.Contents.{Contents}
use Rattle.seg_model.specs.Fields.{Schema}
use Rattle.seg_model.specs.Join as join
use Rattle.seg_model.specs.Operations.{filtered_by}
use Rattle.seg_segment.proofs.Exports.{one}
use Rattle.seg_segment.specs.Laws.{FilesSpellOneContents}
use Rattle.seg_segment.specs.SpelledContents.{Spell}
use Rattle.seg_segment.specs.declared.segment_files.SegmentFiles.{SegmentFiles}
use Rattle.seg_index_build.specs.TakenBatches.{AnswersDetermineParts, ArePartsOf, IsPartOf, NamedBatch, WereRead, last_read, marks_read}

same_files : (id : ℕ) (answers : List Answer) (a b : SegmentFiles) → WereRead id a answers → WereRead id b answers → a ≡ b
same_files id answers a b p q =
    let terms = one (last_read (Part id Terms) answers) a.terms b.terms p.0 q.0 in
    let store = one (last_read (Part id Store) answers) a.store b.store p.1.0 q.1.0 in
    let postings = one (last_read (Part id Postings) answers) a.postings b.postings p.1.1.0 q.1.1.0 in
    let positions = one (last_read (Part id Positions) answers) a.positions b.positions p.1.1.1.0 q.1.1.1.0 in
    let fast = one (last_read (Part id FastFields) answers) a.fast_fields b.fast_fields p.1.1.1.1.0 q.1.1.1.1.0 in
    let norms = one (last_read (Part id FieldNorms) answers) a.field_norms b.field_norms p.1.1.1.1.1.0 q.1.1.1.1.1.0 in
    λ j. record { terms = terms j; store = store j; postings = postings j; positions = positions j; fast_fields = fast j; field_norms = norms j }

module _ (law : FilesSpellOneContents) (schema : Schema) (stamp : ℕ) (answers : List Answer) where
  one_part : (batch : NamedBatch) (p q : join.Part) → IsPartOf schema stamp answers batch p
      → IsPartOf schema stamp answers batch q → p ≡ q
  one_part batch p q h k =
      let files = same_files batch.id answers h.files k.files h.read k.read in
      let contents =
      law schema k.files p.contents q.contents (subst (λ (f : SegmentFiles). Spell schema f p.contents) files h.spell)
      k.spell in
      let marks =
      one (marks_read (Alive batch.id stamp) p.contents.documents answers) h.marks k.marks h.marked
      (ap (λ (c : Contents). marks_read (Alive batch.id stamp) c.documents answers) contents ∙ k.marked) in
      let alive = h.cut ∙ ap (filtered_by batch.keeps) marks ∙ sym k.cut in
      λ j. record { contents = contents j; alive = alive j }

  all_one_way : (batches : List NamedBatch) (parts others : List join.Part) → ArePartsOf schema stamp answers batches parts
      → ArePartsOf schema stamp answers batches others → parts ≡ others
  all_one_way [] [] [] h k = refl
  all_one_way [] [] (q ∷ others) h k = absurd k
  all_one_way [] (p ∷ parts) others h k = absurd h
  all_one_way (batch ∷ batches) [] others h k = absurd h
  all_one_way (batch ∷ batches) (p ∷ parts) [] h k = absurd k
  all_one_way (batch ∷ batches) (p ∷ parts) (q ∷ others) h k =
      let first = one_part batch p q h.0 k.0 in
      let rest = all_one_way batches parts others h.1 k.1 in
      λ j. first j ∷ rest j

pub determined : FilesSpellOneContents → AnswersDetermineParts
determined law schema stamp answers batches parts others h k = all_one_way law schema stamp answers batches parts others h k
