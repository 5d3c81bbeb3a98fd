-- The text of the indexes of an input, where the directories tell their files.
use Rattle.std.proofs.Common.{◌≡◌, ◌∙◌, ℕ, ◌-◌, List, [], ◌∷◌, ◌++◌, length, map, Bool, true, false, cond, Option, None, Some, refl, sym, ap, subst, codes}
use Rattle.std.specs.Prelude.{not, replicate, unwrap_or}
use Rattle.std.specs.List.{AllByRecursion, count_by, list_all}
use Rattle.std.specs.FinMap.{empty}
use Rattle.std.proofs.lemmas.List.{append-nil}
use Rattle.std.proofs.lemmas.Option.{same_Some}
use Rattle.seg_values.specs.Tree.{Document}
use Rattle.seg_directory.specs.Files.{NamedFiles}
use Rattle.seg_meta.specs.IndexOfFiles as index
use Rattle.seg_meta.specs.IndexOfFiles.{ListedSegment, Meta}
use Rattle.seg_meta.specs.MetaMeaning.{meta_of}
use Rattle.seg_meta.specs.declared.index_meta.IndexMeta.{IndexMeta}
use Rattle.seg_model.specs.Columns.{Columns}
use Rattle.seg_model.specs.Contents.{Contents, full_reading, reading_part}
use Rattle.seg_model.specs.Fields.{Schema, Analyzer}
use Rattle.seg_model.specs.Input.{Input, input_batches, input_survivors}
use Rattle.seg_model.specs.Norms.{all_norms}
use Rattle.seg_model.specs.Operations.{Batch}
use Rattle.seg_model.proofs.Exports.{was_read}
use Rattle.seg_segment.specs.IndexForms.{segment_forms}
use Rattle.seg_segment.specs.Laws.{HoldsOneContents}
use Rattle.seg_open.specs.OpenSegment.{OpenSegment, contents_of}
use Rattle.seg_batches.specs.WrittenSegments.{AllStand, AllTellAlive, TellsAlive, all_listed, deletes_of, segment_of, segments_of}
use Rattle.seg_index_build.specs.IndexFiles.{IsOutputIndexOf, IsWorkIndexOf, output_id, undeleted, work_ids}
use Rattle.seg_index_build.proofs.Exports.{counts, IsCounted, alive_read, batches_counted}
use Rattle.seg_tool.specs.IndexTexts.{build_text, documents_text, output_text, segment, work_text}
use Rattle.seg_tool.specs.PrintedIndex.{AreReadOf, IsPrinted, IsReadOf}
use Rattle.seg_tool.specs.Printing.{opening, printed_text, read_segment_text, read_texts}
use Rattle.seg_tool.specs.declared.words.Detail.{Detail}

-- ---- one segment

module _ (detail : Detail) (label : List ℕ) where
  -- the text of contents, under an id and with marks
  abbrev text_with : Schema → ℕ → List Bool → Contents → List ℕ
  text_with schema id alive contents =
      printed_text detail schema (record { label = label; id = id; alive = alive; reading = reading_part contents })
      contents.columns contents.norms

  -- a segment with all that is read of documents
  pub segment_is : (schema : Schema) (analyzer : Analyzer) (id : ℕ) (documents : List Document) (alive : List Bool) (s : OpenSegment)
      → s.schema ≡ schema → s.id ≡ id → s.alive ≡ alive → full_reading schema analyzer documents ≡ Some (contents_of s)
      → read_segment_text label detail s ≡ documents_text detail schema analyzer label id documents alive
  segment_is schema analyzer id documents alive s same of_id marks is =
      let read = was_read schema analyzer documents (contents_of s) is in
      ap (λ c. text_with c s.id s.alive (contents_of s)) same
      ∙ ap (λ i. text_with schema i s.alive (contents_of s)) of_id
      ∙ ap (λ (m : List Bool). text_with schema id m (contents_of s)) marks
      ∙ ap (text_with schema id alive) read.is_reading
      ∙ ap (λ (o : Option Columns). printed_text detail schema (segment schema analyzer label id documents alive)
      (unwrap_or o empty) (all_norms schema analyzer documents)) (sym read.are_columns)

-- ---- all segments

module _ (law : HoldsOneContents) (detail : Detail) (schema : Schema) (analyzer : Analyzer) (files : NamedFiles) where
  -- what is read of a segment that stands for documents
  stands_as : (id : ℕ) (documents : List Document) (s : OpenSegment) (l : ListedSegment) → l.id ≡ id
      → index.StandsFor segment_forms files schema analyzer id documents → IsReadOf files schema l s
      → full_reading schema analyzer documents ≡ Some (contents_of s)
  stands_as id documents s l same stands read =
      stands.read
      ∙ ap (λ (c : Contents). Some c)
      (law files id schema stands.contents (contents_of s) stands.held (subst (λ i. segment_forms.Holds files i schema (contents_of s)) same read.holds))

  work_is : (stamp : ℕ) (ids : List ℕ) (batches : List Batch) (opened : List OpenSegment) → AllByRecursion IsCounted batches
      → AllStand schema analyzer files ids batches → AllTellAlive files stamp (segments_of ids batches)
      → AreReadOf files schema (all_listed stamp (segments_of ids batches)) opened
      → read_texts (codes "work") detail opened ≡ work_text detail schema analyzer ids batches
  work_is stamp [] batches [] counted stand tell read = refl
  work_is stamp [] batches (s ∷ opened) counted stand tell read = absurd read
  work_is stamp (id ∷ ids) [] [] counted stand tell read = refl
  work_is stamp (id ∷ ids) [] (s ∷ opened) counted stand tell read = absurd read
  work_is stamp (id ∷ ids) (b ∷ batches) [] counted stand tell read = absurd read
  work_is stamp (id ∷ ids) (b ∷ batches) (s ∷ opened) counted stand tell read =
      ap (λ xs. xs ++ read_texts (codes "work") detail opened)
      (segment_is detail (codes "work") schema analyzer id b.documents b.alive s read.0.of_schema read.0.of_id
      (alive_read files stamp id (length b.documents) b.alive s.alive counted.0 tell.0 read.0.alive)
      (stands_as id b.documents s (record { id = id; documents = length b.documents; deletes = deletes_of stamp b.alive }) refl stand.0 read.0))
      ∙ ap (λ xs. documents_text detail schema analyzer (codes "work") id b.documents b.alive ++ xs)
      (work_is stamp ids batches opened counted.1 stand.1 tell.1 read.1)

  output_is : (id : ℕ) (survivors : List Document) (opened : List OpenSegment)
      → index.StandsFor segment_forms files schema analyzer id survivors → AreReadOf files schema (undeleted id (length survivors) ∷ []) opened
      → read_texts (codes "output") detail opened ≡ output_text detail schema analyzer id survivors
  output_is id survivors [] stands read = absurd read
  output_is id survivors (s ∷ t ∷ opened) stands read = absurd read.1
  output_is id survivors (s ∷ []) stands read =
      append-nil (read_segment_text (codes "output") detail s)
      ∙ segment_is detail (codes "output") schema analyzer id survivors (replicate (length survivors) true) s read.0.of_schema read.0.of_id read.0.alive
      (stands_as id survivors s (undeleted id (length survivors)) refl stands read.0)

-- ---- both indexes

-- what was printed of files with an index of this meta
read_as : (front label : List ℕ) (detail : Detail) (files : NamedFiles) (text : List ℕ) (p : IsPrinted front label detail files text) (meta : Meta)
    → index.index_of segment_forms files ≡ Some meta → AreReadOf files meta.schema meta.segments p.opened
read_as front label detail files text p meta is =
    subst (λ (m : Meta). AreReadOf files m.schema m.segments p.opened) (same_Some (meta_of p.metas) meta (sym p.is_index ∙ is)) p.are_read

module _ (law : HoldsOneContents) (detail : Detail) (analyzer : Analyzer) (input : Input) where
  pub work_read : (front : List ℕ) (files : NamedFiles) (text : List ℕ) → IsPrinted front (codes "work") detail files text → IsWorkIndexOf analyzer input files
      → text ≡ front ++ work_text detail input.schema analyzer (work_ids input.ids) (input_batches analyzer input)
  work_read front files text p is =
      p.printed
      ∙ ap (λ xs. front ++ xs)
      (work_is law detail input.schema analyzer files (length input.operations) (work_ids input.ids) (input_batches analyzer input) p.opened
      (batches_counted input.schema analyzer 0 input.cuts input.operations) is.stand is.alive
      (read_as front (codes "work") detail files text p _ is.index_of))

  pub output_read : (front : List ℕ) (files : NamedFiles) (text : List ℕ) → IsPrinted front (codes "output") detail files text → IsOutputIndexOf analyzer input files
      → text ≡ front ++ output_text detail input.schema analyzer (output_id input.ids) (input_survivors analyzer input)
  output_read front files text p is =
      p.printed
      ∙ ap (λ xs. front ++ xs)
      (output_is law detail input.schema analyzer files (output_id input.ids) (input_survivors analyzer input) p.opened is.stands
      (read_as front (codes "output") detail files text p _ is.index_of))

  -- the text of both
  pub both_read : (work_files output_files : NamedFiles) (work text : List ℕ) → IsPrinted (opening detail) (codes "work") detail work_files work
      → IsPrinted work (codes "output") detail output_files text → IsWorkIndexOf analyzer input work_files → IsOutputIndexOf analyzer input output_files
      → text ≡ build_text detail analyzer input
  both_read work_files output_files work text p q is output_index =
      output_read work output_files text q output_index
      ∙ ap (λ xs. xs ++ output_text detail input.schema analyzer (output_id input.ids) (input_survivors analyzer input)) (work_read (opening detail) work_files work p is)

-- ---- segments that stand for documents are whole

module _ (schema : Schema) (analyzer : Analyzer) (files : NamedFiles) where
  agrees : (stamp id : ℕ) (batch : Batch) (t : Bool) → IsCounted batch
      → TellsAlive files id (length batch.documents) batch.alive (cond t None (Some (record { number = count_by not batch.alive; stamp = stamp })))
      → index.DeletesAgree segment_forms files (record { id = id; documents = length batch.documents; deletes = deletes_of stamp batch.alive })
      (cond t None (Some (record { number = count_by not batch.alive; stamp = stamp })))
  agrees stamp id batch true counted tell = tt
  agrees stamp id batch false counted tell = (batch.alive, tell, counted, refl)

  whole_one : (stamp id : ℕ) (batch : Batch) → IsCounted batch → index.StandsFor segment_forms files schema analyzer id batch.documents
      → TellsAlive files id (length batch.documents) batch.alive (deletes_of stamp batch.alive)
      → index.IsWhole segment_forms files schema (record { id = id; documents = length batch.documents; deletes = deletes_of stamp batch.alive })
  whole_one stamp id batch counted stands tell = record {
    contents = stands.contents;
    held = stands.held;
    number = counts schema analyzer batch.documents stands.contents stands.read;
    deletes_agree = agrees stamp id batch (list_all (λ b. b) batch.alive) counted tell;
  }

  all_whole : (stamp : ℕ) (ids : List ℕ) (batches : List Batch) → AllByRecursion IsCounted batches
      → AllStand schema analyzer files ids batches → AllTellAlive files stamp (segments_of ids batches)
      → AllByRecursion (index.IsWhole segment_forms files schema) (all_listed stamp (segments_of ids batches))
  all_whole stamp [] batches counted stand tell = tt
  all_whole stamp (id ∷ ids) [] counted stand tell = tt
  all_whole stamp (id ∷ ids) (batch ∷ batches) counted stand tell =
      (whole_one stamp id batch counted.0 stand.0 tell.0, all_whole stamp ids batches counted.1 stand.1 tell.1)

module _ (analyzer : Analyzer) (input : Input) (files : NamedFiles) where
  -- those of a work index
  pub work_whole : IsWorkIndexOf analyzer input files
      → AllByRecursion (index.IsWhole segment_forms files input.schema) (all_listed (length input.operations) (segments_of (work_ids input.ids) (input_batches analyzer input)))
  work_whole is =
      all_whole input.schema analyzer files (length input.operations) (work_ids input.ids) (input_batches analyzer input)
      (batches_counted input.schema analyzer 0 input.cuts input.operations) is.stand is.alive

  -- that of an output index
  pub output_whole : IsOutputIndexOf analyzer input files
      → AllByRecursion (index.IsWhole segment_forms files input.schema) (undeleted (output_id input.ids) (length (input_survivors analyzer input)) ∷ [])
  output_whole is = (
    record {
      contents = is.stands.contents;
      held = is.stands.held;
      number = counts input.schema analyzer (input_survivors analyzer input) is.stands.contents is.stands.read;
      deletes_agree = tt;
    },
    tt,
  )
