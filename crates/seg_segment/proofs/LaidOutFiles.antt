-- The files that a serializer of a segment makes of what it has.
use Rattle.std.proofs.Common.{◌≡◌, ◌≢◌, ℕ, List, Option, Some, None, refl, sym, ap, ◌∙◌, subst}
use Rattle.std.specs.Prelude.{IfSome}
use Rattle.std.specs.Option.{option_map}
use Rattle.seg_directory.specs.CompositeFiles.{composite}
use Rattle.seg_store.specs.Block.{Block}
use Rattle.seg_store.specs.Store.{store_of}
use Rattle.seg_store.specs.WriterBlocks.{Taken, all_blocks}
use Rattle.seg_postings.specs.declared.inverted_index_serializer.PostingsFiles.{PostingsFiles}
use Rattle.seg_segment.specs.declared.segment_files.SegmentFiles.{SegmentFiles}
use Rattle.seg_segment.specs.MadeFiles.{AreOfParts}
use Rattle.seg_segment.specs.SegmentSerializers.{Serializing, IsNormsFile, IsLaidOut}

-- what there is of an option that isn't nothing
there : {X : Type 0} (P : X → Type 0) (o : Option X) → IfSome o P → o ≢ None → (x : X) × (o ≡ Some x) × P x
there P (Some x) h some = (x, refl, h)
there P None h some = absurd (some refl)

read : (o : Option Taken) (file : Option (List Block)) → file ≡ option_map all_blocks o → o ≢ None → (w : Taken) × (o ≡ Some w) × (file ≡ Some (all_blocks w))
read (Some w) file is some = (w, refl, is)
read None file is some = absurd (some refl)

pub laid_out : (s : Serializing) (terms : PostingsFiles) (store fast norms : List ℕ) (files : SegmentFiles) → AreOfParts terms store fast norms files
    → IfSome s.postings (λ f. (composite terms.terms.items ≡ Some f.terms) × (composite terms.postings.items ≡ Some f.postings) × (composite terms.positions.items ≡ Some f.positions)) → s.postings ≢ None
    → store_of store ≡ option_map all_blocks s.store → s.store ≢ None → fast ≡ s.fast → IsNormsFile s.norms norms → IsLaidOut s files
laid_out s terms store fast norms files are parts kept blocks taken same_fast norms_file =
    let f = there (λ f. (composite terms.terms.items ≡ Some f.terms) × (composite terms.postings.items ≡ Some f.postings) × (composite terms.positions.items ≡ Some f.positions)) s.postings parts kept in
    let w = read s.store (store_of store) blocks taken in
    record {
      fields = f.0;
      kept = f.1;
      terms = ap composite are.terms_are ∙ f.2.0;
      postings = ap composite are.postings_are ∙ f.2.1;
      positions = ap composite are.positions_are ∙ f.2.2;
      taken = w.0;
      stored = w.1;
      store = ap store_of are.store_is ∙ w.2;
      fast = are.fast_is ∙ same_fast;
      norms = subst (IsNormsFile s.norms) (sym are.norms_are) norms_file;
    }
