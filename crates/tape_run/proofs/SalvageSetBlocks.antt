-- The blocks of a file of a valid set, each with whether it was recovered, and its records.
use Rattle.std.proofs.Common.{◌≡◌, ℕ, ◌+◌, true, false, List, [], ◌∷◌, ◌++◌, length, Option, refl}
use Rattle.std.proofs.Common.{sym, ap, subst, ◌∙◌, append_assoc, inl, inr, ◌≢◌}
use Rattle.std.specs.List.{AllByRecursion}
use Rattle.tape_blocks.specs.{Block.Holds, Judged.begun_behind, Spans.InOrder}
use Rattle.tape_blocks.specs.Tight.{Filled, parts_of_all}
use Rattle.tape_set.specs.Layout.{FileSet, Section, Placed, numbered}
use Rattle.tape_set.specs.{Lawful.FileForm, Lawful.HasForm, Before.blocks_of_all}
use Rattle.tape_set.specs.{Before.section_parts, Reading.Reading}
use Rattle.tape_set.proofs.Everywhere.{every_stands, every_front, every-append}
use Rattle.tape_set.proofs.{Numbering.placed, FileParts.order_front}
use Rattle.tape_run.specs.declared.salvage.copies.SectionCopy.{SectionCopy}
use Rattle.tape_run.specs.{SalvageRecords.nothing, SalvageBlocks.Salvaged}
use Rattle.tape_run.specs.SalvageWhole.{Blocks, IsBlock, all_parts, piece_after}
use Rattle.tape_run.specs.SalvageSections.{IsRead, filled_of}
use Rattle.tape_run.specs.SalvageSets.{IsRanked, IsHad, AreHad, joined, IsRecovered}
use Rattle.tape_run.proofs.SalvageWhole.{gives_whole, all_whole}
use Rattle.tape_run.proofs.{SalvageGrows.never_less, SalvageFile.AreRead}

filled_append : (bs cs : Blocks) → filled_of (bs ++ cs) ≡ filled_of bs ++ filled_of cs
filled_append [] cs = refl
filled_append (b ∷ bs) cs = ap (λ (l : List Filled). b.1 ∷ l) (filled_append bs cs)

parts_are : (bs : Blocks) → all_parts bs ≡ parts_of_all (filled_of bs)
parts_are [] = refl
parts_are (b ∷ bs) = ap (λ (l : List _). b.1.parts ++ l) (parts_are bs)

pub of_filled : (P : Filled → Type 0) (bs : Blocks) → AllByRecursion P (filled_of bs)
    → AllByRecursion (λ b. P b.1) bs
of_filled P [] all = tt
of_filled P (b ∷ bs) (h, all) = (h, of_filled P bs all)

module _ (set : FileSet) (file : ℕ) (f : List Section) (all : List (Option Reading))
    (copies : List SectionCopy) (form : FileForm) where
  filled_one : (p : Placed) (b : Blocks) → IsHad set all copies p b → filled_of b ≡ p.section.blocks
  filled_one p b (inl (c, r, best, image, x, ranks)) =
      let read = every_stands (IsRead set.set_id (length set.volumes)) x.volume.reads x.section
      x.volume.are_read x.among in
      ap filled_of x.blocks ∙ read.blocks ∙ ap (λ (q : Placed). q.section.blocks) x.is
  filled_one p b (inr x) = x.blocks

  filled_had : (i : ℕ) (ss : List Section) (bs : List Blocks)
      → AreHad set all copies (numbered file i ss) bs → filled_of (joined bs) ≡ blocks_of_all ss
  filled_had i [] [] h = refl
  filled_had i [] (b ∷ bs) h = absurd h
  filled_had i (w ∷ ss) [] h = absurd h
  filled_had i (w ∷ ss) (b ∷ bs) (h, hs) = filled_append b (joined bs)
      ∙ ap (λ (x : List Filled). x ++ filled_of (joined bs)) (filled_one (placed file i w) b h)
      ∙ ap (λ (x : List Filled). w.blocks ++ x) (filled_had (i + 1) ss bs hs)

  abbrev HasParts : Filled → Type 0
  HasParts b = Holds form.format form.rec_len form.offset b.bytes b.parts

  held : (ss : List Section) → AllByRecursion (HasForm form) ss
      → AllByRecursion HasParts (blocks_of_all ss)
  held [] h = tt
  held (w ∷ ss) (h, hs) = every-append HasParts w.blocks (blocks_of_all ss) h.held (held ss hs)

  read_blocks_hold : (bs : Blocks) → AllByRecursion (λ b. HasParts b.1) bs → AreRead bs
      → AllByRecursion (IsBlock form) bs
  read_blocks_hold [] h r = tt
  read_blocks_hold (b ∷ bs) (h, hs) (r, rs) = (
    record { holds = h; some = λ off. absurd (never (sym r ∙ off)) },
    read_blocks_hold bs hs rs,
  )
    where
      never : true ≡ false → ⊥
      never e = cc e

  blocks_hold : (bs : Blocks) → AllByRecursion (λ b. HasParts b.1) bs
      → AllByRecursion (λ b. b.0 ≡ false → b.1.parts ≢ []) bs → AllByRecursion (IsBlock form) bs
  blocks_hold [] h some = tt
  blocks_hold (b ∷ bs) (h, hs) (s, ss) = (record { holds = h; some = s }, blocks_hold bs hs ss)

  pub recovered : AllByRecursion (HasForm form) f → AllByRecursion (IsRanked set all) copies
      → InOrder false (section_parts f) false
      → (g : Salvaged) (bs : List Blocks) → AreHad set all copies (numbered file 1 f) bs
      → g.piece.done ≡ (piece_after form nothing (joined bs)).done
      → (g.missing ≡ false → AreRead (joined bs)) → IsRecovered set file f all copies g
  recovered forms ranked order g bs had done none =
      let b = joined bs in
      let filled = filled_had 1 f bs had in
      let hold = of_filled HasParts b (subst (AllByRecursion HasParts) (sym filled)
      (held f forms)) in
      let parts : all_parts b ≡ section_parts f = parts_are b ∙ ap parts_of_all filled in
      let fine : InOrder false (all_parts b) false =
      subst (λ ps. InOrder false ps false) (sym parts) order in
      record {
        form = form;
        is_form = forms;
        ranked = ranked;
        sections = bs;
        had = had;
        whole = λ some. done ∙ gives_whole form b false (blocks_hold b hold some) fine;
        up_to_gap = λ front more splits read.
            let start = every_front (λ b. HasParts b.1) front more
            (subst (AllByRecursion (λ b. HasParts b.1)) splits hold) in
            let both : all_parts b ≡ all_parts front ++ all_parts more =
            ap all_parts splits ∙ parts_append front more in
            let o = order_front false false (all_parts front) (all_parts more)
            (subst (λ ps. InOrder false ps false) both fine) in
            let r = never_less form front more (begun_behind false (all_parts front))
            (read_blocks_hold front start read) read o in
            (r.0, (r.1.0, done ∙ ap (λ l. (piece_after form nothing l).done) splits ∙ r.1.1));
        complete = λ e.
            let read = none e in (
              read,
              done ∙ gives_whole form b false (read_blocks_hold b hold read) fine
                  ∙ all_whole b read fine ∙ parts,
            );
      }
    where
      parts_append : (bs cs : Blocks) → all_parts (bs ++ cs) ≡ all_parts bs ++ all_parts cs
      parts_append [] cs = refl
      parts_append (b ∷ bs) cs = ap (λ (l : List _). b.1.parts ++ l) (parts_append bs cs)
          ∙ sym (append_assoc b.1.parts (all_parts bs) (all_parts cs))
