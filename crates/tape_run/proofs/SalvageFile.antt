-- A file recovered from readings of volumes of a valid set.
use Rattle.std.proofs.Common.{◌≡◌, ℕ, ◌&&◌, nat_lt, Bool, true, false, List, [], ◌∷◌, ◌++◌, Option}
use Rattle.std.proofs.Common.{Some, refl, sym, ap, subst, ◌∙◌, arith, append-nil, append_assoc, ◌+◌}
use Rattle.std.proofs.{Common.if◌then◌else◌, Common.is_some, lemmas.Bool.Decides.nat_tests}
use Rattle.std.proofs.lemmas.Bool.{or_parts}
use Rattle.std.specs.List.{AllByRecursion}
use Rattle.tape_set.specs.Lawful.{FileForm}
use Rattle.tape_set.proofs.Everywhere.{every-append}
use Rattle.tape_run.specs.declared.salvage.walk.{Closing.Closing, Expected.TheVariants.Outside}
use Rattle.tape_run.specs.declared.salvage.Content.TheVariants.{Records}
use Rattle.tape_run.specs.declared.salvage.copies.SectionCopy.{SectionCopy}
use Rattle.tape_run.specs.{SalvageWalk.expected_after, SalvageRecords.Piece, SalvageRecords.nothing}
use Rattle.tape_run.specs.{SalvageCopies.wrong_count, SalvageImage.read_in}
use Rattle.tape_run.specs.{SalvageImage.salvaged_from, SalvageWhole.Blocks}
use Rattle.tape_run.specs.{SalvageWhole.piece_after, SalvageSections.SectionRead}
use Rattle.tape_run.specs.SalvageBlocks.{Salvaged, none_salvaged, with_block, without_block}
use Rattle.tape_run.specs.SalvageEnds.{with_end, with_count, without_gap, ended, without_rest}
use Rattle.tape_run.specs.SalvageTaking.{Taken, after_taken, after_copy, after_all, has_form}
use Rattle.tape_run.specs.SalvageFile.{closed_copy, IsTakenFrom, AreTakenFrom, blocks_of}
use Rattle.tape_run.specs.SalvageFile.{RecoversBlocks, RecoversFile, RecoversUpToGap}
use Rattle.tape_run.proofs.SalvageSections.{salvaged_blocks, piece_of}
use Rattle.tape_run.proofs.SalvageWhole.{gives_whole, all_whole}
use Rattle.tape_run.proofs.SalvageGrows.{after_append, never_less}
use Rattle.tape_run.proofs.SalvageClosings.{volume_counted, reading_salvaged}

-- ---- missing data are recorded

-- all of these blocks were read
abbrev pub AreRead : Blocks → Type 0
AreRead bs = AllByRecursion (λ b. b.0 ≡ true) bs

missing_blocks : (form : Option FileForm) (n : ℕ) (g : Salvaged) (bs : Blocks)
    → (salvaged_blocks form n g bs).missing ≡ false → (g.missing ≡ false) × AreRead bs
unfolding salvaged_blocks
missing_blocks form n g [] e = (e, tt)
missing_blocks form n g ((true, f) ∷ bs) e =
    let r = missing_blocks form (n + 1) (with_block form f.bytes g) bs e in
    ((or_parts g.missing _ r.0).0, (refl, r.1))
missing_blocks form n g ((false, f) ∷ bs) e =
    let r = missing_blocks form (n + 1) (without_block n g) bs e in absurd (cc (r.0))

-- the end of a section that closes
end_done : (eof : Bool) (g : Salvaged) → (with_end eof g).piece.done ≡ g.piece.done
end_done eof g = chosen (eof && g.piece.begun)
  where
    chosen : (b : Bool) → (if b then without_rest g else g).piece.done ≡ g.piece.done
    chosen true = refl
    chosen false = refl

end_missing : (eof : Bool) (g : Salvaged) → (with_end eof g).missing ≡ false → g.missing ≡ false
end_missing eof g = chosen (eof && g.piece.begun)
  where
    chosen : (b : Bool) → (if b then without_rest g else g).missing ≡ false → g.missing ≡ false
    chosen true e = absurd (cc e)
    chosen false e = e

-- ---- a section

-- the records that a section adds
pub record Adds (form : FileForm) (eof : Bool) (g h : Salvaged) (bs : Blocks) : Type 0 where
  pub done : h.piece.done ≡ (piece_after form g.piece bs).done
  pub same : eof ≡ false → h.piece ≡ piece_after form g.piece bs
  pub none : h.missing ≡ false → (g.missing ≡ false) × AreRead bs

not_less : (n m : ℕ) → n ≡ m → nat_lt n m ≡ false
not_less n m e = grind (arith, nat_tests)

ended_adds : (form : FileForm) (c : SectionCopy) (closed : Closing) (g s : Salvaged) (bs : Blocks)
    → s ≡ salvaged_blocks (Some form) 0 g bs
    → Adds form closed.eof g (ended c (Some closed) (without_gap s)) bs
ended_adds form c closed g s bs is =
    let t = with_count (wrong_count c) (without_gap s) in
    let piece : s.piece ≡ piece_after form g.piece bs =
    ap (λ (z : Salvaged). z.piece) is ∙ piece_of form 0 g bs in
    record {
      done = end_done closed.eof t ∙ ap (λ (p : Piece). p.done) piece;
      same = λ e. ap (λ b. (with_end b t).piece) e ∙ piece;
      none = λ e. missing_blocks (Some form) 0 g bs (ap (λ (z : Salvaged). z.missing) (sym is)
          ∙ (or_parts s.missing (is_some (wrong_count c)) (end_missing closed.eof t e)).0);
    }

pub taken_adds : (set_id : List ℕ) (volumes : ℕ) (known : Option FileForm) (form : FileForm)
    (eof : Bool) (t : Taken) (r : SectionRead) (g : Salvaged)
    → IsTakenFrom set_id volumes known form eof t r
    → Adds form eof g (after_taken Records known t.copy t.items g) r.blocks
taken_adds set_id volumes known form eof t r g x =
    let u = x.section in
    let closed : Closing = record { eof = eof; count = x.count; named = x.named } in
    let c = closed_copy x.image u closed in
    let o = Outside 0 in
    let s = salvaged_from u.key u.blocks (Some form) o g x.items in
    let n = read_in u.key (expected_after o x.items) in
    let counts : n ≡ u.blocks =
    volume_counted u.key set_id volumes x.volume x.labels x.before r x.rest x.items x.unread
    x.is_volume x.are_labels x.are_before x.others_before x.are_rest x.others_rest x.is_read x.own
    x.splits x.ends ∙ sym x.counted in
    let is : s ≡ salvaged_blocks (Some form) 0 g r.blocks =
    ap (λ m. salvaged_from u.key m (Some form) o g x.items) x.counted ∙ reading_salvaged _ form _ _
    _ _ _ _ _ g _ _ x.is_volume x.are_labels x.are_before x.others_before x.are_rest x.others_rest
    x.is_read x.own x.splits x.ends in
    let whole : after_taken Records known t.copy t.items g ≡ ended c (Some closed) (without_gap s) =
    ap (λ (z : Taken). after_taken Records known z.copy z.items g) x.is ∙ ap (λ f. if has_form
    Records f then after_copy c f (Some x.items) g else without_rest g) x.forms ∙ ap (λ (b : Bool).
    if b then without_rest (without_gap s) else ended c (Some closed) (without_gap s))
    (not_less _ _ counts) in
    subst (λ h. Adds form eof g h r.blocks) (sym whole) (ended_adds _ c closed _ _ _ is)

-- ---- the sections

blocks_append : (rs qs : List SectionRead) → blocks_of (rs ++ qs) ≡ blocks_of rs ++ blocks_of qs
blocks_append [] qs = refl
blocks_append (r ∷ rs) qs = ap (λ (l : Blocks). r.blocks ++ l) (blocks_append rs qs)
    ∙ sym (append_assoc r.blocks (blocks_of rs) (blocks_of qs))

after_more : (known : Option FileForm) (ts : List Taken) (t : Taken) (g : Salvaged)
    → after_all Records known (ts ++ t ∷ []) g
    ≡ after_taken Records known t.copy t.items (after_all Records known ts g)
after_more known [] t g = refl
after_more known (u ∷ ts) t g = after_more known ts t (after_taken Records known u.copy u.items g)

all_add : (set_id : List ℕ) (volumes : ℕ) (known : Option FileForm) (form : FileForm)
    (ts : List Taken) (rs : List SectionRead) (g : Salvaged)
    → AreTakenFrom set_id volumes known form ts rs
    → Adds form false g (after_all Records known ts g) (blocks_of rs)
all_add set_id volumes known form [] [] g x =
    record { done = refl; same = λ e. refl; none = λ e. (e, tt) }
all_add set_id volumes known form [] (r ∷ rs) g x = absurd x
all_add set_id volumes known form (t ∷ ts) [] g x = absurd x
all_add set_id volumes known form (t ∷ ts) (r ∷ rs) g (x, xs) =
    let one = taken_adds _ _ _ _ _ _ _ g x in
    let h = after_taken Records known t.copy t.items g in
    let rest = all_add set_id volumes known form ts rs h xs in
    let piece = rest.same refl ∙ ap (λ p. piece_after form p (blocks_of rs)) (one.same refl) ∙ sym
    (after_append form g.piece r.blocks (blocks_of rs)) in
    record {
      done = ap (λ (p : Piece). p.done) piece;
      same = λ e. piece;
      none = λ e.
          let b = rest.none e in
          let a = one.none b.0 in
          (a.0, every-append (λ b. b.0 ≡ true) _ _ a.1 b.1);
    }

pub recovers_blocks : RecoversBlocks
recovers_blocks set_id volumes known form eof ts t rs r xs x =
    let g = after_all Records known ts none_salvaged in
    let h = after_taken Records known t.copy t.items g in
    let front = all_add _ _ _ _ _ _ none_salvaged xs in
    let last = taken_adds _ _ _ _ _ _ _ g x in
    let one = append-nil r.blocks in
    let joined = blocks_append rs (r ∷ []) ∙ ap (λ (l : Blocks). blocks_of rs ++ l) one in
    let whole = after_more known ts t none_salvaged in (
      ap (λ (z : Salvaged). z.piece.done) whole ∙ last.done ∙ ap
          (λ p. (piece_after form p r.blocks).done) (front.same refl) ∙ ap (λ (p : Piece). p.done)
          (sym (after_append form nothing (blocks_of rs) r.blocks)) ∙ ap
          (λ l. (piece_after form nothing l).done) (sym joined),
      λ e.
          let b = last.none (ap (λ (z : Salvaged). z.missing) (sym whole) ∙ e) in
          let a = front.none b.0 in
          subst (λ l. AllByRecursion (λ b. b.0 ≡ true) l) (sym joined)
          (every-append (λ b. b.0 ≡ true) _ _ a.1 b.1),
    )

pub recovers_file : RecoversFile
recovers_file set_id volumes known form eof ts t rs r xs x holds order =
    let bs = blocks_of (rs ++ r ∷ []) in
    let all = recovers_blocks set_id volumes known form eof ts t rs r xs x in
    let whole = all.0 ∙ gives_whole form bs false holds order in
    (whole, λ e. whole ∙ all_whole bs (all.1 e) order)

pub recovers_up_to_gap : RecoversUpToGap
recovers_up_to_gap set_id volumes known form eof end ts t rs r bs more xs x splits holds read
    order =
    let all = recovers_blocks set_id volumes known form eof ts t rs r xs x in
    let q = never_less form bs more end holds read order in
    let rest = q.1 in
    (q.0, (rest.0, all.0 ∙ ap (λ l. (piece_after form nothing l).done) splits ∙ rest.1))
