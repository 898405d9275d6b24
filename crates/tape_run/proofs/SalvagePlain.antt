-- Items of a volume of a valid set that cannot be mistaken for an HDR1 or a trailer label.
use Rattle.std.proofs.Common.{◌≡◌, ℕ, ◌==◌, ◌&&◌, Bool, true, false, List, [], ◌∷◌, Ok}
use Rattle.std.proofs.Common.{if◌then◌else◌}
use Rattle.std.specs.List.{AllByRecursion}
use Rattle.tape_image.specs.Tape.{TapeItem, block, bad, mark}
use Rattle.tape_label.specs.declared.values.Kind.TheVariants as kinds
use Rattle.tape_label.specs.{declared.values.Head1.Head1, declared.values.Trail1.Trail1}
use Rattle.tape_label.specs.{Kinds.HasKind, Kinds.trailer, Reading.head1_at, Reading.trail1_at}
use Rattle.tape_label.proofs.{First.head1_found, First.trail1_found, Apart.HasKind-unique}
use Rattle.tape_run.specs.{declared.section.SectionKey.SectionKey, SalvageWhole.Blocks}
use Rattle.tape_run.specs.{SalvageClosed.IsNoMark, SalvageDamaged.if_read, SalvageDamaged.IsPlain}
use Rattle.tape_run.specs.SalvageSections.{Labels, read_labels, read_blocks}

module _ (set_id : List ℕ) where
  abbrev pub IsNoHead1 : TapeItem → Type 0
  IsNoHead1 (block b) = (h : Head1) → head1_at b ≡ Ok h → h.set_id ≡ set_id → ⊥
  IsNoHead1 bad = Unit {0}
  IsNoHead1 mark = Unit {0}

  abbrev pub is_own : SectionKey → Trail1 → Bool
  is_own key t = (t.head.sect == key.sect) && (t.head.sequence == key.file)

  abbrev pub IsNotOwn : SectionKey → TapeItem → Type 0
  IsNotOwn key (block b) = (t : Trail1) → trail1_at b ≡ Ok t → is_own key t ≡ true → ⊥
  IsNotOwn key bad = Unit {0}
  IsNotOwn key mark = Unit {0}

  -- neither, nor a mark
  pub record IsNone (key : SectionKey) (x : TapeItem) : Type 0 where
    pub head : IsNoHead1 x
    pub own : IsNotOwn key x
    pub off : IsNoMark x

  plain : (key : SectionKey) (g : Bool) (b : List ℕ) → IsPlain set_id b
      → IsNone key (if g then block b else bad)
  plain key true b p = record { head = p.no_head; own = λ t e own. p.no_trail t e; off = tt }
  plain key false b p = record { head = tt; own = tt; off = tt }

  pub plain_labels : (key : SectionKey) (ls : Labels) → AllByRecursion (λ l. IsPlain set_id l.1) ls
      → AllByRecursion (IsNone key) (read_labels ls)
  plain_labels key [] all = tt
  plain_labels key (l ∷ ls) (p, all) = (plain key l.0 l.1 p, plain_labels key ls all)

  pub plain_blocks : (key : SectionKey) (bs : Blocks)
      → AllByRecursion (λ b. IsPlain set_id b.1.bytes) bs
      → AllByRecursion (IsNone key) (read_blocks bs)
  plain_blocks key [] all = tt
  plain_blocks key (b ∷ bs) (p, all) = (plain key b.0 b.1.bytes p, plain_blocks key bs all)

  pub mark_head : (g : Bool) → IsNoHead1 (if_read g mark)
  mark_head true = tt
  mark_head false = tt

  pub mark_own : (key : SectionKey) (g : Bool) → IsNotOwn key (if_read g mark)
  mark_own key true = tt
  mark_own key false = tt

  -- a trailer label is no HDR1, and the other way round
  pub not_both : (b : List ℕ) (h : Head1) (t : Trail1) → head1_at b ≡ Ok h → trail1_at b ≡ Ok t → ⊥
  not_both b h t e f = apart t.eof (trail1_found b t f).kind
    where
      apart : (z : Bool) → HasKind b (trailer z) → ⊥
      apart true c = absurd (cc (HasKind-unique b kinds.Hdr1 kinds.Eof1 (head1_found b h e).kind c))
      apart false c =
          absurd (cc (HasKind-unique b kinds.Hdr1 kinds.Eov1 (head1_found b h e).kind c))
