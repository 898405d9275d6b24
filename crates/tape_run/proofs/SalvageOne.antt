-- One section, recovered from its best copy.
use Rattle.std.proofs.Common.{◌≡◌, ℕ, Bool, true, false, List, ◌++◌, Option, Some, None, refl}
use Rattle.std.proofs.KnownBytes.{Appends-trans}
use Rattle.std.specs.Io.KnownBytes.{Appends}
use Rattle.tape_set.specs.Lawful.{FileForm}
use Rattle.tape_run.specs.declared.salvage.ending.SectionEnd.{SectionEnd}
use Rattle.tape_run.specs.declared.salvage.ending.SectionEnd.TheVariants.{Unknown}
use Rattle.tape_run.specs.declared.salvage.{Content.Content, copies.SectionCopy.SectionCopy}
use Rattle.tape_run.specs.declared.salvage.{recovery.Recovery.Recovery, walk.Expected.Expected}
use Rattle.tape_run.specs.{Reeling.Mounting, SalvageLine.section_line}
use Rattle.tape_run.specs.{SalvageCopies.believed, SalvageCopies.start_of, SalvageBlocks.Salvaged}
use Rattle.tape_run.specs.{SalvageBlocks.Recovers, SalvageChoice.firsts, SalvageChoice.IsBest}
use Rattle.tape_run.specs.SalvageImage.{RecoversSection, salvaged_from}
use Rattle.tape_run.specs.SalvageTaking.{TakesSection, TakesCopy, end_by, image_number, form_for}
use Rattle.tape_run.specs.SalvageTaking.{has_form}
use Rattle.tape_run.specs.SalvageEnds.{without_rest, no_section_text, no_form_text, read_again}
use Rattle.tape_run.specs.SalvageEnds.{read_again_text}

-- one recovery after another
pub recovers_then : {W : Type 0} (contents : W → Option (List ℕ)) (old mid new : Recovery W)
    (said says now : Option (List ℕ)) (f g : Salvaged → Salvaged) (s t : Salvaged → List ℕ)
    → Recovers contents old mid said says f s → Recovers contents mid new says now g t
    → Recovers contents old new said now (λ z. g (f z)) (λ z. s z ++ t (f z))
recovers_then contents old mid new said says now f g s t a b start z h =
    let one = a start z h in
    let two = b start (f z) one.0 in
    (two.0, Appends-trans said says now (s z) (t (f z)) one.1 two.1)

pub three_texts : (a b c d : Option (List ℕ)) (t u v : List ℕ) → Appends a b t → Appends b c u
    → Appends c d v → Appends a d (t ++ (u ++ v))
three_texts a b c d t u v h i j = Appends-trans a b d t (u ++ v) h (Appends-trans b c d u v i j)

-- a section was recovered from its copy
pub copy_taken : {W : Type 0} (contents : W → Option (List ℕ)) (before after : Option (List ℕ))
    (c : SectionCopy) (sect : ℕ) (form : Option FileForm) (origin : Expected) (most : ℕ)
    (old mid new : Recovery W) (said one two says : Option (List ℕ)) (end : SectionEnd) (read : ℕ)
    → origin ≡ start_of c → most ≡ believed c
    → Appends said one (section_line sect (image_number c.image) c.section.blocks)
    → RecoversSection contents before after origin c.section.key most form old mid one two read
    → Recovers contents mid new two says (read_again read c) (read_again_text read c)
    → end ≡ end_by c.closed
    → TakesCopy contents before c sect form old new said says end
copy_taken contents before after c sect form origin most old mid new said one two says end read
    begins same line found e is =
    let r = rw (begins, same) at found in
    record {
      items = r.items;
      after = after;
      is_ended = r.is_ended;
      reads = r.reads;
      recovers = λ start g h.
          let a = r.recovers start g h in
          let b = (rw r.count at e) start
          (salvaged_from c.section.key (believed c) form (start_of c) g r.items) a.0 in
          (b.0, three_texts said one two says _ _ _ line a.1 b.1);
      ends = is;
    }

module _ {W L R : Type 0} (contents : W → Option (List ℕ)) (gives : Mounting L R)
    (remaining : R → Option (List ℕ)) (copies : List SectionCopy) (content : Content)
    (known : Option FileForm) where
  -- whether the blocks of a copy can be read
  abbrev form_of : SectionCopy → Option FileForm
  form_of c = form_for content c.section.form known

  abbrev can_read : SectionCopy → Bool
  can_read c = has_form content (form_of c)

  pub no_copy : (sect : ℕ) (shelf left : L) (old new : Recovery W) (said says : Option (List ℕ))
      → IsBest (firsts sect None copies) None → left ≡ shelf
      → Recovers contents old new said says without_rest (no_section_text sect)
      → TakesSection contents gives remaining copies content known sect shelf left old new said says
      Unknown
  no_copy sect shelf left old new said says best same r = record {
    taken = record { copy = None; items = None };
    best = best;
    mounts = (same, refl);
    recovers = r;
    ends = refl;
  }

  pub no_form : (sect : ℕ) (c : SectionCopy) (shelf left : L) (old new : Recovery W)
      (said says : Option (List ℕ)) → IsBest (firsts sect None copies) (Some c)
      → can_read c ≡ false → left ≡ shelf
      → Recovers contents old new said says without_rest (no_form_text sect)
      → TakesSection contents gives remaining copies content known sect shelf left old new said says
      Unknown
  no_form sect c shelf left old new said says best off same r = record {
    taken = record { copy = Some c; items = None };
    best = best;
    mounts = rw off (same, refl);
    recovers = rw off r;
    ends = refl;
  }

  pub no_image : (sect : ℕ) (c : SectionCopy) (shelf left : L) (old new : Recovery W)
      (said says : Option (List ℕ)) → IsBest (firsts sect None copies) (Some c)
      → can_read c ≡ true → gives shelf c.image None left
      → Recovers contents old new said says without_rest (no_section_text sect)
      → TakesSection contents gives remaining copies content known sect shelf left old new said says
      Unknown
  no_image sect c shelf left old new said says best on gave r = record {
    taken = record { copy = Some c; items = None };
    best = best;
    mounts = rw on (None, gave, refl);
    recovers = rw on r;
    ends = refl;
  }

  pub from_copy : (sect : ℕ) (c : SectionCopy) (device : R) (shelf left : L) (old new : Recovery W)
      (said says : Option (List ℕ)) (end : SectionEnd)
      → IsBest (firsts sect None copies) (Some c) → can_read c ≡ true
      → gives shelf c.image (Some device) left
      → TakesCopy contents (remaining device) c sect (form_of c) old new said says end
      → TakesSection contents gives remaining copies content known sect shelf left old new said says
      end
  from_copy sect c device shelf left old new said says end best on gave t = record {
    taken = record { copy = Some c; items = Some t.items };
    best = best;
    mounts = rw on (Some device, gave, (t.after, t.is_ended, t.reads));
    recovers = rw on t.recovers;
    ends = rw on t.ends;
  }
