-- A file of a valid set recovered from complete readings of its volumes.
use Rattle.std.proofs.Common.{◌≡◌, ◌<◌, ◌≤◌, ℕ, ◌+◌, Bool, true, false, List, [], ◌∷◌, ◌++◌, length}
use Rattle.std.proofs.Common.{Option, Some, None, refl, sym, ap, subst, ◌∙◌, arith, append-nil}
use Rattle.std.proofs.Common.{length-append, suc, inl, inr, if◌then◌else◌, slice_get}
use Rattle.std.proofs.Common.{option_and_then}
use Rattle.std.specs.List.{AllByRecursion}
use Rattle.tape_set.specs.Layout.{FileSet, Section, Placed, nth, numbered, file_of, section_of}
use Rattle.tape_set.specs.{Layout.ends_file, Laws.StandsIn, Reading.Reading}
use Rattle.tape_set.specs.Lawful.{IsLawful, FileForm, HasForm, Ends}
use Rattle.tape_set.proofs.Everywhere.{every, every-append, nth_found}
use Rattle.tape_set.proofs.AllVolumes.{file_is_lawful}
use Rattle.tape_run.specs.declared.salvage.ending.SectionEnd.TheVariants.{FileEnds, Continues}
use Rattle.tape_run.specs.SalvageTaking.{Taken, after_taken, after_all, end_of_taken, GoOn}
use Rattle.tape_run.specs.SalvageSets.{IsCompleteOr, copies_on, HasVolume, IsReadAgainIf}
use Rattle.tape_run.specs.{declared.salvage.Content.TheVariants.Records, SalvageRecords.Piece}
use Rattle.tape_run.specs.declared.salvage.copies.SectionCopy.{SectionCopy}
use Rattle.tape_run.specs.declared.salvage.ending.SectionEnd.{SectionEnd}
use Rattle.tape_run.specs.declared.salvage.ending.SectionEnd.TheVariants.{Unknown}
use Rattle.tape_run.specs.SalvageBlocks.{Salvaged, none_salvaged}
use Rattle.tape_run.specs.SalvageChoice.{firsts, IsBest, last_section, form_of_file}
use Rattle.tape_run.specs.SalvageTaking.{last_end, at_last, after_file}
use Rattle.tape_run.specs.SalvageWhole.{Blocks, piece_after}
use Rattle.tape_run.specs.SalvageSets.{AreReadAgain, AreHad, joined, IsRecovered, RecoversSet}
use Rattle.tape_run.proofs.SalvageAgain.{ranked_are, lost, filled_lost, none_read, lost_done}
use Rattle.tape_run.proofs.SalvageAgain.{copies_are, Step, known_step, lost_step, get_less}
use Rattle.tape_run.proofs.{SalvageChoice.last_at, SalvageChoice.last_most, SalvageFile.AreRead}
use Rattle.tape_run.proofs.{SalvageGrows.after_append, SalvageSetBlocks.recovered}
use Rattle.tape_run.proofs.SalvageGood.{IsGood, has_copy, good_on, good_sect}

-- ---- the end of the file

last_done : (e : SectionEnd) (g : Salvaged) → (at_last e g).piece.done ≡ g.piece.done
last_done Continues g = refl
last_done FileEnds g = refl
last_done Unknown g = refl

not_end : (b : Bool) (e : SectionEnd) → e ≡ (if b then FileEnds else Continues)
    → (e ≡ FileEnds → ⊥) → b ≡ false
not_end true e is off = absurd (off is)
not_end false e is off = refl

is_true : (b : Bool) → (if b then FileEnds else Continues) ≡ FileEnds → b ≡ true
is_true true e = refl
is_true false e = absurd (cc e)

only : (w : Section) (ss : List Section) → Ends (w ∷ ss) → ends_file w ≡ true → ss ≡ []
only w [] ends last = refl
only w (v ∷ ss) (off, ends) last = absurd (cc (sym off ∙ last))

module _ (set : FileSet) (file : ℕ) (f : List Section) (all : List (Option Reading))
    (copies : List SectionCopy) (form : FileForm) (l : IsLawful set)
    (there : file_of set file ≡ Some f) (complete : AllByRecursion (IsCompleteOr set) all)
    (same : copies ≡ copies_on set file 0 all) where
  abbrev known : Option FileForm
  known = form_of_file copies

  abbrev end_of : Taken → SectionEnd
  end_of t = end_of_taken Records known t.copy t.items

  abbrev after_one : Taken → Salvaged → Salvaged
  after_one t g = after_taken Records known t.copy t.items g

  abbrev OneStep : ℕ → Section → Salvaged → Salvaged → Type 0
  OneStep i w g h = Step set file all copies form l complete same i w g h

  last_is : (front : List Taken) (t : Taken) → last_end Records known (front ++ t ∷ []) ≡ end_of t
  last_is [] t = refl
  last_is (x ∷ []) t = refl
  last_is (x ∷ y ∷ front) t = last_is (y ∷ front) t

  -- the sections of the file from number i on
  abbrev Fits : Placed → Type 0
  Fits p = p.section.blocks ≡ [] → HasVolume all p.section.volume

  record At (i : ℕ) (ss : List Section) : Type 0 where
    each : (j : ℕ) (w : Section) → slice_get ss j ≡ Some w → section_of set file (i + j) ≡ Some w
    forms : AllByRecursion (HasForm form) ss
    fits : AllByRecursion Fits (numbered file i ss)
    count : length f + 1 ≡ i + length ss

  next : (i : ℕ) (w : Section) (ss : List Section) → At i (w ∷ ss) → At (i + 1) ss
  next i w ss at = record {
    each = λ j v e. let n : i + suc j ≡ (i + 1) + j = omega arith in
        subst (λ m. section_of set file m ≡ Some v) n (at.each (suc j) v e);
    forms = at.forms.1;
    fits = at.fits.1;
    count = let c = at.count in omega (arith, c);
  }

  here : (i : ℕ) (w : Section) (ss : List Section) → At i (w ∷ ss) → section_of set file i ≡ Some w
  here i w ss at = let n : i + 0 ≡ i = omega arith in
      subst (λ m. section_of set file m ≡ Some w) n (at.each 0 w refl)

  -- a section after which the file continues
  record Goes (t : Taken) (i : ℕ) (w : Section) (g : Salvaged) : Type 0 where
    step : OneStep i w g (after_one t g)
    piece : (after_one t g).piece ≡ piece_after form g.piece step.blocks
    ends : end_of t ≡ Unknown → (after_one t g).missing ≡ true

  goes : (t : Taken) (i : ℕ) (w : Section) (ss : List Section) (g : Salvaged) → At i (w ∷ ss)
      → IsBest (firsts i None copies) t.copy → IsReadAgainIf set all t.copy t.items
      → (end_of t ≡ FileEnds → ⊥) → Goes t i w g
  goes t i w ss g at best read off = by t.copy refl best read
    where
      by : (o : Option SectionCopy) → t.copy ≡ o → IsBest (firsts i None copies) o
          → IsReadAgainIf set all o t.items → Goes t i w g
      by None is best read =
          let x = lost_step set file all copies form l complete same t i w g is best
          (here i w ss at) at.fits.0 in
          record {
            step = x.0;
            piece = x.1;
            ends = λ e. ap (λ (c : Option SectionCopy). (after_taken Records known c t.items
                g).missing) is;
          }
      by (Some c) is best read =
          let k = known_step set file all copies form l complete same t i w c g is best read
          (here i w ss at) at.forms.0 in
          let last = not_end (ends_file w) (end_of t) k.ends off in
          record {
            step = k.step;
            piece = k.piece last;
            ends = λ e. absurd (cc (sym e ∙ k.ends
                ∙ ap (λ (b : Bool). if b then FileEnds else Continues) last));
          }

  -- ---- sections, one after another

  record Rest (i : ℕ) (ss : List Section) (g h : Salvaged) : Type 0 where
    sections : List Blocks
    had : AreHad set all copies (numbered file i ss) sections
    done : h.piece.done ≡ (piece_after form g.piece (joined sections)).done
    none : h.missing ≡ false → (g.missing ≡ false) × AreRead (joined sections)

  one_more : (i : ℕ) (w : Section) (ss : List Section) (g m h : Salvaged) (s : OneStep i w g m)
      → m.piece ≡ piece_after form g.piece s.blocks → Rest (i + 1) ss m h → Rest i (w ∷ ss) g h
  one_more i w ss g m h s piece r = record {
    sections = s.blocks ∷ r.sections;
    had = (s.had, r.had);
    done = r.done ∙ ap (λ (p : Piece). (piece_after form p (joined r.sections)).done) piece
        ∙ ap (λ (q : Piece). q.done)
        (sym (after_append form g.piece s.blocks (joined r.sections)));
    none = λ e.
        let b = r.none e in
        let a = s.none b.0 in
        (a.0, every-append (λ b. b.0 ≡ true) s.blocks (joined r.sections) a.1 b.1);
  }

  more_follow : (i n : ℕ) (w : Section) (ss : List Section) → At i (w ∷ ss) → Ends (w ∷ ss)
      → i + suc n ≤ length f → Ends ss
  more_follow i n w [] at ends within = let c = at.count in absurd (omega (arith, c, within))
  more_follow i n w (v ∷ ss) at (off, ends) within = ends

  -- the last of the sections ends the file
  ended : (front : List Taken) (t : Taken) (i : ℕ) (ss : List Section) (g : Salvaged) → At i ss
      → Ends ss → AreReadAgain set all copies i (front ++ t ∷ []) → GoOn Records known front
      → end_of t ≡ FileEnds → i + length front ≤ length f
      → Rest i ss g (after_all Records known (front ++ t ∷ []) g)
  ended front t i [] g at ends read go eof within = absurd ends
  ended [] t i (w ∷ ss) g at ends (best, read, rest) go eof within = by t.copy refl best read
    where
      by : (o : Option SectionCopy) → t.copy ≡ o → IsBest (firsts i None copies) o
          → IsReadAgainIf set all o t.items → Rest i (w ∷ ss) g (after_one t g)
      by None is best read = absurd (cc (sym (ap (λ (c : Option SectionCopy).
          end_of_taken Records known c t.items) is) ∙ eof))
      by (Some c) is best read =
          let k = known_step set file all copies form l complete same t i w c g is best read
          (here i w ss at) at.forms.0 in
          let last = is_true (ends_file w) (sym k.ends ∙ eof) in
          let s = k.step in
          let nil = append-nil s.blocks in
          subst (λ (x : List Section). Rest i (w ∷ x) g (after_one t g))
          (sym (only w ss ends last)) (record {
            sections = s.blocks ∷ [];
            had = (s.had, tt);
            done = s.done ∙ ap (λ (b : Blocks). (piece_after form g.piece b).done) (sym nil);
            none = λ e. let a = s.none e in (a.0, subst AreRead (sym nil) a.1);
          })
  ended (u ∷ front) t i (w ∷ ss) g at ends (best, read, rest) (off, go) eof within =
      let x = goes u i w ss g at best read off in
      let h = after_one u g in
      one_more i w ss g h (after_all Records known (front ++ t ∷ []) h) x.step x.piece
      (ended front t (i + 1) ss h (next i w ss at) (more_follow i (length front) w ss at ends
      within)
      rest go eof (omega (arith, within)))

  -- none of the sections ends the file, and no later one is on an image
  record Gone (i : ℕ) (ss : List Section) (g h : Salvaged) : Type 0 where
    sections : List Blocks
    had : AreHad set all copies (numbered file i ss) sections
    done : h.piece.done ≡ (piece_after form g.piece (joined sections)).done

  later : (i : ℕ) (w : Section) → section_of set file i ≡ Some w → last_section copies < i
      → HasVolume all w.volume → ⊥
  later i w at past has =
      let h = has_copy set file i w l at all complete has in
      let among = subst (λ cs. StandsIn cs h.copy) (sym same) h.among in
      let most = subst (λ cs. h.copy.section.key.sect ≤ last_section cs) (sym among.2)
      (last_at among.0 h.copy among.1) in
      let number = h.number in
      omega (arith, most, number, past)

  all_lost : (i : ℕ) (ss : List Section) (g : Salvaged) → At i ss → last_section copies < i
      → Gone i ss g g
  all_lost i [] g at past = record { sections = []; had = tt; done = refl }
  all_lost i (w ∷ ss) g at past =
      let bs = lost w.blocks in
      let m : Salvaged = record {
        piece = piece_after form g.piece bs;
        gap = g.gap;
        missing = g.missing;
      } in
      let r = all_lost (i + 1) ss m (next i w ss at) (omega (arith, past)) in
      record {
        sections = bs ∷ r.sections;
        had = (
          inr (record {
            none = later i w (here i w ss at) past;
            blocks = filled_lost w.blocks;
            missing = none_read w.blocks;
          }),
          r.had,
        );
        done = sym (lost_done form g.piece w.blocks) ∙ r.done
            ∙ ap (λ (q : Piece). q.done) (sym (after_append form g.piece bs (joined r.sections)));
      }

  going : (ts : List Taken) (i : ℕ) (ss : List Section) (g : Salvaged) → At i ss
      → AreReadAgain set all copies i ts → GoOn Records known ts → i + length ts ≤ length f + 1
      → last_section copies < i + length ts → Gone i ss g (after_all Records known ts g)
  going [] i ss g at read go within past = all_lost i ss g at (omega (arith, past))
  going (t ∷ ts) i [] g at read go within past =
      let c = at.count in absurd (omega (arith, c, within))
  going (t ∷ ts) i (w ∷ ss) g at (best, read, rest) (off, go) within past =
      let x = goes t i w ss g at best read off in
      let h = after_one t g in
      let s = x.step in
      let r = going ts (i + 1) ss h (next i w ss at) rest go (omega (arith, within))
      (omega (arith, past)) in
      record {
        sections = s.blocks ∷ r.sections;
        had = (s.had, r.had);
        done = r.done ∙ ap (λ (p : Piece). (piece_after form p (joined r.sections)).done) x.piece
            ∙ ap (λ (q : Piece). q.done)
            (sym (after_append form g.piece s.blocks (joined r.sections)));
      }

  -- then something is missing
  last_missing : (e : SectionEnd) (g : Salvaged) → (e ≡ FileEnds → ⊥)
      → (e ≡ Unknown → g.missing ≡ true) → (at_last e g).missing ≡ true
  last_missing Continues g off m = refl
  last_missing FileEnds g off m = absurd (off refl)
  last_missing Unknown g off m = m refl

  is_missing : (ts : List Taken) (i : ℕ) (ss : List Section) (g : Salvaged) → At i ss
      → AreReadAgain set all copies i ts → GoOn Records known ts → i + length ts ≤ length f + 1
      → (at_last (last_end Records known ts) (after_all Records known ts g)).missing ≡ true
  is_missing [] i ss g at read go within = refl
  is_missing (t ∷ ts) i [] g at read go within =
      let c = at.count in absurd (omega (arith, c, within))
  is_missing (t ∷ []) i (w ∷ ss) g at (best, read, rest) (off, go) within =
      last_missing (end_of t) (after_one t g) off (goes t i w ss g at best read off).ends
  is_missing (t ∷ u ∷ ts) i (w ∷ ss) g at (best, read, rest) (off, go) within =
      is_missing (u ∷ ts) (i + 1) ss (after_one t g) (next i w ss at) rest go
      (omega (arith, within))

  -- the file from its first section on
  at_start : AllByRecursion (HasForm form) f → AllByRecursion Fits (numbered file 1 f) → At 1 f
  at_start forms fits = record {
    each = λ j w e.
        let n : 1 + j ≡ suc j = omega arith in
        ap (λ (o : Option (List Section)). option_and_then (λ x. nth x (1 + j)) o) there
        ∙ ap (λ m. nth f m) n ∙ e;
    forms = forms;
    fits = fits;
    count = omega arith;
  }

  -- no copy has a number beyond the last section
  within : last_section copies ≤ length f
  within = last_most copies (length f) (every (IsGood set file all)
      (λ c. c.section.key.sect ≤ length f) (λ c g. one c g) copies
      (copies_are set file all copies form l complete same))
    where
      one : (c : SectionCopy) → IsGood set file all c → c.section.key.sect ≤ length f
      one c g =
          let p = g.section.placed in
          let found : nth f p.sect ≡ Some p.section =
          sym (ap (λ (o : Option (List Section)). option_and_then (λ x. nth x p.sect) o) there)
          ∙ ap (λ (m : ℕ). section_of set m p.sect) (sym g.own)
          ∙ (good_on set file all c l g).found in
          let at = nth_found f p.sect p.section found in
          let less = get_less f at.place p.section at.found in
          let number = good_sect set file all c g in
          let n = at.number in
          omega (arith, less, number, n)

pub recovers_set : RecoversSet
recovers_set set file f rs copies taken l there complete fits same read sections =
    let is = file_is_lawful set file f l there in
    let (form, forms) = is.alike in
    let at = at_start set file f rs copies form l there complete same forms fits in
    let most = within set file f rs copies form l there complete same in
    let ranked = ranked_are set file rs copies form l complete same in
    let known = form_of_file copies in
    let known_all = after_all Records known taken none_salvaged in
    elim sections [
      | inl (go, count) ↦
          let few : 1 + length taken ≤ length f + 1 = omega (arith, count, most) in
          let past : last_section copies < 1 + length taken = omega (arith, count) in
          let r = going set file f rs copies form l there complete same taken 1 f none_salvaged at
          read go few past in
          let g = after_file Records copies taken none_salvaged in
          let off = is_missing set file f rs copies form l there complete same taken 1 f
          none_salvaged at read go few in
          recovered set file f rs copies form forms ranked is.order g r.sections
          r.had (last_done (last_end Records known taken) known_all ∙ r.done)
          (λ e. absurd (never (sym off ∙ e)))
      | inr (front, t, splits, go, eof, count) ↦
          let n = length-append front (t ∷ []) in
          let m = ap length splits in
          let few : 1 + length front ≤ length f = omega (arith, count, most, n, m) in
          let r = ended set file f rs copies form l there complete same front t 1 f none_salvaged at
          is.ends (subst (AreReadAgain set rs copies 1) splits read) go eof few in
          let end : last_end Records known taken ≡ FileEnds =
          ap (last_end Records known) splits
          ∙ last_is set file f rs copies form l there complete same front t ∙ eof in
          let whole : after_file Records copies taken none_salvaged
          ≡ after_all Records known (front ++ t ∷ []) none_salvaged =
          ap (λ (e : SectionEnd). at_last e known_all) end
          ∙ ap (λ (ts : List Taken). after_all Records known ts none_salvaged) splits in
          subst (IsRecovered set file f rs copies) (sym whole)
          (recovered set file f rs copies form forms ranked is.order
          (after_all Records known (front ++ t ∷ []) none_salvaged) r.sections r.had r.done
          (λ e. (r.none e).1))
    ]
  where
    never : true ≡ false → ⊥
    never e = cc e
