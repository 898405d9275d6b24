-- What a survey has found is without conflict, and stays so after copies of a valid set.
use Rattle.std.proofs.Common.{◌≡◌, ℕ, Bool, true, false, List, [], ◌∷◌, length, Option, Some}
use Rattle.std.proofs.Common.{None, refl, sym, ap, subst, ◌∙◌, arith, if◌then◌else◌, ◌==◌, ◌&&◌, ◌||◌}
use Rattle.std.proofs.Common.{cond, not, is_some, eq-eqb}
use Rattle.std.proofs.{lemmas.Bool.and_parts, lemmas.Bool.Decides.nat_tests}
use Rattle.std.proofs.lemmas.Slice.Eq.{bytes_eq-Decides}
use Rattle.std.specs.{List.AllByRecursion, Map.lookup, Str.bytes_eq}
use Rattle.indexmap.specs.IndexMap.{insert_entry}
use Rattle.tape_image.specs.Tape.{TapeItem}
use Rattle.tape_label.specs.declared.values.{Head1.Head1, Head2.Head2}
use Rattle.tape_label.specs.declared.values.Kind.TheVariants as kinds
use Rattle.tape_label.specs.{Head1.IsHead1, Head2.IsHead2, Formats.letter}
use Rattle.tape_blocks.specs.Faults.{bool_eq}
use Rattle.tape_set.specs.Layout.{FileSet, Section, section_of, ends_file}
use Rattle.tape_set.specs.Lawful.{IsLawful, FileForm, TellsForm}
use Rattle.tape_set.proofs.Forms.{form_told, forms_alike, head1_same, head2_same}
use Rattle.tape_run.specs.declared.section.{SectionKey.SectionKey, Entry.Entry}
use Rattle.tape_run.specs.declared.survey.{files.FileKey.FileKey, files.FileNote.FileNote}
use Rattle.tape_run.specs.declared.survey.{files.FirstHead.FirstHead, forms.FirstForm.FirstForm}
use Rattle.tape_run.specs.declared.survey.{copies.CopyNote.CopyNote, fits.Fit.Fit}
use Rattle.tape_run.specs.declared.survey.{forms.FormNote.FormNote, fits.Misfit.Misfit}
use Rattle.tape_run.specs.declared.survey.padding.Padding.{Padding}
use Rattle.tape_run.specs.declared.survey.forms.FormNote.TheVariants.{Stated, Absent, Trailer}
use Rattle.tape_run.specs.declared.survey.forms.Trailing.{Trailing}
use Rattle.tape_run.specs.declared.survey.forms.Trailing.TheVariants as trailings
use Rattle.tape_run.specs.declared.passing.Phase.{Phase}
use Rattle.tape_run.specs.{Passing.Told, Noted.same_key, Onward.step}
use Rattle.tape_run.specs.SurveyFiles.{Filed, Labelled, same_file, file_key, is_other}
use Rattle.tape_run.specs.SurveyFiles.{other_section, note_of, note_at, first_in, with_first}
use Rattle.tape_run.specs.SurveyFiles.{with_met, form_conflict, is_other_form}
use Rattle.tape_run.specs.SurveyFiles.{first_form, with_first_form, with_form_of, with_absent}
use Rattle.tape_run.specs.SurveyFiles.{with_trailer_of, with_trailer, with_form, with_blocks_of}
use Rattle.tape_run.specs.SurveyFiles.{after_trailing}
use Rattle.tape_run.specs.SurveyFiles.{with_blocks, with_fit, any_differs}
use Rattle.tape_run.specs.SurveyFiles.{with_label}
use Rattle.tape_run.specs.SurveyFiles.{form_in, section_of as key_of}
use Rattle.tape_run.specs.{SurveyFits.misfit_of, SurveyFits.fit_in, SurveyGlance.label_in}
use Rattle.tape_run.specs.{SurveyFits.misfit_in, SurveyPadding.padding_in, SurveyPadding.padding_if}
use Rattle.tape_run.specs.declared.section.SectionState.{SectionState}
use Rattle.tape_run.specs.declared.section.SectionState.TheVariants.{Good, Bad, Count, Cut}
use Rattle.tape_run.specs.SurveyCopies.{Copy, Copied, copy_note, noted_at, with_agreed}
use Rattle.tape_run.specs.SurveyCopies.{with_good, with_conflict, with_copies, opponent_of}
use Rattle.tape_run.specs.SurveyDigest.{digest_of}
use Rattle.tape_run.proofs.KeepingPlaces.{one_key}
use Rattle.tape_run.proofs.CopyComing.{bytes_of, IsHeadOf, IsFineLabel, IsFormOf, IsFineForm}
use Rattle.tape_run.proofs.CopyComing.{IsExactCopy}

-- ---- what is true of each entry of a map

module _ (K V : Type 0) (same : K → K → Bool) (one : (a b : K) → same a b ≡ true → a ≡ b)
    (P : K → V → Type 0) where
  inserted : (es : List (K × V)) (k : K) (v : V) → AllByRecursion (λ e. P e.0 e.1) es → P k v
      → AllByRecursion (λ e. P e.0 e.1) (insert_entry same es k v)
  inserted [] k v all h = (h, tt)
  inserted (e ∷ es) k v (here, all) h = by (same k e.0) refl (inserted es k v all h)
    where
      by : (b : Bool) → same k e.0 ≡ b → AllByRecursion (λ e. P e.0 e.1) (insert_entry same es k v)
          → AllByRecursion (λ e. P e.0 e.1)
          (if b then (e.0, v) ∷ es else e ∷ insert_entry same es k v)
      by true is rest = (subst (λ z. P z v) (one k e.0 is) h, all)
      by false is rest = (here, rest)

  found_in : (es : List (K × V)) (k : K) (v : V) → lookup (same k) es ≡ Some v
      → AllByRecursion (λ e. P e.0 e.1) es → P k v
  found_in [] k v is all = absurd (cc is)
  found_in (e ∷ es) k v is (here, all) =
      by (same k e.0) refl is (λ it. found_in es k v it all)
    where
      by : (b : Bool) → same k e.0 ≡ b → cond b (Some e.1) (lookup (same k) es) ≡ Some v
          → (lookup (same k) es ≡ Some v → P k v) → P k v
      by true w it rest = subst (λ z. P z v) (sym (one k e.0 w)) (subst (P e.0) (cc it) here)
      by false w it rest = rest it

one_file : (a b : FileKey) → same_file a b ≡ true → a ≡ b
one_file a b e =
    let (ids, files) = and_parts (bytes_eq a.set_id b.set_id) (a.file == b.file) e in
    let number : a.file ≡ b.file = grind (arith, nat_tests, files) in
    ap (λ i. file_key i a.file) ((bytes_eq-Decides a.set_id b.set_id).0 ids)
    ∙ ap (λ f. file_key b.set_id f) number

eq_bytes : (a b : List ℕ) → a ≡ b → bytes_eq a b ≡ true
eq_bytes a b e = (bytes_eq-Decides a b).1 e

module _ (set : FileSet) (lawful : IsLawful set) where
  -- ---- labels

  abbrev IsFineNote : FileKey → FileNote → Type 0
  IsFineNote key n = IsHeadOf set n.head × (key.file ≡ n.head.sequence) × (n.conflict ≡ None)

  abbrev IsFineHead : SectionKey → FirstHead → Type 0
  IsFineHead key f = IsHeadOf set f.head × (key.file ≡ f.head.sequence)

  abbrev IsFineFirst : SectionKey → FirstForm → Type 0
  IsFineFirst key f = IsFormOf set key f.form

  pub record FineFiles (files : Labelled) : Type 0 where
    pub notes : AllByRecursion (λ e. IsFineNote e.0 e.1) files.notes
    pub heads : AllByRecursion (λ e. IsFineHead e.0 e.1) files.heads
    pub forms : AllByRecursion (λ e. IsFineFirst e.0 e.1) files.forms

  -- two labels of one file
  not_other : (a b : Head1) → IsHeadOf set a → IsHeadOf set b → a.sequence ≡ b.sequence
      → is_other a b ≡ false
  not_other a b p q seq =
      let found : section_of set a.sequence b.sect ≡ Some q.section =
      ap (λ f. section_of set f b.sect) seq ∙ q.found in
      let (form, tells) = form_told set a.sequence lawful a.sect p.section p.found in
      let other : TellsForm form q.section =
      forms_alike set a.sequence lawful a.sect b.sect p.section q.section form p.found found tells in
      let mine : p.own ≡ tells.head = head1_same p.section.hdr1 p.own tells.head p.hdr1 tells.hdr1 in
      let its : q.own ≡ other.head = head1_same q.section.hdr1 q.own other.head q.hdr1 other.hdr1 in
      let ids : a.file_id ≡ b.file_id = p.file_id ∙ ap (λ h. h.file_id) mine
      ∙ ap (λ (f : FileForm). f.file_id) (tells.told ∙ sym other.told)
      ∙ sym (ap (λ h. h.file_id) its) ∙ sym q.file_id in
      rw (eq_bytes a.file_id b.file_id ids) (by (a.sect == b.sect) refl)
    where
      by : (s : Bool) → (a.sect == b.sect) ≡ s
          → (s && (not (bytes_eq a.created b.created) || not (bytes_eq a.generation b.generation)))
          ≡ false
      by false e = refl
      by true e =
          let sect : a.sect ≡ b.sect = grind (arith, nat_tests) in
          let there : section_of set a.sequence a.sect ≡ Some q.section =
          ap (λ f. section_of set f a.sect) seq
          ∙ (ap (λ s. section_of set b.sequence s) sect ∙ q.found) in
          let same : p.section ≡ q.section = cc (p.found, there) in
          let own : p.own ≡ q.own = head1_same q.section.hdr1 p.own q.own
          (subst (λ (z : Section). IsHead1 z.hdr1 p.own) same p.hdr1) q.hdr1 in
          rw (
            eq_bytes a.created b.created (p.created ∙ ap (λ h. h.created) own ∙ sym q.created),
            eq_bytes a.generation b.generation (p.generation ∙ ap (λ h. h.generation) own
                ∙ sym q.generation),
          ) refl

  no_opponent : (head : Head1) (o : Option FirstHead) → IsHeadOf set head
      → ((f : FirstHead) → o ≡ Some f → IsHeadOf set f.head × (head.sequence ≡ f.head.sequence))
      → other_section o head ≡ None
  no_opponent head None is known = refl
  no_opponent head (Some f) is known =
      let (its, seq) = known f refl in
      rw (not_other f.head head its is (sym seq)) refl

  fine_met : (files : Labelled) (image : ℕ) (o : Option Head1) → FineFiles files
      → IsFineLabel set o → FineFiles (with_met files image o)
  fine_met files image None fine h = fine
  fine_met files image (Some head) fine h = record {
    notes = inserted FileKey FileNote same_file one_file IsFineNote files.notes key _ fine.notes
        (noted (lookup (same_file key) files.notes) refl);
    heads = first_head (first_in files.heads head);
    forms = fine.forms;
  }
    where
      key : FileKey
      key = file_key head.set_id head.sequence

      none : other_section (first_in files.heads head) head ≡ None
      none = no_opponent head (first_in files.heads head) h (λ f is.
          let (its, seq) = found_in SectionKey FirstHead same_key one_key IsFineHead files.heads
          (key_of head) f is fine.heads in (its, seq))

      noted : (o : Option FileNote) → lookup (same_file (file_key head.set_id head.sequence))
          files.notes ≡ o
          → IsFineNote (file_key head.set_id head.sequence)
          (note_of o (first_in files.heads head) image head)
      noted None is = (h, refl, refl)
      noted (Some n) is =
          let (its, seq, calm) = found_in FileKey FileNote same_file one_file IsFineNote files.notes
          (file_key head.set_id head.sequence) n is fine.notes in
          (its, seq, rw (calm, none, not_other n.head head its h (sym seq)) refl)

      first_head : (o : Option FirstHead)
          → AllByRecursion (λ e. IsFineHead e.0 e.1) (with_first files.heads image head o)
      first_head (Some f) = fine.heads
      first_head None = inserted SectionKey FirstHead same_key one_key IsFineHead files.heads
          (key_of head) (record { image = image; head = head }) fine.heads (h, refl)

  -- the record of a file with its label, and without a conflict
  same_note : (files : List Filed) (key : FileKey) (old new : FileNote)
      → lookup (same_file key) files ≡ Some old
      → AllByRecursion (λ e. IsFineNote e.0 e.1) files → new.head ≡ old.head
      → (old.conflict ≡ None → new.conflict ≡ None)
      → AllByRecursion (λ e. IsFineNote e.0 e.1) (insert_entry same_file files key new)
  same_note files key old new is fine head calm =
      let (its, seq, none) = found_in FileKey FileNote same_file one_file IsFineNote files key old is
      fine in
      inserted FileKey FileNote same_file one_file IsFineNote files key new fine
      (subst (IsHeadOf set) (sym head) its, seq ∙ ap (λ h. h.sequence) (sym head), calm none)

  same_form : (key : SectionKey) (a b : Head2) → IsFormOf set key a → IsFormOf set key b
      → is_other_form a b ≡ false
  same_form key a b (s, here, is) (t, there, its) =
      let same : s ≡ t = cc (here, there) in
      let one : a ≡ b = head2_same t.hdr2 a b
      (subst (λ (z : Section). IsHead2 z.hdr2 kinds.Hdr2 a) same is) its in
      subst (λ z. is_other_form a z ≡ false) one
      (rw (
        eq-eqb (letter a.format) (letter a.format) refl,
        eq-eqb a.block_len a.block_len refl,
        eq-eqb a.rec_len a.rec_len refl,
        eq-eqb a.offset a.offset refl,
      ) refl)

  fine_form : (files : Labelled) (image : ℕ) (o : Option FormNote) → FineFiles files
      → IsFineForm set o → FineFiles (with_form files image o)
  fine_form files image None fine h = fine
  fine_form files image (Some (Absent key)) fine h = record {
    notes = absent (note_at files key) refl;
    heads = fine.heads;
    forms = fine.forms;
  }
    where
      absent : (o : Option FileNote) → note_at files key ≡ o
          → AllByRecursion (λ e. IsFineNote e.0 e.1) (with_absent files.notes key o)
      absent None is = fine.notes
      absent (Some n) is = same_note files.notes key n _ is fine.notes refl (λ e. e)
  fine_form files image (Some (Trailer item)) fine h = record {
    notes = behind files.reading;
    heads = fine.heads;
    forms = fine.forms;
  }
    where
      same_label : (n : FileNote) (i : Trailing) → ((after_trailing n i files.fit).head ≡ n.head)
          × (n.conflict ≡ None → (after_trailing n i files.fit).conflict ≡ None)
      same_label n trailings.Found = (refl, λ e. e)
      same_label n trailings.Doubted = (refl, λ e. e)
      same_label n trailings.Closed = (refl, λ e. e)

      named : (key : FileKey) (o : Option FileNote) → lookup (same_file key) files.notes ≡ o
          → AllByRecursion (λ e. IsFineNote e.0 e.1)
          (with_trailer_of files.notes key o item files.fit)
      named key None is = fine.notes
      named key (Some n) is =
          let (head, calm) = same_label n item in
          same_note files.notes key n _ is fine.notes head calm

      behind : (o : Option FileKey)
          → AllByRecursion (λ e. IsFineNote e.0 e.1) (with_trailer files.notes o item files.fit)
      behind None = fine.notes
      behind (Some key) = named key (lookup (same_file key) files.notes) refl
  fine_form files image (Some (Stated key form blocking)) fine h = record {
    notes = stated (note_at files (file_key key.set_id key.file)) refl;
    heads = fine.heads;
    forms = first_one (first_form files.forms key);
  }
    where
      calm_form : (o : Option FirstForm) → first_form files.forms key ≡ o
          → form_conflict o image form ≡ None
      calm_form None is = refl
      calm_form (Some f) is =
          let its = found_in SectionKey FirstForm same_key one_key IsFineFirst files.forms key f is
          fine.forms in
          rw (same_form key f.form form its h) refl

      stated : (o : Option FileNote) → note_at files (file_key key.set_id key.file) ≡ o
          → AllByRecursion (λ e. IsFineNote e.0 e.1) (with_form_of files.notes
          (file_key key.set_id key.file) o (first_form files.forms key) image form blocking)
      stated None is = fine.notes
      stated (Some n) is = same_note files.notes (file_key key.set_id key.file) n _ is fine.notes
          refl (λ e. rw (e, calm_form (first_form files.forms key) refl) refl)

      first_one : (o : Option FirstForm) → AllByRecursion (λ e. IsFineFirst e.0 e.1)
          (with_first_form files.forms image key form o)
      first_one (Some f) = fine.forms
      first_one None = inserted SectionKey FirstForm same_key one_key IsFineFirst files.forms key
          (record { image = image; form = form }) fine.forms h

  fine_fit : (files : Labelled) (p : Phase) (x : TapeItem) (t : Option Told) → FineFiles files
      → FineFiles (with_fit files p x t)
  fine_fit files p x t fine = record {
    notes = fitted t (fit_in files.fit p x);
    heads = fine.heads;
    forms = fine.forms;
  }
    where
      noted : (key : FileKey) (o : Option FileNote) (m : Option Misfit) (p : Option Padding)
          → lookup (same_file key) files.notes ≡ o
          → AllByRecursion (λ e. IsFineNote e.0 e.1) (with_blocks_of files.notes key o m p)
      noted key None m p is = fine.notes
      noted key (Some n) m p is = same_note files.notes key n _ is fine.notes refl (λ e. e)

      by_state : (s : SectionState) (t : Told) (fit : Fit) → t.1.state ≡ s
          → AllByRecursion (λ e. IsFineNote e.0 e.1) (with_blocks files.notes (Some t) fit)
      by_state Good t fit is = rw (is) (noted (file_key t.0.set_id t.0.file) _
          (misfit_in t.0.sect (misfit_of fit t.1)) (padding_in fit t.1) refl)
      by_state Bad t fit is = rw (is) (noted (file_key t.0.set_id t.0.file) _
          None (padding_if false fit.padding) refl)
      by_state Count t fit is = rw (is) fine.notes
      by_state Cut t fit is = rw (is) fine.notes

      fitted : (t : Option Told) (fit : Fit)
          → AllByRecursion (λ e. IsFineNote e.0 e.1) (with_blocks files.notes t fit)
      fitted None fit = fine.notes
      fitted (Some t) fit = by_state t.1.state t fit refl

  pub fine_label : (files : Labelled) (image : ℕ) (p : Phase) (x : TapeItem) → FineFiles files
      → IsFineLabel set (label_in p x) → IsFineForm set (form_in p x)
      → FineFiles (with_label image files p x)
  fine_label files image p x fine label form =
      fine_fit _ p x (step p x).1 (fine_form _ image (form_in p x)
      (fine_met files image (label_in p x) fine label) form)

  -- ---- copies

  abbrev IsFineCopy : SectionKey → CopyNote → Type 0
  IsFineCopy key n = (s : Section) × (section_of set key.file key.sect ≡ Some s)
      × (n.blocks ≡ length s.blocks) × (n.digest ≡ digest_of (bytes_of s.blocks))
      × (n.eof ≡ ends_file s) × (n.other ≡ None) × (n.other_end ≡ None)

  pub record FineCopies (c : Copied) : Type 0 where
    pub notes : AllByRecursion (λ e. IsFineCopy e.0 e.1) c.notes
    pub calm : c.conflicts ≡ []

  same_end : (a b : Bool) → a ≡ b → bool_eq a b ≡ true
  same_end true true e = refl
  same_end true false e = absurd (cc e)
  same_end false true e = absurd (cc e)
  same_end false false e = refl

  agreed : (n : CopyNote) (image : ℕ) (e : Entry) (digest : ℕ) → n.blocks ≡ e.blocks
      → n.digest ≡ digest → n.eof ≡ e.eof → copy_note (Some n) image e digest ≡ with_agreed n
  agreed n image e digest a b d =
      rw (eq-eqb n.blocks e.blocks a, eq-eqb n.digest digest b, same_end n.eof e.eof d) refl

  one_copy : (c : Copied) (image : ℕ) (y : Copy) → FineCopies c → IsExactCopy set y
      → (o : Option CopyNote) → noted_at c.notes y.0.0 ≡ o
      → IsFineCopy y.0.0 (copy_note o image y.0.1 (digest_of y.1))
  one_copy c image y fine (s, there, count, is, ends) None e =
      (s, there, count, ap digest_of is, ends, refl, refl)
  one_copy c image y fine (s, there, count, is, ends) (Some n) e =
      let (t, here, blocks, digest, eof, none, nor) = found_in SectionKey CopyNote same_key one_key
      IsFineCopy c.notes y.0.0 n e fine.notes in
      let same : t ≡ s = cc (here, there) in
      let a : n.blocks ≡ y.0.1.blocks = blocks ∙ ap (λ z. length z.blocks) same ∙ sym count in
      let b : n.digest ≡ digest_of y.1 = digest ∙ ap (λ z. digest_of (bytes_of z.blocks)) same
      ∙ sym (ap digest_of is) in
      let d : n.eof ≡ y.0.1.eof = eof ∙ ap ends_file same ∙ sym ends in
      subst (IsFineCopy y.0.0) (sym (agreed n image y.0.1 (digest_of y.1) a b d))
      (t, here, blocks, digest, eof, none, nor)

  no_dispute : (n : CopyNote) → n.other ≡ None → n.other_end ≡ None
      → is_some (opponent_of n) ≡ false
  no_dispute n a b = rw (a, b) refl

  pub fine_copies : (c : Copied) (image : ℕ) (ys : List Copy) → FineCopies c
      → AllByRecursion (IsExactCopy set) ys → FineCopies (with_copies image c ys)
  fine_copies c image [] fine all = fine
  fine_copies c image (y ∷ ys) fine (one, all) =
      let note = copy_note (noted_at c.notes y.0.0) image y.0.1 (digest_of y.1) in
      let is = one_copy c image y fine one (noted_at c.notes y.0.0) refl in
      fine_copies (with_good c image y.0.0 y.0.1 (digest_of y.1)) image ys (record {
        notes = inserted SectionKey CopyNote same_key one_key IsFineCopy c.notes y.0.0 note
            fine.notes is;
        calm = ap (λ b. with_conflict c.conflicts y.0.0 b) (no_dispute note is.5 is.6) ∙ fine.calm;
      }) all

  pub none_differs : (fs : List Filed) → AllByRecursion (λ e. IsFineNote e.0 e.1) fs
      → any_differs fs ≡ false
  none_differs [] all = refl
  none_differs (f ∷ fs) ((head, seq, calm), all) = rw (calm, none_differs fs all) refl
