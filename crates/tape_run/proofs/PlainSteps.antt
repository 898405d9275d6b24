-- The steps of a reader in the wider reading, and of the reader of the valid set of the same shape:
-- where they do not concern a second label or a block that is delivered, they are the same.
use Rattle.std.proofs.Common.{◌≡◌, ◌≢◌, ◌⊎◌, inl, inr, ℕ, zero, ◌+◌, List, [], ◌∷◌, Bool, true, false}
use Rattle.std.proofs.Common.{cond, Option, Some, None, Result, Ok, Err, refl, sym, ap, ◌∙◌, subst}
use Rattle.std.proofs.Common.{nat_lt, not, ◌==◌}
use Rattle.std.specs.Prelude.{⊤, take}
use Rattle.std.specs.Str.{bytes_eq}
use Rattle.tape_image.specs.Tape.{TapeItem, block as block', bad, mark}
use Rattle.tape_label.specs.declared.values.{Kind.Kind, Head1.Head1, Trail1.Trail1}
use Rattle.tape_label.specs.declared.label.LabelFault.{LabelFault}
use Rattle.tape_label.specs.declared.label.LabelFault.TheVariants as faults
use Rattle.tape_label.specs.declared.values.Kind.TheVariants as kinds
use Rattle.tape_label.specs.{Kinds.kind_at, Kinds.HasKind, VolumeLabels.is_volume_label}
use Rattle.tape_label.specs.{Reading.head1_at, Reading.trail1_at, Labels.no_kind}
use Rattle.tape_label.proofs.Apart.{kind_again, HasKind-unique, head1_none, trail1_refuses}
use Rattle.tape_label.proofs.VolumeLabels.{no_volume_label}
use Rattle.tape_blocks.specs.Block.{Portion, Holds}
use Rattle.tape_blocks.specs.{Spans.InOrder, Judged.begun_behind}
use Rattle.tape_set.specs.declared.position.Position.{Position}
use Rattle.tape_set.specs.declared.position.Position.TheVariants.{Awaits, Finished}
use Rattle.tape_set.specs.Position.{next_section, sect_of, block_of, part_of}
use Rattle.tape_set.specs.Lawful.{FileForm, most_blocks, label_count}
use Rattle.tape_core.specs.declared.event.{Answer.Answer, Reason.Reason, Heading.Heading}
use Rattle.tape_core.specs.declared.event.{Phase.Phase}
use Rattle.tape_core.specs.declared.event.Answer.TheVariants.{Passed, Deliver, SectionDone, Complete}
use Rattle.tape_core.specs.declared.event.Reason.TheVariants as reasons
use Rattle.tape_core.specs.declared.event.Reason.TheVariants.{NotLabelled, OtherSet, NotOnReel}
use Rattle.tape_core.specs.declared.event.Reason.TheVariants.{LaterSection, EarlierSection, BadItem}
use Rattle.tape_core.specs.declared.event.Reason.TheVariants.{ReelEnded, BlockCount, SpanLeft}
use Rattle.tape_core.specs.declared.event.Reason.TheVariants.{SectionDiffers, BadLabel}
use Rattle.tape_core.specs.declared.event.Phase.TheVariants.{Over, Broken, Volume, VolumeLabels}
use Rattle.tape_core.specs.declared.event.Phase.TheVariants.{Header2, Headers, DataPassed}
use Rattle.tape_core.specs.declared.event.Phase.TheVariants.{DataWanted, TrailerPassed}
use Rattle.tape_core.specs.declared.event.Phase.TheVariants.{TrailerWanted, Trailers, NextFile}
use Rattle.tape_core.specs.{State.State, State.told, Labels.heading_of, Labels.other_file_id}
use Rattle.tape_core.specs.Table.{Outcome, in_phase, passed, useless, broken, moved_to, first_label}
use Rattle.tape_core.specs.Table.{at_head1, first_labels, data_phase, delivered, at_data}
use Rattle.tape_core.specs.Table.{other_numbers, at_passed_trailer, at_end, at_wanted_trailer}
use Rattle.tape_core.specs.Table.{at_block, at_mark, at_bad, at_item, unless_complete, step_of}
use Rattle.tape_core.specs.Table.{mounted, mount_of}
use Rattle.tape_core.specs.Wide as Wide
use Rattle.tape_core.proofs.BlockLaws.{checked, same_front}
use Rattle.tape_run.proofs.PlainSets.{plain_form}

-- ---- the reader of the valid set

abbrev pub plain_known : Option FileForm → Option FileForm
plain_known None = None
plain_known (Some form) = Some (plain_form form)

abbrev pub plain_phase : Phase → Phase
plain_phase (Headers heading form) = Headers heading (plain_known form)
plain_phase (DataWanted heading form seen) = DataWanted heading (plain_form form) seen
plain_phase (TrailerWanted heading form) = TrailerWanted heading (plain_form form)
plain_phase phase = phase

abbrev pub plain : State → State
plain c = record {
  set_id = c.set_id;
  file = c.file;
  position = c.position;
  begun = false;
  known = plain_known c.known;
  phase = plain_phase c.phase;
}

abbrev pub plain_out : Outcome → Outcome
plain_out out = (out.0, plain out.1)

-- ---- steps that deliver nothing and do not move

pub record Still (c : State) (out : Outcome) : Type 0 where
  pub position : out.1.position ≡ c.position
  pub begun : out.1.begun ≡ c.begun
  pub known : out.1.known ≡ c.known
  pub told : (told out.1.phase ≡ None) ⊎ (told out.1.phase ≡ told c.phase)
  pub silent : out.0 ≢ Deliver

pub record Mirrors (c : State) (out its : Outcome) : Type 0 where
  pub same : its ≡ plain_out out
  pub still : Still c out

useless_m : (c : State) (why : Reason) → Mirrors c (useless c why) (useless (plain c) why)
useless_m c why = record {
  same = refl;
  still = record {
    position = refl;
    begun = refl;
    known = refl;
    told = inl refl;
    silent = λ e. cc;
  };
}

broken_m : (c : State) (why : Reason) → Mirrors c (broken c why) (broken (plain c) why)
broken_m c why = record {
  same = refl;
  still = record {
    position = refl;
    begun = refl;
    known = refl;
    told = inl refl;
    silent = λ e. cc;
  };
}

pub passed_m : (c : State) (phase : Phase) → (told phase ≡ None) ⊎ (told phase ≡ told c.phase)
    → Mirrors c (passed c phase) (passed (plain c) (plain_phase phase))
passed_m c phase t = record {
  same = refl;
  still = record { position = refl; begun = refl; known = refl; told = t; silent = λ e. cc };
}

either_m : (c : State) (t : Bool) (x y its other : Outcome) → Mirrors c x its → Mirrors c y other
    → Mirrors c (cond t x y) (cond t its other)
either_m c true x y its other a b = a
either_m c false x y its other a b = b

-- ---- labels

-- two blocks that are read as the same labels, except for second labels
pub record ReadAlike (b d : List ℕ) : Type 0 where
  pub kind : kind_at b ≡ kind_at d
  pub volume : is_volume_label b ≡ is_volume_label d
  pub head1 : head1_at b ≡ head1_at d
  pub trail1 : trail1_at b ≡ trail1_at d

pub read_same : (b : List ℕ) → ReadAlike b b
read_same b = record { kind = refl; volume = refl; head1 = refl; trail1 = refl }

pub read_seconds : (b d : List ℕ) → HasKind b kinds.Hdr2 → HasKind d kinds.Hdr2 → ReadAlike b d
read_seconds b d h g =
    let no : (l : List ℕ) → HasKind l kinds.Hdr2 → HasKind l kinds.Hdr1 → ⊥ =
    λ l two one. let e = HasKind-unique l kinds.Hdr2 kinds.Hdr1 two one in cc e in
    let faults_same : no_kind b ≡ no_kind d = rw (h.size, g.size) refl in
    record {
      kind = kind_again b kinds.Hdr2 h ∙ sym (kind_again d kinds.Hdr2 g);
      volume = no_volume_label b kinds.Hdr2 h (λ e. cc e)
          ∙ sym (no_volume_label d kinds.Hdr2 g (λ e. cc e));
      head1 = head1_none b (no b h) ∙ (ap (λ z. Err z) faults_same ∙ sym (head1_none d (no d g)));
      trail1 = trail1_refuses b kinds.Hdr2 h (λ e. e) ∙ sym (trail1_refuses d kinds.Hdr2 g (λ e. e));
    }

other_same : (known : Option FileForm) (id : List ℕ)
    → other_file_id (plain_known known) id ≡ other_file_id known id
other_same None id = refl
other_same (Some form) id = refl

head1_m : (c : State) (r : Result Head1 LabelFault)
    → Mirrors c (at_head1 c r) (at_head1 (plain c) r)
head1_m c (Err fault) = useless_m c (BadLabel fault)
head1_m c (Ok h) =
    rw (other_same c.known h.file_id)
    (either_m c (not (bytes_eq h.set_id c.set_id)) _ _ _ _ (useless_m c OtherSet)
    (either_m c (nat_lt h.sequence c.file) _ _ _ _
    (passed_m c (Header2 (heading_of h) false) (inl refl))
    (either_m c (nat_lt c.file h.sequence) _ _ _ _ (useless_m c NotOnReel)
    (either_m c (nat_lt h.sect (sect_of c.position)) _ _ _ _ (useless_m c EarlierSection)
    (either_m c (nat_lt (sect_of c.position) h.sect) _ _ _ _ (useless_m c LaterSection)
    (either_m c (other_file_id c.known h.file_id) _ _ _ _ (useless_m c SectionDiffers)
    (passed_m c (Header2 (heading_of h) true) (inl refl))))))))

head1s_m : (c : State) (b d : List ℕ) → head1_at b ≡ head1_at d
    → Mirrors c (at_head1 c (head1_at b)) (at_head1 (plain c) (head1_at d))
head1s_m c b d e = subst (λ (r : Result Head1 LabelFault).
    Mirrors c (at_head1 c (head1_at b)) (at_head1 (plain c) r)) e (head1_m c (head1_at b))

first_m : (c : State) (k : Option Kind) → Mirrors c (first_label c k) (first_label (plain c) k)
first_m c (Some kinds.Vol1) = passed_m c VolumeLabels (inl refl)
first_m c k = useless_m c NotLabelled

labels_m : (c : State) (b d : List ℕ) (k : Option Kind) → head1_at b ≡ head1_at d
    → Mirrors c (first_labels c b k) (first_labels (plain c) d k)
labels_m c b d (Some kinds.Hdr1) e = head1s_m c b d e
labels_m c b d k e = useless_m c NotLabelled

passed_trailer_m : (c : State) (heading : Heading) (r : Result Trail1 LabelFault)
    → Mirrors c (at_passed_trailer c heading r) (at_passed_trailer (plain c) heading r)
passed_trailer_m c heading (Err fault) = useless_m c (BadLabel fault)
passed_trailer_m c heading (Ok t) = either_m c (other_numbers heading t) _ _ _ _
    (useless_m c SectionDiffers) (passed_m c Trailers (inl refl))

-- ---- items

-- the block is no second label that is expected, no block that may be delivered, and no trailer
-- label of the section needed
abbrev pub IsQuiet : State → Phase → List ℕ → Type 0
IsQuiet c (Header2 heading wanted) b = ⊥
IsQuiet c (DataWanted heading form seen) b = nat_lt seen (block_of c.position) ≡ true
IsQuiet c (TrailerWanted heading form) b = ⊥
IsQuiet c phase b = ⊤

block_m : (c : State) (phase : Phase) → c.phase ≡ phase → (b d : List ℕ) → ReadAlike b d
    → IsQuiet c phase b
    → Mirrors c (at_block c phase b) (at_block (plain c) (plain_phase phase) d)
block_m c Over e b d r q = useless_m c ReelEnded
block_m c Broken e b d r q = broken_m c reasons.Broken
block_m c Volume e b d r q =
    subst (λ (k : Option Kind). Mirrors c (first_label c (kind_at b)) (first_label (plain c) k))
    r.kind (first_m c (kind_at b))
block_m c VolumeLabels e b d r q =
    rw (sym r.volume, sym r.kind)
    (either_m c (is_volume_label b) _ _ _ _ (passed_m c VolumeLabels (inl refl))
    (labels_m c b d (kind_at b) r.head1))
block_m c (Header2 heading wanted) e b d r q = absurd q
block_m c (Headers heading wanted) e b d r q =
    passed_m c (Headers heading wanted) (inr (ap told (sym e)))
block_m c (DataPassed heading) e b d r q = passed_m c (DataPassed heading) (inl refl)
block_m c (DataWanted heading form seen) e b d r q =
    rw q (passed_m c (DataWanted heading form (seen + 1)) (inr (ap told (sym e))))
block_m c (TrailerPassed heading) e b d r q =
    subst (λ (z : Result Trail1 LabelFault). Mirrors c (at_passed_trailer c heading (trail1_at b))
    (at_passed_trailer (plain c) heading z)) r.trail1 (passed_trailer_m c heading (trail1_at b))
block_m c (TrailerWanted heading form) e b d r q = absurd q
block_m c Trailers e b d r q = passed_m c Trailers (inl refl)
block_m c NextFile e b d r q = head1s_m c b d r.head1

abbrev IsNoSecond : Phase → Type 0
IsNoSecond (Header2 heading wanted) = ⊥
IsNoSecond phase = ⊤

mark_m : (c : State) (phase : Phase) → c.phase ≡ phase → IsNoSecond phase
    → Mirrors c (at_mark c phase) (at_mark (plain c) (plain_phase phase))
mark_m c Over e q = useless_m c ReelEnded
mark_m c Broken e q = broken_m c reasons.Broken
mark_m c Volume e q = useless_m c NotLabelled
mark_m c VolumeLabels e q = useless_m c NotLabelled
mark_m c (Header2 heading wanted) e q = absurd q
mark_m c (Headers heading None) e q = passed_m c (DataPassed heading) (inl refl)
mark_m c (Headers heading (Some form)) e q =
    passed_m c (DataWanted heading form 0) (inr (ap told (sym e)))
mark_m c (DataPassed heading) e q = passed_m c (TrailerPassed heading) (inl refl)
mark_m c (DataWanted heading form seen) e q =
    either_m c (nat_lt seen (block_of c.position)) _ _ _ _ (useless_m c SectionDiffers)
    (passed_m c (TrailerWanted heading form) (inr (ap told (sym e))))
mark_m c (TrailerPassed heading) e q = useless_m c (BadLabel faults.Identifier)
mark_m c (TrailerWanted heading form) e q = useless_m c (BadLabel faults.Identifier)
mark_m c Trailers e q = passed_m c NextFile (inl refl)
mark_m c NextFile e q = useless_m c NotOnReel

bad_m : (c : State) (phase : Phase) → c.phase ≡ phase
    → Mirrors c (at_bad c phase) (at_bad (plain c) (plain_phase phase))
bad_m c Over e = useless_m c ReelEnded
bad_m c Broken e = broken_m c reasons.Broken
bad_m c (DataPassed heading) e = passed_m c (DataPassed heading) (inl refl)
bad_m c (DataWanted heading form seen) e =
    either_m c (nat_lt seen (block_of c.position)) _ _ _ _
    (passed_m c (DataWanted heading form (seen + 1)) (inr (ap told (sym e))))
    (useless_m c BadItem)
bad_m c _ e = useless_m c BadItem

-- the same for two items
abbrev pub ItemsAlike : TapeItem → TapeItem → Type 0
ItemsAlike (block' b) (block' d) = ReadAlike b d
ItemsAlike bad bad = ⊤
ItemsAlike mark mark = ⊤
ItemsAlike x y = ⊥

pub items_same : (x : TapeItem) → ItemsAlike x x
items_same (block' b) = read_same b
items_same bad = tt
items_same mark = tt

abbrev pub IsQuietItem : State → Phase → TapeItem → Type 0
IsQuietItem c phase (block' b) = IsQuiet c phase b
IsQuietItem c phase mark = IsNoSecond phase
IsQuietItem c phase bad = ⊤

item_m : (c : State) (phase : Phase) → c.phase ≡ phase → (x y : TapeItem) → ItemsAlike x y
    → IsQuietItem c phase x
    → Mirrors c (at_item c phase x) (at_item (plain c) (plain_phase phase) y)
item_m c phase e (block' b) (block' d) a q = block_m c phase e b d a q
item_m c phase e bad bad a q = bad_m c phase e
item_m c phase e mark mark a q = mark_m c phase e q
item_m c phase e (block' b) bad a q = absurd a
item_m c phase e (block' b) mark a q = absurd a
item_m c phase e bad (block' d) a q = absurd a
item_m c phase e bad mark a q = absurd a
item_m c phase e mark (block' d) a q = absurd a
item_m c phase e mark bad a q = absurd a

complete_m : (c : State) → Mirrors c (Complete, c) (Complete, plain c)
complete_m c = record {
  same = refl;
  still = record {
    position = refl;
    begun = refl;
    known = refl;
    told = inr refl;
    silent = λ e. cc;
  };
}

unless_m : (c : State) (p : Position) (out its : Outcome) → Mirrors c out its
    → Mirrors c (unless_complete c p out) (unless_complete (plain c) p its)
unless_m c Finished out its m = complete_m c
unless_m c (Awaits sect b part) out its m = m

strict_m : (c : State) (x y : TapeItem) → ItemsAlike x y → IsQuietItem c c.phase x
    → Mirrors c (step_of c (Some x)) (step_of (plain c) (Some y))
strict_m c x y a q =
    unless_m c c.position (at_item c c.phase x) (at_item (plain c) (plain_phase c.phase) y)
    (item_m c c.phase refl x y a q)

-- ---- the wider reading

second_bad : (c : State) (heading : Heading) (wanted : Bool) (p : Position)
    → Wide.by_phase c (Header2 heading wanted) p (Some bad) ≡ step_of c (Some bad)
second_bad c heading wanted Finished = refl
second_bad c heading wanted (Awaits sect b part) = refl

quiet_by : (c : State) (phase : Phase) → c.phase ≡ phase → (x : TapeItem)
    → IsQuietItem c phase x
    → Wide.by_phase c phase c.position (Some (Wide.item_by phase x)) ≡ step_of c (Some x)
quiet_by c (Header2 heading wanted) e (block' b) q = absurd q
quiet_by c (Header2 heading wanted) e mark q = absurd q
quiet_by c (Header2 heading wanted) e bad q = second_bad c heading wanted c.position
quiet_by c (DataWanted heading form seen) e (block' b) q = rw (e, q) refl
quiet_by c (DataWanted heading form seen) e mark q = refl
quiet_by c (DataWanted heading form seen) e bad q = refl
quiet_by c _ e (block' b) q = refl
quiet_by c _ e mark q = refl
quiet_by c _ e bad q = refl

-- A step of the wider reading that is quiet, and that of the reader of the valid set.
pub quiet_step : (c : State) (x y : TapeItem) → ItemsAlike x y → IsQuietItem c c.phase x
    → Mirrors c (Wide.step_by true c (Some x)) (step_of (plain c) (Some y))
quiet_step c x y a q = subst (λ (z : Outcome). Mirrors c z (step_of (plain c) (Some y)))
    (sym (quiet_by c c.phase refl x q)) (strict_m c x y a q)

finished_by : (c : State) (phase : Phase) (p : Position) (arrived : Option TapeItem)
    → p ≡ Finished → Wide.by_phase c phase p arrived ≡ step_of c arrived
finished_by c (Header2 heading wanted) Finished arrived e = refl
finished_by c (Header2 heading wanted) (Awaits sect b part) arrived e = absurd (cc)
finished_by c _ p arrived e = refl

complete_by : (c : State) (p : Position) (out : Outcome) → p ≡ Finished
    → unless_complete c p out ≡ (Complete, c)
complete_by c Finished out e = refl
complete_by c (Awaits sect b part) out e = absurd (cc)

-- The same if the file is complete.
pub finished_step : (c : State) (x y : TapeItem) → c.position ≡ Finished
    → Mirrors c (Wide.step_by true c (Some x)) (step_of (plain c) (Some y))
finished_step c x y e =
    let wide : Wide.step_by true c (Some x) ≡ (Complete, c) =
    finished_by c c.phase c.position (Some (Wide.content_item c x)) e
    ∙ complete_by c c.position _ e in
    let its : step_of (plain c) (Some y) ≡ (Complete, plain c) =
    complete_by (plain c) c.position _ e in
    subst (λ (z : Outcome). Mirrors c z (step_of (plain c) (Some y))) (sym wide)
    (subst (λ (z : Outcome). Mirrors c (Complete, c) z) (sym its) (complete_m c))

-- ---- the trailer label of the section needed

-- the state does not move, or is at the end of the section or of the file
abbrev pub EndsBy : State → FileForm → Result Trail1 LabelFault → Outcome → Type 0
EndsBy c form r out = Still c out ⊎ ((t : Trail1) × (r ≡ Ok t)
    × (out ≡ cond t.eof (Complete, moved_to c Finished false form Over)
    (SectionDone, moved_to c (next_section c.position) c.begun form Over)))

pub record Closes (c : State) (form : FileForm) (r : Result Trail1 LabelFault)
    (out its : Outcome) : Type 0 where
  pub same : its ≡ plain_out out
  pub ends : EndsBy c form r out

still_c : (c : State) (form : FileForm) (r : Result Trail1 LabelFault) (out its : Outcome)
    → Mirrors c out its → Closes c form r out its
still_c c form r out its m = record { same = m.same; ends = inl m.still }

either_c : (c : State) (form : FileForm) (r : Result Trail1 LabelFault) (t : Bool)
    (x y its other : Outcome) → Closes c form r x its → Closes c form r y other
    → Closes c form r (cond t x y) (cond t its other)
either_c c form r true x y its other a b = a
either_c c form r false x y its other a b = b

end_c : (c : State) (form : FileForm) (t : Trail1) (eof : Bool) → t.eof ≡ eof
    → (eof ≡ true → c.begun ≡ false)
    → Closes c form (Ok t) (at_end c form eof) (at_end (plain c) (plain_form form) eof)
end_c c form t true e closed = rw (closed refl) (record {
  same = refl;
  ends = inr (t, refl, rw e refl);
})
end_c c form t false e closed =
    either_c c form (Ok t) (not (nat_lt (sect_of c.position) 9999)) _ _ _ _
    (still_c c form (Ok t) _ _ (useless_m c SectionDiffers))
    (record { same = refl; ends = inr (t, refl, rw e refl) })

trailer_c : (c : State) (heading : Heading) (form : FileForm) (r : Result Trail1 LabelFault)
    → ((t : Trail1) → r ≡ Ok t → t.eof ≡ true → c.begun ≡ false)
    → Closes c form r (at_wanted_trailer c heading form r)
    (at_wanted_trailer (plain c) heading (plain_form form) r)
trailer_c c heading form (Err fault) closed =
    still_c c form (Err fault) _ _ (useless_m c (BadLabel fault))
trailer_c c heading form (Ok t) closed =
    either_c c form (Ok t) (other_numbers heading t) _ _ _ _
    (still_c c form (Ok t) _ _ (useless_m c SectionDiffers))
    (either_c c form (Ok t) (not (t.blocks == label_count (block_of c.position))) _ _ _ _
    (still_c c form (Ok t) _ _ (broken_m c (BlockCount t.blocks (block_of c.position))))
    (end_c c form t t.eof refl (closed t refl)))

pub awaits_by : (c : State) (p : Position) (out : Outcome) (sect b part : ℕ)
    → p ≡ Awaits sect b part → unless_complete c p out ≡ out
awaits_by c (Awaits i j k) out sect b part e = refl
awaits_by c Finished out sect b part e = absurd (cc)

trailer_by : (c : State) (heading : Heading) (form : FileForm) (b : List ℕ) (sect n part : ℕ)
    → c.position ≡ Awaits sect n part → (phase : Phase) → c.phase ≡ phase
    → phase ≡ TrailerWanted heading form
    → Wide.by_phase c phase c.position (Some (Wide.item_by phase (block' b)))
    ≡ at_wanted_trailer c heading form (trail1_at b)
trailer_by c heading form b sect n part p (TrailerWanted h f) e is =
    let two : h ≡ heading = cc is in
    let its : f ≡ form = cc is in
    awaits_by c c.position (at_item c c.phase (block' b)) sect n part p
    ∙ rw (e, two, its) refl
trailer_by c heading form b sect n part p _ e is = absurd (cc)

pub trailer_step : (c : State) (heading : Heading) (form : FileForm) (b : List ℕ)
    (sect n part : ℕ) → c.position ≡ Awaits sect n part → c.phase ≡ TrailerWanted heading form
    → ((t : Trail1) → trail1_at b ≡ Ok t → t.eof ≡ true → c.begun ≡ false)
    → Closes c form (trail1_at b) (Wide.step_by true c (Some (block' b)))
    (step_of (plain c) (Some (block' b)))
trailer_step c heading form b sect n part p e closed =
    let wide = trailer_by c heading form b sect n part p c.phase refl e in
    let its : step_of (plain c) (Some (block' b))
    ≡ at_wanted_trailer (plain c) heading (plain_form form) (trail1_at b) =
    awaits_by (plain c) c.position (at_item (plain c) (plain_phase c.phase) (block' b)) sect n part
    p ∙ ap (λ (z : Phase). at_item (plain c) (plain_phase z) (block' b)) e in
    subst (λ (z : Outcome). Closes c form (trail1_at b) z (step_of (plain c) (Some (block' b))))
    (sym wide)
    (subst (λ (z : Outcome). Closes c form (trail1_at b)
    (at_wanted_trailer c heading form (trail1_at b)) z) (sym its)
    (trailer_c c heading form (trail1_at b) closed))

-- ---- a block that is delivered

pub data_is : (c : State) (heading : Heading) (form : FileForm) (seen : ℕ) (bytes : List ℕ)
    (parts : List Portion) (end : Bool) → part_of c.position ≡ 0
    → nat_lt seen (block_of c.position) ≡ false
    → nat_lt (block_of c.position) most_blocks ≡ true
    → Holds form.format form.rec_len form.offset bytes parts → InOrder c.begun parts end
    → at_data c heading form seen bytes ≡ delivered c heading form end
data_is c heading form seen bytes parts end first here more held order =
    let now : c.begun ≡ begun_behind c.begun (take (part_of c.position) parts) =
    subst (λ n. c.begun ≡ begun_behind c.begun (take n parts)) (sym first) refl in
    rw (
      here,
      more,
      checked form bytes parts c.begun c.begun end (part_of c.position) held order (inl first)
          now,
      same_front form bytes parts c.begun c.begun end (part_of c.position) held order (inl first)
          now,
    ) refl

-- ---- a mount

pub plain_mounted : (phase : Phase) (p : Position)
    → mounted (plain_phase phase) p ≡ plain_phase (mounted phase p)
plain_mounted Broken p = refl
plain_mounted _ Finished = refl
plain_mounted _ (Awaits sect b part) = refl

pub mounts_plain : (c : State) → mount_of (plain c) ≡ plain (mount_of c)
mounts_plain c = ap (λ (z : Phase). in_phase (plain c) z) (plain_mounted c.phase c.position)
