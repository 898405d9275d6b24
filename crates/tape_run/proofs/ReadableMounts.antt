-- A mount of a copy of a set that the wider reading recovers, or of a foreign reel, in the wider
-- reading: the position after it, and the parts that it delivers.
use Rattle.std.proofs.Common.{◌≡◌, ◌≢◌, ◌⊎◌, inl, inr, ◌≤◌, ℕ, zero, suc, ◌+◌, List, [], ◌∷◌, ◌++◌}
use Rattle.std.proofs.Common.{Bool, true, false, cond, Option, Some, None, refl, sym, ap, ◌∙◌, subst}
use Rattle.std.proofs.Common.{arith, length, length-append, slice_get, map, drop, take, IsSome}
use Rattle.std.proofs.Common.{append_assoc, append-nil}
use Rattle.std.proofs.lemmas.List.{length-map}
use Rattle.std.specs.Prelude.{⊤}
use Rattle.tape_image.specs.Tape.{TapeItem, block as block', bad, mark}
use Rattle.tape_blocks.specs.Block.{Portion}
use Rattle.tape_set.specs.declared.position.Position.{Position}
use Rattle.tape_set.specs.declared.position.Position.TheVariants.{Awaits, Finished}
use Rattle.tape_set.specs.Position.{part_of}
use Rattle.tape_set.specs.Layout.{FileSet, Volume, Entry, item_of, nth, entries, items, section_of}
use Rattle.tape_set.specs.{Before.before, Before.IsIn, Reading.Reading, Reading.as_read}
use Rattle.tape_set.specs.Reach.{far, passes}
use Rattle.tape_set.specs.Lawful.{FileForm}
use Rattle.tape_set.specs.Readable.{IsReadable}
use Rattle.tape_core.specs.declared.event.{Answer.Answer, Phase.Phase}
use Rattle.tape_core.specs.declared.event.Answer.TheVariants.{Deliver}
use Rattle.tape_core.specs.declared.event.Phase.TheVariants.{Over, Broken, Volume as AtVolume}
use Rattle.tape_core.specs.declared.event.Phase.TheVariants.{VolumeLabels, Header2, DataWanted}
use Rattle.tape_core.specs.declared.event.Phase.TheVariants.{Headers, TrailerWanted}
use Rattle.tape_core.specs.{State.State, State.told, State.is_broken, Place.rest_of, Place.resting}
use Rattle.tape_core.specs.Table.{Outcome, mount_of, mounted, step_of}
use Rattle.tape_core.specs.Wide as Wide
use Rattle.tape_core.specs.Follows.{IsAt, IsReading, reading}
use Rattle.tape_core.specs.Foreign.{IsForeignAt, IsForeignIn, starts_set}
use Rattle.tape_core.proofs.{Aim.aim_of, PositionSteps.whole_over, IdleSteps.idle_whole}
use Rattle.tape_core.proofs.Steps.{mounts, position_reads, item_at}
use Rattle.tape_core.proofs.ForeignLaws.{foreign_mount, foreign_step}
use Rattle.tape_run.specs.{Reels.behind_items, ByTable.delivered_parts, ByTable.parts_at}
use Rattle.tape_run.specs.Mount.{MountEvent, reads, foreign_reel, saves, restarts, IsCopy, IsMount}
use Rattle.tape_run.specs.Mount.{after_mount}
use Rattle.tape_run.proofs.ByTable.{puts_delivered, puts_none}
use Rattle.tape_run.proofs.CopyAlong.{first_of}
use Rattle.tape_run.proofs.PlainSets.{plain_set, plain_lawful}
use Rattle.tape_run.proofs.PlainShape.{alike_length, alike_passes, entries_alike, found_back}
use Rattle.tape_run.proofs.PlainShape.{far_same}
use Rattle.tape_run.proofs.PlainSteps.{plain, plain_out, plain_phase, plain_mounted, mounts_plain}
use Rattle.tape_run.proofs.PlainSteps.{IsQuietItem, quiet_step, finished_step, items_same, Mirrors}
use Rattle.tape_run.proofs.ReadableSteps.{Fine, GivesParts, AllRead, Stepped, next_item}
use Rattle.tape_run.proofs.ReadableSteps.{mirrors_taken, stepped_by}

-- ---- some items

-- The reader took these items: it has a position in the file, and exactly the parts that they
-- deliver were added to those before the position.
pub record Led (set : FileSet) (c : State) (xs : List TapeItem) : Type 0 where
  pub at : IsAt (plain_set set) (plain (behind_items true c xs))
  pub fine : Fine set (behind_items true c xs)
  pub same_file : (behind_items true c xs).file ≡ c.file
  pub parts : before set c.file (behind_items true c xs).position
      ≡ before set c.file c.position ++ delivered_parts true c xs

led_none : (set : FileSet) (c : State) → IsAt (plain_set set) (plain c) → Fine set c → Led set c []
led_none set c at fine = record {
  at = at;
  fine = fine;
  same_file = refl;
  parts = sym (append-nil (before set c.file c.position));
}

-- the parts that an item delivers
item_parts : (set : FileSet) (c : State) (x : TapeItem) → Fine set c
    → GivesParts set c x (Wide.step_by true c (Some x))
    → before set c.file (Wide.step_by true c (Some x)).1.position
    ≡ before set c.file c.position ++ parts_at true c x
item_parts set c x fine (inl (silent, same)) =
    same ∙ puts_none true c (Wide.step_by true c (Some x)).1 (Wide.step_by true c (Some x)).0
    (Some x) (before set c.file c.position) refl silent
item_parts set c x fine (inr (parts, d, more)) =
    let its : drop (part_of c.position) parts ≡ parts_at true c x =
    puts_delivered true c (Wide.step_by true c (Some x)).1 (Wide.step_by true c (Some x)).0
    (Some x) x d.bytes d.form parts (part_of c.position) refl d.answer refl d.taken d.known d.held
    refl in
    let same : parts ≡ parts_at true c x =
    ap (λ (n : ℕ). drop n parts) (sym fine.first) ∙ its in
    more ∙ ap (λ (z : List Portion). before set c.file c.position ++ z) same

led_more : (set : FileSet) (c : State) (x : TapeItem) (xs : List TapeItem) → Fine set c
    → (Wide.step_by true c (Some x)).1.file ≡ c.file
    → GivesParts set c x (Wide.step_by true c (Some x))
    → Led set (Wide.step_by true c (Some x)).1 xs → Led set c (x ∷ xs)
led_more set c x xs fine f gives l =
    let mid = (Wide.step_by true c (Some x)).1 in
    let last = behind_items true mid xs in
    let same : before set c.file last.position
    ≡ before set c.file mid.position ++ delivered_parts true mid xs =
    subst (λ (n : ℕ). before set n last.position
    ≡ before set n mid.position ++ delivered_parts true mid xs) f l.parts in
    record {
      at = l.at;
      fine = l.fine;
      same_file = l.same_file ∙ f;
      parts = same
          ∙ (ap (λ (z : List Portion). z ++ delivered_parts true mid xs)
          (item_parts set c x fine gives)
          ∙ append_assoc (before set c.file c.position) (parts_at true c x)
          (delivered_parts true mid xs));
    }

-- ---- the items of a volume

pub record Walked (set : FileSet) (p : Position) (k : ℕ) (good : List Bool) (c : State)
    (xs : List TapeItem) : Type 0 where
  pub led : Led set c xs
  pub reads : IsReading (plain_set set) p k good (plain (behind_items true c xs))

plain_over : (phase : Phase) → plain_phase phase ≡ Over → phase ≡ Over
plain_over Over e = refl
plain_over (Headers heading form) e = absurd (cc e)
plain_over (DataWanted heading form seen) e = absurd (cc e)
plain_over (TrailerWanted heading form) e = absurd (cc e)
plain_over _ e = absurd (cc e)

quiet_over : (c : State) (x : TapeItem) → IsQuietItem c Over x
quiet_over c (block' b) = tt
quiet_over c bad = tt
quiet_over c mark = tt

module _ (set : FileSet) (is : IsReadable set) (p : Position) (k : ℕ) (v : Volume)
    (vol : nth set.volumes k ≡ Some v) where
  -- the items after a complete volume
  idle_quiet : (good : List Bool) (c : State) (x : TapeItem)
      → IsReading (plain_set set) p k good (plain c)
      → length good ≡ length (entries (plain_set set) k)
      → passes good (entries (plain_set set) k) ≡ true
      → Mirrors c (Wide.step_by true c (Some x)) (step_of (plain c) (Some x))
  idle_quiet good c x r n q = go p r
    where
      go : (z : Position) → IsReading (plain_set set) z k good (plain c)
          → Mirrors c (Wide.step_by true c (Some x)) (step_of (plain c) (Some x))
      go Finished h = finished_step c x x h.follows
      go (Awaits sect b part) h =
          let over = whole_over (aim_of (plain_set set) (plain_lawful set is) (plain c) sect b part
          k v vol good h) (plain c).phase h.follows n q in
          let its : c.phase ≡ Over = plain_over c.phase over in
          quiet_step c x x (items_same x)
          (subst (λ (z : Phase). IsQuietItem c z x) (sym its) (quiet_over c x))

  idle : (more : List TapeItem) (good : List Bool) (c : State) → Fine set c
      → IsReading (plain_set set) p k good (plain c)
      → length good ≡ length (items set k) → passes good (entries set k) ≡ true
      → Walked set p k good c more
  idle [] good c fine r n q = record { led = led_none set c r.at fine; reads = r }
  idle (x ∷ more) good c fine r n q =
      let alike = entries_alike set is k in
      let size : length good ≡ length (entries (plain_set set) k) =
      n ∙ (length-map (entries set k) item_of
      ∙ alike_length (entries set k) (entries (plain_set set) k) alike) in
      let whole : passes good (entries (plain_set set) k) ≡ true =
      sym (alike_passes good (entries set k) (entries (plain_set set) k) alike) ∙ q in
      let m = idle_quiet good c x r size whole in
      let some : IsSome (nth set.volumes k) = subst (λ (z : Option Volume). IsSome z) (sym vol) refl in
      let idle_one = idle_whole (plain c) (plain_set set) p k good x (plain_lawful set is) some r
      (size ∙ sym (length-map (entries (plain_set set) k) item_of)) whole in
      let step = stepped_by set p k good c x x idle_one.reads
      (mirrors_taken set c x (step_of (plain c) (Some x)) fine m) in
      let rest = idle more good (Wide.step_by true c (Some x)).1 step.fine step.reads n q in
      record {
        led = led_more set c x more fine step.same_file step.gives rest.led;
        reads = rest.reads;
      }

  -- the items of the volume, and those after it
  walk : (rest : List TapeItem) (todo done : List Bool) (more : List TapeItem) (c : State)
      → Fine set c → IsReading (plain_set set) p k done (plain c)
      → drop (length done) (items set k) ≡ rest → length todo ≤ length rest
      → (more ≢ [] → (length (done ++ todo) ≡ length (items set k))
      × (passes (done ++ todo) (entries set k) ≡ true))
      → Walked set p k (done ++ todo) c (as_read rest todo ++ more)
  walk rest [] done more c fine r e n behind = go rest more behind
    where
      same : done ++ [] ≡ done
      same = append-nil done

      at_more : (ys : List TapeItem)
          → (ys ≢ [] → (length (done ++ []) ≡ length (items set k))
          × (passes (done ++ []) (entries set k) ≡ true)) → Walked set p k (done ++ []) c ys
      at_more [] b = record {
        led = led_none set c r.at fine;
        reads = subst (λ z. IsReading (plain_set set) p k z (plain c)) (sym same) r;
      }
      at_more (y ∷ ys) b =
          let all = b (λ q. cc q) in
          idle (y ∷ ys) (done ++ []) c fine
          (subst (λ z. IsReading (plain_set set) p k z (plain c)) (sym same) r) all.0 all.1

      go : (xs ys : List TapeItem)
          → (ys ≢ [] → (length (done ++ []) ≡ length (items set k))
          × (passes (done ++ []) (entries set k) ≡ true))
          → Walked set p k (done ++ []) c (as_read xs [] ++ ys)
      go [] ys b = at_more ys b
      go (x ∷ xs) ys b = at_more ys b
  walk [] (g ∷ todo) done more c fine r e n behind = absurd (omega (arith, n))
  walk (x ∷ rest) (g ∷ todo) done more c fine r e n behind =
      let here = first_of (items set k) (length done) x rest e in
      let entry = item_at (entries set k) (length done) x here.there in
      let y = cond g x bad in
      let step : Stepped set p k (done ++ g ∷ []) c y =
      subst (λ (z : TapeItem). Stepped set p k (done ++ g ∷ []) c (cond g z bad)) entry.2
      (next_item set is p k v vol done g c fine r entry.0 entry.1) in
      let count : length (done ++ g ∷ []) ≡ length done + 1 = length-append done (g ∷ []) in
      let whole : (done ++ g ∷ []) ++ todo ≡ done ++ g ∷ todo = append_assoc done (g ∷ []) todo in
      let next = walk rest todo (done ++ g ∷ []) more (Wide.step_by true c (Some y)).1 step.fine
      step.reads (ap (λ (z : ℕ). drop z (items set k)) count ∙ here.behind) (omega (arith, n))
      (subst (λ z. more ≢ [] → (length z ≡ length (items set k))
      × (passes z (entries set k) ≡ true)) (sym whole) behind) in
      record {
        led = led_more set c y (as_read rest todo ++ more) fine step.same_file step.gives next.led;
        reads = subst (λ z. IsReading (plain_set set) p k z
            (plain (behind_items true (Wide.step_by true c (Some y)).1 (as_read rest todo ++ more))))
            whole next.reads;
      }

-- ---- a reader between two reels

pub record Rests (set : FileSet) (c : State) : Type 0 where
  pub at : IsAt (plain_set set) (plain c)
  pub fine : Fine set c

told_resting : (set : FileSet) (file : ℕ) (phase : Phase)
    → AllRead set file (told (resting phase))
told_resting set file Broken = tt
told_resting set file _ = tt

sound_resting : (phase : Phase) → is_broken (plain_phase phase) ≡ false
    → is_broken (plain_phase (resting phase)) ≡ false
sound_resting Broken e = e
sound_resting _ e = refl

rests_after : (set : FileSet) (c : State) → IsAt (plain_set set) (plain c) → Fine set c
    → Rests set (rest_of c)
rests_after set c at fine = record {
  at = record {
    of_set = at.of_set;
    sound = sound_resting c.phase at.sound;
    stands = at.stands;
  };
  fine = record {
    known = fine.known;
    told = told_resting set c.file c.phase;
    begun = fine.begun;
    first = fine.first;
  };
}

told_mounted : (set : FileSet) (file : ℕ) (phase : Phase) (p : Position)
    → AllRead set file (told (mounted phase p))
told_mounted set file Broken p = tt
told_mounted set file _ Finished = tt
told_mounted set file _ (Awaits sect b part) = tt

fine_mounted : (set : FileSet) (c : State) → Fine set c → Fine set (mount_of c)
fine_mounted set c fine = record {
  known = fine.known;
  told = told_mounted set c.file c.phase c.position;
  begun = fine.begun;
  first = fine.first;
}

-- ---- a mount

-- the reader after the mount of these items
abbrev pub after_reel : State → List TapeItem → State
after_reel c xs = rest_of (behind_items true (mount_of c) xs)

pub record Mounted (set : FileSet) (c : State) (xs : List TapeItem) (h : MountEvent)
    : Type 0 where
  pub rests : Rests set (after_reel c xs)
  pub same_file : (after_reel c xs).file ≡ c.file
  pub position : (after_reel c xs).position ≡ after_mount set c.file c.position h
  pub parts : before set c.file (after_reel c xs).position
      ≡ before set c.file c.position ++ delivered_parts true (mount_of c) xs

far_is : (set : FileSet) → IsReadable set → (file : ℕ) (p : Position) → IsIn (plain_set set) file p
    → (r : Reading) → far (plain_set set) file p r ≡ far set file p r
far_is set is file Finished i r = refl
far_is set is file (Awaits sect b part) i r =
    let (s, found, same) = found_back set file sect i.0 i.1 in
    far_same set is file sect b part s found r

copy_mounted : (set : FileSet) → IsReadable set → (c : State) → Rests set c
    → (xs : List TapeItem) (r : Reading) → IsCopy set xs r → Mounted set c xs (reads r)
copy_mounted set is c rests xs r copy = go (nth set.volumes r.volume) refl copy.is_reading.volume
  where
    go : (o : Option Volume) → nth set.volumes r.volume ≡ o → IsSome o
        → Mounted set c xs (reads r)
    go None e some = absurd (cc)
    go (Some v) e some =
        let k = r.volume in
        let start : IsReading (plain_set set) c.position k [] (plain (mount_of c)) =
        mounts (plain c) (plain (mount_of c)) (sym (mounts_plain c)) (plain_set set) k rests.at in
        let w : Walked set c.position k r.good (mount_of c) (as_read (items set k) r.good ++ copy.more) =
        walk set is c.position k v e (items set k) r.good [] copy.more (mount_of c)
        (fine_mounted set c rests.fine) start refl copy.is_reading.within copy.behind in
        let walked : Walked set c.position k r.good (mount_of c) xs =
        subst (λ (z : List TapeItem). Walked set c.position k r.good (mount_of c) z)
        (sym copy.whole) w in
        let last = behind_items true (mount_of c) xs in
        let vol_some : IsSome (nth set.volumes k) =
        subst (λ (z : Option Volume). IsSome z) (sym e) refl in
        let far_at : last.position ≡ far (plain_set set) last.file c.position (reading k r.good) =
        position_reads (plain last) (plain_set set) c.position k r.good (plain_lawful set is)
        vol_some walked.reads in
        let far_its : far (plain_set set) last.file c.position (reading k r.good)
        ≡ far set last.file c.position (reading k r.good) =
        far_is set is last.file c.position walked.reads.from (reading k r.good) in
        record {
          rests = rests_after set last walked.led.at walked.led.fine;
          same_file = walked.led.same_file;
          position = far_at ∙ (far_its
              ∙ ap (λ (z : ℕ). far set z c.position (reading k r.good)) walked.led.same_file);
          parts = walked.led.parts;
        }

-- ---- a foreign reel

foreign_plain : (sid : List ℕ) (xs : List TapeItem) (p : Position) (phase : Phase)
    → IsForeignAt sid xs p phase → IsForeignAt sid xs p (plain_phase phase)
foreign_plain sid xs Finished phase f = tt
foreign_plain sid xs (Awaits sect b part) Over f = f
foreign_plain sid xs (Awaits sect b part) AtVolume f = f
foreign_plain sid xs (Awaits sect b part) VolumeLabels f = f
foreign_plain sid xs (Awaits sect b part) _ f = absurd f

foreign_back : (sid : List ℕ) (xs : List TapeItem) (p : Position) (phase : Phase)
    → IsForeignAt sid xs p (plain_phase phase) → IsForeignAt sid xs p phase
foreign_back sid xs Finished phase f = tt
foreign_back sid xs (Awaits sect b part) Over f = f
foreign_back sid xs (Awaits sect b part) AtVolume f = f
foreign_back sid xs (Awaits sect b part) VolumeLabels f = f
foreign_back sid xs (Awaits sect b part) _ f = absurd f

foreign_quiet : (c : State) (sid : List ℕ) (xs : List TapeItem) (phase : Phase) (x : TapeItem)
    → IsForeignIn sid xs phase → IsQuietItem c phase x
foreign_quiet c sid xs Over (block' b) f = tt
foreign_quiet c sid xs Over bad f = tt
foreign_quiet c sid xs Over mark f = tt
foreign_quiet c sid xs AtVolume (block' b) f = tt
foreign_quiet c sid xs AtVolume bad f = tt
foreign_quiet c sid xs AtVolume mark f = tt
foreign_quiet c sid xs VolumeLabels (block' b) f = tt
foreign_quiet c sid xs VolumeLabels bad f = tt
foreign_quiet c sid xs VolumeLabels mark f = tt
foreign_quiet c sid xs _ x f = absurd f

foreign_mirrors : (c : State) (sid : List ℕ) (xs : List TapeItem) (x : TapeItem)
    → IsForeignAt sid xs c.position c.phase
    → Mirrors c (Wide.step_by true c (Some x)) (step_of (plain c) (Some x))
foreign_mirrors c sid xs x f = go c.position refl f
  where
    go : (p : Position) → c.position ≡ p → IsForeignAt sid xs p c.phase
        → Mirrors c (Wide.step_by true c (Some x)) (step_of (plain c) (Some x))
    go Finished e h = finished_step c x x e
    go (Awaits sect b part) e h =
        quiet_step c x x (items_same x) (foreign_quiet c sid xs c.phase x h)

record OverForeign (set : FileSet) (c : State) (xs : List TapeItem) : Type 0 where
  led : Led set c xs
  position : (behind_items true c xs).position ≡ c.position

over_foreign : (set : FileSet) (xs : List TapeItem) (c : State)
    → IsAt (plain_set set) (plain c) → Fine set c → IsForeignAt set.set_id xs c.position c.phase
    → OverForeign set c xs
over_foreign set [] c at fine f = record { led = led_none set c at fine; position = refl }
over_foreign set (x ∷ xs) c at fine f =
    let m = foreign_mirrors c set.set_id (x ∷ xs) x f in
    let out = Wide.step_by true c (Some x) in
    let t = mirrors_taken set c x (step_of (plain c) (Some x)) fine m in
    let u = foreign_step (plain c) (step_of (plain c) (Some x)) (Some x) refl (plain_set set) x xs
    refl at (foreign_plain set.set_id (x ∷ xs) c.position c.phase f) in
    let at' : IsAt (plain_set set) (plain out.1) =
    subst (λ (z : Outcome). IsAt (plain_set set) z.1) m.same u.at in
    let f' : IsForeignAt set.set_id xs out.1.position out.1.phase =
    foreign_back set.set_id xs out.1.position out.1.phase
    (subst (λ (z : Outcome). IsForeignAt set.set_id xs z.1.position z.1.phase) m.same u.foreign) in
    let rest = over_foreign set xs out.1 at' t.fine f' in
    record {
      led = led_more set c x xs fine t.same_file t.gives rest.led;
      position = rest.position ∙ m.still.position;
    }

foreign_mounted : (set : FileSet) → (c : State) → Rests set c → (xs : List TapeItem)
    → starts_set set.set_id xs ≡ false → Mounted set c xs foreign_reel
foreign_mounted set c rests xs other =
    let start = foreign_mount (plain c) (plain (mount_of c)) (sym (mounts_plain c)) (plain_set set)
    xs rests.at other in
    let at : IsAt (plain_set set) (plain (mount_of c)) =
    (mounts (plain c) (plain (mount_of c)) (sym (mounts_plain c)) (plain_set set) 0 rests.at).at in
    let over = over_foreign set xs (mount_of c) at (fine_mounted set c rests.fine)
    (foreign_back set.set_id xs c.position (mounted c.phase c.position) start) in
    let last = behind_items true (mount_of c) xs in
    record {
      rests = rests_after set last over.led.at over.led.fine;
      same_file = over.led.same_file;
      position = over.position;
      parts = over.led.parts;
    }

-- A mount of a copy of the set, or of a foreign reel.
pub mounted_by : (set : FileSet) → IsReadable set → (c : State) → Rests set c
    → (xs : List TapeItem) (h : MountEvent) → IsMount set xs h → Mounted set c xs h
mounted_by set is c rests xs (reads r) m = copy_mounted set is c rests xs r m
mounted_by set is c rests xs foreign_reel m = foreign_mounted set c rests xs m
mounted_by set is c rests xs saves m = absurd m
mounted_by set is c rests xs (restarts n) m = absurd m
