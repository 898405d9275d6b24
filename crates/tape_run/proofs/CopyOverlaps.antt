-- The items of a copy of a volume of a valid set, compared with the parts that a session has.
use Rattle.std.proofs.Common.{◌≡◌, ◌≢◌, ◌<◌, ◌≤◌, ◌⊎◌, inl, inr, ℕ, ◌+◌, Bool, true, false, List}
use Rattle.std.proofs.Common.{[], ◌∷◌, ◌++◌, length, take, Option, Some, refl, sym, ap, subst, ◌∙◌}
use Rattle.std.proofs.Common.{arith, nat_lt, append-nil}
use Rattle.std.proofs.lemmas.Bool.Decides.{nat_tests}
use Rattle.std.specs.Prelude.{⊤}
use Rattle.tape_image.specs.{Tape.TapeItem, Tape.block, Tape.bad, Tape.mark}
use Rattle.tape_blocks.specs.{Block.Portion}
use Rattle.tape_blocks.proofs.OwnLaws.{one_list}
use Rattle.tape_set.specs.declared.position.Position.TheVariants.{Awaits}
use Rattle.tape_set.specs.Layout.{FileSet, Section, section_of}
use Rattle.tape_set.specs.{Lawful.IsLawful, Lawful.FileForm, Before.parts_at, Position.block_of}
use Rattle.tape_core.specs.declared.event.{Heading.Heading, Phase.Phase}
use Rattle.tape_core.specs.declared.event.Answer.TheVariants.{Passed}
use Rattle.tape_core.specs.declared.event.Phase.TheVariants.{DataWanted, TrailerWanted}
use Rattle.tape_core.specs.{State.State, Wide.step_by, Wide.read_as}
use Rattle.tape_core.specs.Overlap.{Fits, Agrees}
use Rattle.tape_core.specs.{Table.Outcome, Table.at_item, Stands.weight_of}
use Rattle.tape_core.proofs.WideReading.{by_one_file}
use Rattle.tape_run.specs.declared.session.compared.overlap.Overlap.{Overlap}
use Rattle.tape_run.specs.{Reels.behind_items, Reels.GoesOn, Mount.MountEvent, Mount.IsMount}
use Rattle.tape_run.specs.Comparing.{Meets, MeetAll, MeetsFront, IsBehind}
use Rattle.tape_run.proofs.{CopyAlong.Along, CopyAlong.next, CopyAgrees.agrees}
use Rattle.tape_run.proofs.CopyHad.{less_or, read_bad, kept, had, rest, rest_is, few_rest, enough}
use Rattle.tape_run.proofs.CopyHad.{early, last}
use Rattle.tape_run.proofs.{CopyTold.ends_there, ComparedSinks.same_rest}
use Rattle.tape_run.proofs.SectionOpens.{IsOutside, step_opens}
use Rattle.tape_run.proofs.SectionSteps.{Goes, skips, delivers, closes, data_steps, by_table}
use Rattle.tape_run.proofs.SectionSteps.{unless_goes}

module _ (set : FileSet) (file sect : ℕ) (o : Overlap) (w : Section)
    (found : section_of set file sect ≡ Some w) (wide : Bool) (xs : List TapeItem) (h : MountEvent)
    (l : IsLawful set) (m : IsMount set xs h) where
  -- the parts that are to come, before an item of the section's data
  abbrev pub Now : ℕ → List Portion → Type 0
  Now seen ahead = ((seen ≤ o.from) × (ahead ≡ rest o w o.from))
      ⊎ ((o.from ≤ seen) × (ahead ≡ rest o w seen))

  -- the same in any phase
  abbrev pub Ahead : Phase → List Portion → Type 0
  Ahead (DataWanted heading form seen) ahead = (seen ≤ o.block) × Now seen ahead
  Ahead (TrailerWanted heading form) ahead = ⊤
  Ahead _ ahead = ahead ≡ rest o w o.from

  -- The core has taken the items of the mount, except for these, and passed each; and these parts
  -- are to come.
  pub record Step (core : State) (more : List TapeItem) (ahead : List Portion) : Type 0 where
    pub at : core.position ≡ Awaits sect o.block o.part
    pub same_file : core.file ≡ file
    pub taken : Along set (Awaits sect o.block o.part) xs h core more
    pub to_come : Ahead core.phase ahead

  pub outside : (phase : Phase) (ahead : List Portion) → IsOutside phase → ahead ≡ rest o w o.from
      → Ahead phase ahead
  outside (DataWanted heading form seen) ahead out e = absurd out
  outside (TrailerWanted heading form) ahead out e = absurd out
  outside _ ahead out e = e

  here : (seen : ℕ) (ahead : List Portion) → o.from ≤ seen → Now seen ahead
      → ahead ≡ rest o w seen
  here seen ahead le now = elim now [
    | inl (few, k) ↦
        let n : o.from ≡ seen = omega (arith, few, le) in k ∙ ap (λ z. rest o w z) n
    | inr (few, k) ↦ k
  ]

  module _ (core : State) (content : List ℕ) (more : List TapeItem) (ahead : List Portion)
      (s : Step core (block content ∷ more) ahead) (heading : Heading) (form : FileForm) (seen : ℕ)
      (e : core.phase ≡ DataWanted heading form seen) where
    found_here : section_of set core.file sect ≡ Some w
    found_here = subst (λ z. section_of set z sect ≡ Some w) (sym s.same_file) found

    agreed : Agrees set core form seen (block content)
    agreed = agrees set xs l (Awaits sect o.block o.part) core (block content) more heading form
        seen (λ f. cc f) e (λ f. let x = sym s.at ∙ f in cc x) h m s.taken

    early_block : seen < o.block → (parts : List Portion)
        × (read_as wide core (block content) ≡ block content)
        × ((left : List Portion) → Meets o.from (DataWanted heading form seen) (block content) ahead
        left → Now seen ahead → Now (seen + 1) left)
        × ((Now seen ahead) → (left : List Portion)
        × Meets o.from (DataWanted heading form seen) (block content) ahead left)
    early_block lt =
        let (parts, c, q) = early set core sect o w form seen content s.at found_here agreed lt in (
          parts,
          kept wide core heading form seen content parts e c,
          λ left meets now. elim meets [
            | inl (before, same) ↦ elim now [
              | inl (le, k) ↦ inl (omega (arith, before), same ∙ k)
              | inr (le, k) ↦ absurd (omega (arith, before, le))
            ]
            | inr (le, (others, d, r)) ↦
                let same : others ≡ parts =
                one_list form.format form.rec_len form.offset content others parts d.0 c.0 in
                let there : ahead ≡ had o w seen =
                here seen ahead le now ∙ rest_is o w seen (omega (arith, lt)) in
                let after : left ≡ had o w (seen + 1) = same_rest others left parts
                (had o w (seen + 1)) (sym r ∙ (there ∙ q)) (ap weight_of same) in
                inr (
                  omega (arith, le),
                  after ∙ sym (rest_is o w (seen + 1) (omega (arith, lt))),
                )
          ],
          λ now. elim (less_or seen o.from) [
            | inl before ↦ (ahead, inl (before, refl))
            | inr le ↦ (
              had o w (seen + 1),
              inr (
                le,
                (
                  parts,
                  c,
                  here seen ahead le now ∙ (rest_is o w seen (omega (arith, lt)) ∙ q),
                ),
              ),
            )
          ],
        )

    -- the block at which the session continues has its parts
    none_last : o.block ≤ seen → seen ≤ o.block → o.from ≤ seen
        → o.part ≤ length (parts_at w.blocks o.block) → Now seen ahead
        → ((left : List Portion)
        → MeetsFront o.part core.phase (read_as wide core (block content)) ahead left → ⊥) → ⊥
    none_last le few there within now never =
        let (parts, c, q) = last set core sect o w form seen content s.at found_here agreed le in
        let is = kept wide core heading form seen content parts e c in
        never [] (subst (λ z. MeetsFront o.part core.phase z ahead []) (sym is)
        (subst (λ z. MeetsFront o.part z (block content) ahead []) (sym e) (
          parts,
          c,
          enough o w seen parts (omega (arith, le, few)) within q,
          here seen ahead there now
              ∙ (rest_is o w seen few ∙ (q ∙ sym (append-nil (take o.part parts)))),
        )))

    -- a block before it too
    none_early : seen < o.block → Now seen ahead → ((left : List Portion)
        → Meets o.from core.phase (read_as wide core (block content)) ahead left → ⊥) → ⊥
    none_early lt now never =
        let (parts, is, after, meets) = early_block lt in
        let (left, k) = meets now in
        never left (subst (λ z. Meets o.from core.phase z ahead left) (sym is)
        (subst (λ z. Meets o.from z (block content) ahead left) (sym e) k))

  -- ---- one item

  module _ (core : State) (x : TapeItem) (more : List TapeItem) (ahead left : List Portion)
      (s : Step core (x ∷ more) ahead) (passed : (step_by wide core (Some x)).0 ≡ Passed) where
    abbrev new : State
    new = (step_by wide core (Some x)).1

    stays : new.position ≡ core.position → Ahead new.phase left → Step new more left
    stays same is = record {
      at = same ∙ s.at;
      same_file = (by_one_file wide core (Some x)).file ∙ s.same_file;
      taken = next wide set (Awaits sect o.block o.part) xs h core x more l m s.taken;
      to_come = is;
    }

    -- a block or an unreadable item that is skipped
    skipped : (heading : Heading) (form : FileForm) (seen : ℕ) → seen < o.block → (y : TapeItem)
        → y ≢ mark → x ≡ y → core.phase ≡ DataWanted heading form seen → Now seen ahead
        → Meets o.from (DataWanted heading form seen) (read_as wide core y) ahead left
        → Now (seen + 1) left
    skipped heading form seen lt mark off is e now meets = absurd (off refl)
    skipped heading form seen lt bad off is e now meets =
        let (before, same) = subst (λ z. Meets o.from (DataWanted heading form seen) z ahead left)
        (read_bad wide core) meets in
        elim now [
          | inl (le, k) ↦ inl (omega (arith, before), same ∙ k)
          | inr (le, k) ↦ absurd (omega (arith, before, le))
        ]
    skipped heading form seen lt (block content) off is e now meets =
        let (parts, read, after, some) = early_block core content more ahead
        (subst (λ z. Step core (z ∷ more) ahead) is s) heading form seen e lt in
        after left (subst (λ z. Meets o.from (DataWanted heading form seen) z ahead left) read
        meets) now

    by_goes : (heading : Heading) (form : FileForm) (seen : ℕ)
        → core.phase ≡ DataWanted heading form seen → Now seen ahead
        → Meets o.from (DataWanted heading form seen) (read_as wide core x) ahead left
        → Goes core heading form seen x (step_by wide core (Some x)) → Step new more left
    by_goes heading form seen e now meets (skips lt off is there same) =
        let n : block_of core.position ≡ o.block = ap block_of s.at in
        let lt' : seen < o.block = omega (arith, lt, n) in
        stays same (subst (λ z. Ahead z left) (sym there)
        (omega (arith, lt'), skipped heading form seen lt' x off refl e now meets))
    by_goes heading form seen e now meets (delivers bytes is le told there moved) =
        absurd (let z = sym told ∙ passed in cc z)
    by_goes heading form seen e now meets (closes is le told there same) =
        stays same (subst (λ z. Ahead z left) (sym there) tt)

    by_phase : (phase : Phase) → core.phase ≡ phase → Ahead phase ahead
        → Meets o.from phase (read_as wide core x) ahead left → Step new more left
    by_phase (DataWanted heading form seen) e (few, now) meets =
        by_goes heading form seen e now meets
        ((data_steps wide core heading form seen x (λ f. let z = sym s.at ∙ f in cc z) e).goes
        (inl passed))
    by_phase (TrailerWanted heading form) e now meets =
        absurd (ends_there core heading form x (subst (λ z. GoesOn (at_item core z x).0) e
        (unless_goes core core.position (at_item core core.phase x)
        (λ f. let z = sym s.at ∙ f in cc z) (subst (λ (out : Outcome). GoesOn out.0)
        (by_table wide core heading form x e) (inl passed)))))
    by_phase _ e now meets =
        let opens = (step_opens wide core x (λ f. let z = sym s.at ∙ f in cc z)
        (subst IsOutside (sym e) tt)).goes (inl passed) in
        stays opens.1 (elim opens.2 [
          | inl out ↦ outside new.phase left out (meets ∙ now)
          | inr (is, (heading, form, there)) ↦ subst (λ z. Ahead z left) (sym there)
              (omega arith, inl (omega arith, meets ∙ now))
        ])

  pub walked : (its more : List TapeItem) (core : State) (ahead left : List Portion)
      → Step core (its ++ more) ahead → MeetAll wide o.from core its ahead left
      → Step (behind_items wide core its) more left
  walked [] more core ahead left s same = record {
    at = s.at;
    same_file = s.same_file;
    taken = s.taken;
    to_come = subst (λ z. Ahead core.phase z) (sym same) s.to_come;
  }
  walked (x ∷ its) more core ahead left s (passed, mid, meets, all) =
      walked its more (step_by wide core (Some x)).1 mid left
      (by_phase core x (its ++ more) ahead mid s passed core.phase refl s.to_come meets) all

  -- ---- no item is another one

  pub none_front : (core : State) (content : List ℕ) (more : List TapeItem) (ahead : List Portion)
      → Step core (block content ∷ more) ahead → o.part ≤ length (parts_at w.blocks o.block)
      → (phase : Phase) → core.phase ≡ phase → Ahead phase ahead
      → IsBehind o.block phase → IsBehind o.from phase → ((left : List Portion)
      → MeetsFront o.part core.phase (read_as wide core (block content)) ahead left → ⊥) → ⊥
  none_front core content more ahead s within (DataWanted heading form seen) e (few, now) le there
      never = none_last core content more ahead s heading form seen e le few there within now never
  none_front core content more ahead s within _ e now le there never = absurd le

  pub none_next : (core : State) (content : List ℕ) (more : List TapeItem) (ahead : List Portion)
      → Step core (block content ∷ more) ahead → (phase : Phase) → core.phase ≡ phase
      → Ahead phase ahead → (IsBehind o.block phase → ⊥) → ((left : List Portion)
      → Meets o.from core.phase (read_as wide core (block content)) ahead left → ⊥) → ⊥
  none_next core content more ahead s (DataWanted heading form seen) e (few, now) not never =
      elim (less_or seen o.block) [
        | inl lt ↦ none_early core content more ahead s heading form seen e lt now never
        | inr le ↦ not le
      ]
  none_next core content more ahead s _ e now not never =
      never ahead (subst (λ z. Meets o.from z (read_as wide core (block content)) ahead ahead)
      (sym e) refl)

  -- no mark is in place of a block of which the session has parts
  pub none_mark : (core : State) (more : List TapeItem) (ahead : List Portion)
      → Step core (mark ∷ more) ahead → (phase : Phase) → core.phase ≡ phase
      → Ahead phase ahead → IsBehind o.block phase → 0 < o.part → ⊥
  none_mark core more ahead s (DataWanted heading form seen) e (few, now) le some =
      let g = agrees set xs l (Awaits sect o.block o.part) core mark more heading form seen
      (λ f. cc f) e (λ f. let x = sym s.at ∙ f in cc x) h m s.taken in
      let same : Awaits g.sect g.number g.part ≡ Awaits sect o.block o.part = sym g.at ∙ s.at in
      let number : g.number ≡ o.block = cc same in
      let part : g.part ≡ o.part = cc same in
      let late : nat_lt seen g.number ≡ false =
      (let k : g.number ≤ seen = omega (arith, number, le) in grind (arith, nat_tests)) in
      by form (nat_lt seen g.number) late g.part _ g.left part g.fits
    where
      by : (form : FileForm) (t : Bool) → t ≡ false → (p : ℕ) (d : List Portion)
          (left : Option (List Portion)) → p ≡ o.part → Fits form t p d mark left → ⊥
      by form true is p d left same f = absurd (cc is)
      by form false is p d left same f = let z = f.0 in omega (arith, z, same, some)
  none_mark core more ahead s _ e now le some = absurd le

  -- ---- nothing is left

  pub at_end : (ahead : List Portion) (phase : Phase) → Ahead phase ahead → IsBehind o.block phase
      → length ahead ≤ o.part
  at_end ahead (DataWanted heading form seen) (few, now) le = elim now [
    | inl (n, k) ↦
        subst (λ z. length z ≤ o.part) (sym k) (few_rest o w o.from (omega (arith, n, le)))
    | inr (n, k) ↦ subst (λ z. length z ≤ o.part) (sym k) (few_rest o w seen le)
  ]
  at_end ahead _ now le = absurd le
