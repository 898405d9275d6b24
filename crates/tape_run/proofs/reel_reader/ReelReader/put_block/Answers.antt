use Rattle.std.proofs.Common.{◌≡◌, ◌<◌, ◌++◌, ◌∷◌, [], List, ℕ, map, take, drop, sym, ap, subst}
use Rattle.std.proofs.Common.{◌∙◌}
use Rattle.std.proofs.Common.{refl, Some}
use Rattle.std.proofs.{Common.arith, Common.append-nil, lemmas.List.map-append}
use Rattle.tape_blocks.specs.{Block.Portion, Block.Holds, Parts.view, PartsLeft.parts_left}
use Rattle.tape_blocks.specs.Judged.{begun_behind}
use Rattle.tape_blocks.proofs.OwnLaws.{few_parts, short_part}
use Rattle.tape_set.specs.{Lawful.FileForm, Position.part_of}
use Rattle.tape_core.specs.{Follows.IsAwaited, State.State, Table.after_block, Table.saved}
use Rattle.tape_core.specs.{Place.place_of, Place.rest_of, declared.event.Awaited.Awaited}
use Rattle.tape_run.specs.Puts.{refused_point}
use Rattle.tape_run.proofs.Blocks.{number_of, front_is, one_passed, one_put, stands_here}
use Rattle.tape_run.proofs.Places.{checked_parts, shape_fits}
use Rattle.tape_run.proofs.reel_reader.ReelReader.put_block.Goals.{In-Some, then-first-seen+in-Ok}
use Rattle.tape_run.proofs.reel_reader.ReelReader.put_block.Given.{Over}
use Rattle.tape_run.proofs.reel_reader.ReelReader.put_block.Goals.{else-first-seen}
use Rattle.tape_run.proofs.reel_reader.ReelReader.put_block.Goals as goal

-- the parts of the block in the file's form are those in the shape that is expected
shaped : (core : State) (bytes : List ℕ) (found : Awaited) (k : FileForm) (parts : List Portion)
    → IsAwaited core bytes found → (after_block core found.end).known ≡ Some k
    → Holds k.format k.rec_len k.offset bytes parts
    → Holds found.shape.format found.shape.rec_len found.shape.offset bytes parts
shaped core bytes found k parts awaited known_is h =
    let fits = shape_fits _ _ k found.shape awaited.shape (sym awaited.is_known ∙ known_is) refl in
    rw (fits.0, fits.1, fits.2) h

checked : (core : State) (bytes : List ℕ) (found : Awaited) → IsAwaited core bytes found
    → (parts : List Portion)
    × Holds found.shape.format found.shape.rec_len found.shape.offset bytes parts
checked core bytes found awaited = (
  awaited.checked.parts,
  shaped core bytes found awaited.checked.form awaited.checked.parts awaited
      awaited.checked.is_known (checked_parts core (after_block core found.end) bytes
      awaited.checked),
)

-- the index of the part among those of the block
here : (g : Over) (c : In-Some g) (parts : List Portion)
    → Holds c.args.awaited.now.shape.format c.args.awaited.now.shape.rec_len
    c.args.awaited.now.shape.offset c.args.content.now parts
    → parts ≡ map view c.loop-part.yielded ++ view c.in-Some.part ∷ parts_left c.next.new.self
here g c parts h = stands_here c.new-part-items.result c.into_iter-part-iterator.result
    c.loop-part.part-iterator c.loop-part.yielded parts _ (c.new-part-items.ensures parts h)
    c.into_iter-part-iterator.ensures.into_iter_gives c.loop-part.yielded_by c.in-Some.ensures.steps

-- a block has fewer than 99,999 parts before this one
few : (g : Over) (c : In-Some g) → c.loop-part.seen < 99999
few g c =
    let (parts, h) = checked _ _ _ c.requires.awaited in
    omega (
      arith,
      c.requires.short,
      c.loop-part.invariant.puts.count,
      number_of parts _ (parts_left c.next.new.self) (view c.in-Some.part) (here g c parts h),
      few_parts c.args.awaited.now.shape.format c.args.awaited.now.shape.rec_len
          c.args.awaited.now.shape.offset c.args.content.now parts
          c.args.awaited.now.shape.some_record h,
    )

pub put-requires : goal.put-requires
put-requires g c =
    let (parts, h) = checked _ _ _ c.requires.awaited in
    omega (
      arith,
      c.requires.short,
      short_part _ _ _ _ parts _ _ _ (here g (goal.at.put-requires g c).In-Some parts h) h,
    )

pub go_back-requires-clause-few : goal.go_back-requires-clause-few
go_back-requires-clause-few g c =
    omega (arith, few g (goal.at.go_back-requires-clause-few g c).In-Some)

pub overflow_add-seen : goal.overflow_add-seen
overflow_add-seen g c = omega (arith, few g (goal.at.overflow_add-seen g c).In-Some)

pub returns-in-Err-clause-err : goal.returns-in-Err-clause-err
returns-in-Err-clause-err g c = λ held parts k known_is h was.
    let core = c.args.self.now.core in
    let awaited = c.requires.awaited in
    let puts = c.loop-part.invariant.puts in
    let behind = rest_of (after_block core c.args.awaited.now.end) in
    let n = c.loop-part.seen in
    let there = shaped _ _ _ k parts awaited known_is h in
    let at = here g (goal.at.returns-in-Err-clause-err g c).In-Some parts there in
    let front : take n parts ≡ map view c.loop-part.yielded =
    ap (λ n. take n parts) puts.count ∙ front_is parts _ _ at in
    let begun : c.loop-part.begun
    ≡ begun_behind core.begun (drop (part_of core.position) (take n parts)) =
    rw (awaited.begun, awaited.part, ← front) at puts.behind in
    record {
      n = n;
      from = rw awaited.part at c.if-first-seen.true;
      within = omega (arith, number_of parts _ _ _ at, puts.count);
      held_now = subst (λ l. g.S.PartSink.holds c.put.new.self (held
          ++ drop (part_of core.position) l)) (sym front)
          (rw awaited.part at (c.in-Err.ensures.err _ (puts.held_now held was)));
      back =
          ap rest_of c.go_back.ensures.back
          ∙ (ap (λ (z : State). place_of (refused_point (saved z 0)
          (saved (after_block z c.args.awaited.now.end) 0) n c.loop-part.begun))
          c.loop-part.invariant.core
          ∙ ap (λ b. place_of (refused_point (saved core 0) (saved behind 0) n b)) begun);
    }

pub loop-part-preserved : goal.loop-part-preserved
loop-part-preserved g c =
    let l = c.loop-part in
    rw (map-append view l.yielded (c.in-Some.part ∷ [])) (elim c.if-first-seen.branch [
      | then-first-seen+in-Ok w ↦ record {
        core = rw w.self-is l.invariant.core;
        wide = rw w.self-is l.invariant.wide;
        puts = rw (w.self-is, w.begun-is, w.leaves-begun.ensures) (one_put _ _ _ _ l.self.sink
            w.put.new.self l.seen l.begun _ _ w.if-first-seen.true w.in-Ok.ensures.ok
            w.in-Ok.ensures.calm w.put.ensures.crash l.invariant.puts);
      }
      | else-first-seen w ↦ record {
        core = rw w.self-is l.invariant.core;
        wide = rw w.self-is l.invariant.wide;
        puts = rw (w.self-is, w.begun-is) (one_passed _ _ _ _ l.self.sink l.seen l.begun _ _
            w.if-first-seen.false l.invariant.puts);
      }
    ])

pub returns-clause-ok : goal.returns-clause-ok
returns-clause-ok g c = λ held parts k known_is h was.
    let all = stands_here _ _ _ _ parts [] (c.new-part-items.ensures parts
    (shaped _ _ _ k parts c.requires.awaited known_is h))
    c.into_iter-part-iterator.ensures.into_iter_gives c.loop-part.yielded_by
    c.in-None.ensures.steps.0 in
    subst (λ l. g.S.PartSink.holds c.loop-part.self.sink (held ++ drop (part_of
    c.args.self.now.core.position) l))
    (sym (all ∙ append-nil (map view c.loop-part.yielded)))
    (rw c.requires.awaited.part at (c.loop-part.invariant.puts.held_now held was))
