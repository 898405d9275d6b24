-- A reader of a later file skips the items that a reader of an earlier file reads.
use Rattle.std.proofs.Common.{◌≡◌, ℕ, ◌+◌, ◌<◌, List, Bool, true, false, Option, Some, None, Result}
use Rattle.std.proofs.Common.{Ok, Err, refl, sym, ap, subst, ◌∙◌, arith, not, nat_lt, if◌then◌else◌}
use Rattle.std.proofs.Common.{◌==◌}
use Rattle.std.specs.Str.{bytes_eq}
use Rattle.tape_image.specs.Tape.{TapeItem, block, bad, mark}
use Rattle.tape_label.specs.{declared.values.Kind.Kind, declared.values.Head1.Head1, Kinds.kind_at}
use Rattle.tape_label.specs.{declared.values.Head2.Head2, declared.values.Trail1.Trail1}
use Rattle.tape_label.specs.{declared.label.LabelFault.LabelFault, VolumeLabels.is_volume_label}
use Rattle.tape_label.specs.Reading.{head1_at, head2_at, trail1_at}
use Rattle.tape_label.specs.declared.values.Kind.TheVariants as kinds
use Rattle.tape_blocks.specs.{declared.check.BlockFault.BlockFault, Judged.judged}
use Rattle.tape_set.specs.declared.position.Position.{Position}
use Rattle.tape_set.specs.declared.position.Position.TheVariants.{Awaits, Finished}
use Rattle.tape_set.specs.Position.{sect_of, block_of, part_of, next_section}
use Rattle.tape_set.specs.Lawful.{FileForm, label_count, most_blocks}
use Rattle.tape_core.specs.declared.event.Reason.TheVariants.{OtherSet, NotOnReel, BlockCount}
use Rattle.tape_core.specs.declared.event.Reason.TheVariants.{LaterSection, EarlierSection}
use Rattle.tape_core.specs.declared.event.Phase.TheVariants.{Over, Broken, Volume, VolumeLabels}
use Rattle.tape_core.specs.declared.event.Phase.TheVariants.{Header2, Headers, DataPassed}
use Rattle.tape_core.specs.declared.event.Phase.TheVariants.{DataWanted, TrailerPassed}
use Rattle.tape_core.specs.Table.{passed, useless, broken, moved_to, delivered, first_label}
use Rattle.tape_core.specs.Table.{first_labels, at_head1, at_head2, second_label, at_judged}
use Rattle.tape_core.specs.Table.{at_awaited, other_numbers, at_passed_trailer, at_end}
use Rattle.tape_core.specs.Table.{at_wanted_trailer, at_block, at_mark, at_bad, at_item, step_of}
use Rattle.tape_core.specs.declared.event.Answer.TheVariants.{SectionDone, Complete}
use Rattle.tape_core.specs.declared.event.Reason.TheVariants.{SectionDiffers, BadItem, SpanLeft}
use Rattle.tape_core.specs.{declared.event.Heading.Heading, declared.event.Phase.Phase, State.State}
use Rattle.tape_core.specs.declared.event.Phase.TheVariants.{TrailerWanted, Trailers, NextFile}
use Rattle.tape_core.specs.Labels.{heading_of, form_at, other_file_id, other_shape}
use Rattle.tape_core.specs.{Parts.begun_before, Parts.other_front, Known.is_finished}
use Rattle.tape_core.specs.Table.{unless_complete}
use Rattle.tape_core.specs.Behind.{passed_over, expected_over, PassesTo, AreInOrder}

-- ---- if a section begins

-- by the tests of an HDR1: whether it is of the set, of an earlier file, of a later file, and the
-- others
head1_by : (first later : State) (h : Head1) (s e l r q d s' e' l' r' q' d' : Bool)
    → s' ≡ s → (e ≡ true → e' ≡ true) → (e ≡ false → l ≡ false → e' ≡ true)
    → PassesTo (expected_over (if not s then useless first OtherSet
    else if e then passed first (Header2 (heading_of h) false)
    else if l then useless first NotOnReel
    else if r then useless first EarlierSection
    else if q then useless first LaterSection
    else if d then useless first SectionDiffers
    else passed first (Header2 (heading_of h) true))) later
    (if not s' then useless later OtherSet
    else if e' then passed later (Header2 (heading_of h) false)
    else if l' then useless later NotOnReel
    else if r' then useless later EarlierSection
    else if q' then useless later LaterSection
    else if d' then useless later SectionDiffers
    else passed later (Header2 (heading_of h) true))
head1_by first later h false e l r q d s' e' l' r' q' d' same is_earlier neither = tt
head1_by first later h true true l r q d true true l' r' q' d' same is_earlier neither = refl
head1_by first later h true true l r q d true false l' r' q' d' same is_earlier neither =
    absurd (let n = is_earlier refl in cc)
head1_by first later h true true l r q d false e' l' r' q' d' same is_earlier neither = absurd (cc)
head1_by first later h true false true r q d s' e' l' r' q' d' same is_earlier neither = tt
head1_by first later h true false false true q d s' e' l' r' q' d' same is_earlier neither = tt
head1_by first later h true false false false true d s' e' l' r' q' d' same is_earlier neither = tt
head1_by first later h true false false false false true s' e' l' r' q' d' same is_earlier neither =
    tt
head1_by first later h true false false false false false true true l' r' q' d' same is_earlier
    neither = refl
head1_by first later h true false false false false false true false l' r' q' d' same is_earlier
    neither = absurd (let n = neither refl refl in cc)
head1_by first later h true false false false false false false e' l' r' q' d' same is_earlier
    neither = absurd (cc)

earlier_too : (n file other : ℕ) → file < other → nat_lt n file ≡ true → nat_lt n other ≡ true
earlier_too n file other less is = grind (arith)

same_is_earlier : (n file other : ℕ) → file < other → nat_lt n file ≡ false
    → nat_lt file n ≡ false → nat_lt n other ≡ true
same_is_earlier n file other less not_before not_behind = grind (arith)

head1_law : (first later : State) (r : Result Head1 LabelFault) → AreInOrder first later
    → PassesTo (expected_over (at_head1 first r)) later (at_head1 later r)
head1_law first later (Err fault) o = tt
head1_law first later (Ok h) o = head1_by first later h (bytes_eq h.set_id first.set_id)
    (nat_lt h.sequence first.file) (nat_lt first.file h.sequence)
    (nat_lt h.sect (sect_of first.position)) (nat_lt (sect_of first.position) h.sect)
    (other_file_id first.known h.file_id) (bytes_eq h.set_id later.set_id)
    (nat_lt h.sequence later.file) (nat_lt later.file h.sequence)
    (nat_lt h.sect (sect_of later.position)) (nat_lt (sect_of later.position) h.sect)
    (other_file_id later.known h.file_id)
    (ap (bytes_eq h.set_id) o.same_set)
    (earlier_too h.sequence first.file later.file o.earlier)
    (same_is_earlier h.sequence first.file later.file o.earlier)

-- ---- labels

first_labels_law : (first later : State) (bytes : List ℕ) (k : Option Kind) → AreInOrder first later
    → PassesTo (expected_over (first_labels first bytes k)) later (first_labels later bytes k)
first_labels_law first later bytes None o = tt
first_labels_law first later bytes (Some kinds.Hdr1) o = head1_law first later (head1_at bytes) o
first_labels_law first later bytes _ o = tt

volume_labels_by : (first later : State) (bytes : List ℕ) (v : Bool) → AreInOrder first later
    → PassesTo (expected_over (if v then passed first VolumeLabels
    else first_labels first bytes (kind_at bytes))) later
    (if v then passed later VolumeLabels else first_labels later bytes (kind_at bytes))
volume_labels_by first later bytes true o = refl
volume_labels_by first later bytes false o = first_labels_law first later bytes (kind_at bytes) o

first_label_law : (first later : State) (k : Option Kind)
    → PassesTo (expected_over (first_label first k)) later (first_label later k)
first_label_law first later None = tt
first_label_law first later (Some kinds.Vol1) = refl
first_label_law first later _ = tt

shape_by : (first later : State) (heading : Heading) (form : FileForm) (t : Bool)
    → PassesTo (expected_over (if t then useless first SectionDiffers
    else passed first (Headers heading (Some form)))) later (passed later (Headers heading None))
shape_by first later heading form true = tt
shape_by first later heading form false = refl

pub head2_law : (first later : State) (heading : Heading) (r : Result Head2 LabelFault)
    → PassesTo (expected_over (at_head2 first heading r)) later
    (passed later (Headers heading None))
head2_law first later heading (Err fault) = tt
head2_law first later heading (Ok g) = shape_by first later heading (form_at heading g)
    (other_shape first.known (form_at heading g))

second_law : (first later : State) (heading : Heading) (wanted : Bool) (bytes : List ℕ)
    (k : Option Kind) → PassesTo (expected_over (second_label first heading wanted bytes k)) later
    (second_label later heading false bytes k)
second_law first later heading false bytes None = tt
second_law first later heading false bytes (Some kinds.Hdr2) = refl
second_law first later heading true bytes (Some kinds.Hdr2) =
    head2_law first later heading (head2_at bytes)
second_law first later heading _ bytes _ = tt

-- ---- data

differs_by : (first later : State) (heading : Heading) (form : FileForm) (end v : Bool)
    → PassesTo (expected_over (if v then useless first SectionDiffers
    else delivered first heading form end)) later (passed later (DataPassed heading))
differs_by first later heading form end true = tt
differs_by first later heading form end false = refl

judged_law : (first later : State) (heading : Heading) (form : FileForm) (bytes : List ℕ)
    (r : Result Bool BlockFault) → PassesTo (expected_over (at_judged first heading form bytes r))
    later (passed later (DataPassed heading))
judged_law first later heading form bytes (Err fault) = tt
judged_law first later heading form bytes (Ok end) = differs_by first later heading form end
    (other_front form (part_of first.position) first.begun bytes)

awaited_by : (first later : State) (heading : Heading) (form : FileForm) (bytes : List ℕ)
    (t : Bool) (r : Result Bool BlockFault)
    → PassesTo (expected_over (if not t then useless first SectionDiffers
    else at_judged first heading form bytes r)) later (passed later (DataPassed heading))
awaited_by first later heading form bytes false r = tt
awaited_by first later heading form bytes true r = judged_law first later heading form bytes r

data_by : (first later : State) (heading : Heading) (form : FileForm) (seen : ℕ) (bytes : List ℕ)
    (t : Bool)
    → PassesTo (expected_over (if t then passed first (DataWanted heading form (seen + 1))
    else at_awaited first heading form bytes)) later (passed later (DataPassed heading))
data_by first later heading form seen bytes true = refl
data_by first later heading form seen bytes false = awaited_by first later heading form bytes
    (nat_lt (block_of first.position) most_blocks) (judged form.format form.rec_len form.offset
    (begun_before form (part_of first.position) first.begun bytes) bytes)

bad_by : (first later : State) (heading : Heading) (form : FileForm) (seen : ℕ) (t : Bool)
    → PassesTo (expected_over (if t then passed first (DataWanted heading form (seen + 1))
    else useless first BadItem)) later (passed later (DataPassed heading))
bad_by first later heading form seen true = refl
bad_by first later heading form seen false = tt

data_end_by : (first later : State) (heading : Heading) (form : FileForm) (t : Bool)
    → PassesTo (expected_over (if t then useless first SectionDiffers
    else passed first (TrailerWanted heading form))) later (passed later (TrailerPassed heading))
data_end_by first later heading form true = tt
data_end_by first later heading form false = refl

-- ---- trailers

span_by : (first later : State) (form : FileForm) (t : Bool)
    → PassesTo (expected_over (if t then useless first SpanLeft
    else (Complete, moved_to first Finished false form Over))) later (passed later Trailers)
span_by first later form true = tt
span_by first later form false = refl

next_by : (first later : State) (form : FileForm) (t : Bool)
    → PassesTo (expected_over (if not t then useless first SectionDiffers
    else (SectionDone, moved_to first (next_section first.position) first.begun form Over))) later
    (passed later Trailers)
next_by first later form true = refl
next_by first later form false = tt

end_law : (first later : State) (form : FileForm) (eof : Bool)
    → PassesTo (expected_over (at_end first form eof)) later (passed later Trailers)
end_law first later form true = span_by first later form first.begun
end_law first later form false = next_by first later form (nat_lt (sect_of first.position) 9999)

wanted_by : (first later : State) (form : FileForm) (t : Trail1) (a b : Bool)
    → PassesTo (expected_over (if a then useless first SectionDiffers
    else if not b then broken first (BlockCount t.blocks (block_of first.position))
    else at_end first form t.eof)) later
    (if a then useless later SectionDiffers else passed later Trailers)
wanted_by first later form t true b = tt
wanted_by first later form t false false = tt
wanted_by first later form t false true = end_law first later form t.eof

wanted_law : (first later : State) (heading : Heading) (form : FileForm)
    (r : Result Trail1 LabelFault)
    → PassesTo (expected_over (at_wanted_trailer first heading form r)) later
    (at_passed_trailer later heading r)
wanted_law first later heading form (Err fault) = tt
wanted_law first later heading form (Ok t) = wanted_by first later form t (other_numbers heading t)
    (t.blocks == label_count (block_of first.position))

passed_by : (first later : State) (a : Bool)
    → PassesTo (expected_over (if a then useless first SectionDiffers else passed first Trailers))
    later (if a then useless later SectionDiffers else passed later Trailers)
passed_by first later true = tt
passed_by first later false = refl

passed_law : (first later : State) (heading : Heading) (r : Result Trail1 LabelFault)
    → PassesTo (expected_over (at_passed_trailer first heading r)) later
    (at_passed_trailer later heading r)
passed_law first later heading (Err fault) = tt
passed_law first later heading (Ok t) = passed_by first later (other_numbers heading t)

-- ---- the table

block_law : (first later : State) (p : Phase) (bytes : List ℕ) → AreInOrder first later
    → PassesTo (expected_over (at_block first p bytes)) later (at_block later (passed_over p) bytes)
block_law first later Over bytes o = tt
block_law first later Broken bytes o = tt
block_law first later Volume bytes o = first_label_law first later (kind_at bytes)
block_law first later VolumeLabels bytes o =
    volume_labels_by first later bytes (is_volume_label bytes) o
block_law first later (Header2 heading wanted) bytes o =
    second_law first later heading wanted bytes (kind_at bytes)
block_law first later (Headers heading form) bytes o = refl
block_law first later (DataPassed heading) bytes o = refl
block_law first later (DataWanted heading form seen) bytes o =
    data_by first later heading form seen bytes (nat_lt seen (block_of first.position))
block_law first later (TrailerPassed heading) bytes o =
    passed_law first later heading (trail1_at bytes)
block_law first later (TrailerWanted heading form) bytes o =
    wanted_law first later heading form (trail1_at bytes)
block_law first later Trailers bytes o = refl
block_law first later NextFile bytes o = head1_law first later (head1_at bytes) o

mark_law : (first later : State) (p : Phase)
    → PassesTo (expected_over (at_mark first p)) later (at_mark later (passed_over p))
mark_law first later Over = tt
mark_law first later (Headers heading None) = refl
mark_law first later (Headers heading (Some form)) = refl
mark_law first later (DataPassed heading) = refl
mark_law first later (DataWanted heading form seen) =
    data_end_by first later heading form (nat_lt seen (block_of first.position))
mark_law first later Trailers = refl
mark_law first later _ = tt

bad_law : (first later : State) (p : Phase)
    → PassesTo (expected_over (at_bad first p)) later (at_bad later (passed_over p))
bad_law first later Over = tt
bad_law first later (DataPassed heading) = refl
bad_law first later (DataWanted heading form seen) =
    bad_by first later heading form seen (nat_lt seen (block_of first.position))
bad_law first later _ = tt

pub item_law : (first later : State) (p : Phase) (x : TapeItem) → AreInOrder first later
    → PassesTo (expected_over (at_item first p x)) later (at_item later (passed_over p) x)
item_law first later p (block bytes) o = block_law first later p bytes o
item_law first later p mark o = mark_law first later p
item_law first later p bad o = bad_law first later p

-- ---- a step, if neither file is complete

awaits_step : (core : State) (q : Position) (x : TapeItem) → is_finished q ≡ false
    → unless_complete core q (at_item core core.phase x) ≡ at_item core core.phase x
awaits_step core Finished x waits = absurd (cc)
awaits_step core (Awaits sect b part) x waits = refl

pub step_law : (first later : State) (x : TapeItem) → AreInOrder first later
    → later.phase ≡ passed_over first.phase
    → PassesTo (expected_over (step_of first (Some x))) later (step_of later (Some x))
step_law first later x o there =
    let one : step_of first (Some x) ≡ at_item first first.phase x =
    awaits_step first first.position x o.first_waits in
    let two : step_of later (Some x) ≡ at_item later (passed_over first.phase) x =
    awaits_step later later.position x o.later_waits ∙ ap (λ p. at_item later p x) there in
    subst (λ z. PassesTo (expected_over z) later (step_of later (Some x))) (sym one)
    (subst (λ z. PassesTo (expected_over (at_item first first.phase x)) later z) (sym two)
    (item_law first later first.phase x o))
