-- The examples for a reel's answer, and for where the table leads for any tapes.
use Rattle.std.proofs.Common.{◌≡◌, [], ◌∷◌, refl, arith}
use Rattle.tape_image.specs.{declared.item.Ending.TheVariants.Physical, Begins.ends}
use Rattle.tape_label.specs.{Kinds.kind_at, VolumeLabels.is_volume_label}
use Rattle.tape_label.specs.Reading.{head_at, head1_at, head2_at, format_at, offset_at}
use Rattle.tape_blocks.specs.{Units.unit_at, Parts.parts_by, Judged.judged, Judged.judged_units}
use Rattle.tape_run.specs.declared.script.Step.TheVariants.{Save, Restart}
use Rattle.tape_run.specs.Lead.{Lead, lead}
use Rattle.tape_run.specs.CasesOfReels.{CasesOfTable, CasesOfLeads}
use Rattle.tape_run.proofs.{Examples.empty_begins, Places.stands_first, Places.stands_behind}

pub cases_of_table : CasesOfTable
unfolding kind_at head_at head1_at head2_at format_at offset_at is_volume_label parts_by
    unit_at judged judged_units
cases_of_table = grind (arith, stands_first, stands_behind)

parts_back : (t : Lead) → t.notes ≡ [] → (lead t (Save ∷ Restart 0 ∷ []) []).parts ≡ t.parts
parts_back t none = rw none refl

pub cases_of_leads : CasesOfLeads
cases_of_leads = record {
  starts = refl;
  saved_and_back = refl;
  parts_back = parts_back;
  over_a_reel = λ t xs. refl;
  items = λ bytes xs are. are.0;
  items_of_none = ((0, ends Physical, empty_begins), tt);
  items_of_each = λ bytes are. are;
  items_of_no_more = λ xs are. are;
  there = λ t s st. (st.place, st.parts, st.notes, st.wide);
  noted = λ n c parts are. (are.1, are.2);
  each_noted = λ n c parts. (λ x. x, λ x. x);
  save_stops = λ t readers fault new s. s;
  reel_stops = λ t bytes cause new xs end stop s b. (s.1 xs end stop b, s.0);
  run_led = λ old new steps bytes left t tapes r are st. r.led t tapes are st;
  read_led = λ id file steps bytes left s tapes r are. r.led tapes are;
  stopped_led = λ old new steps bytes left n fault t tapes s are st. s.led t tapes are st;
  reel_led = λ bytes left old new xs end stop r b. r.table xs end stop b;
  cut_led = λ bytes old new xs end stop c b. c.table xs end stop b;
}
