use Rattle.tape_run.proofs.{MergeMounted.left_now, MergeNow.at_front}
use Rattle.tape_run.proofs.merge.now.merge_now.Goals as goal

pub returns-clause-left : goal.returns-clause-left
returns-clause-left g c = left_now c.merge_readings.result g.O.Place.stands _ _ _
    g.L.ImageSource.size g.L.ImageSource.gives g.R.Read.remaining _ _
    c.in_ok-devices.devices.items _ _ _ _ _ c.in_ok-devices.ensures.ok
    (at_front g.R.Read.remaining c.in_ok-devices.devices.items _ _ _
    c.as_mut_slice.ensures.value c.as_mut_slice-2.ensures.value c.in_ok-readings.ensures)
    c.merge_readings.ensures.left
