-- Whether what was read of an image is a whole volume.
use Rattle.std.specs.Prelude.{ℕ, ◌==◌, ◌&&◌, nat_le, length, Bool, true, false, is_none}
use Rattle.tape_image.specs.{declared.item.ImageFault.ImageFault, Fault.number_of}
use Rattle.tape_run.specs.declared.section.ImageStop.{ImageStop}
use Rattle.tape_run.specs.declared.survey.course.LabelOrder.{LabelOrder}
use Rattle.tape_run.specs.declared.survey.course.LabelOrder.TheVariants.{Ended}
use Rattle.tape_run.specs.declared.survey.view.ImageSurvey.{ImageSurvey}
use Rattle.tape_run.specs.declared.section.ImageStop.TheVariants.{Fault}
use Rattle.tape_run.specs.declared.container.Container.{Container}
use Rattle.tape_run.specs.declared.container.Container.TheVariants as kinds

-- the image does not end with a fault
abbrev pub is_end : ImageStop → Bool
is_end (Fault fault) = false
is_end _ = true

-- the volume ended
abbrev pub is_ended : LabelOrder → Bool
is_ended Ended = true
is_ended _ = false

-- The items are a complete volume in its order, and each second header label can be read.
abbrev pub is_whole_sight : ImageSurvey → Bool
is_whole_sight s = is_ended s.glance.course && (is_none s.glance.unread && is_end s.stop)

-- The items are such a volume, and none of its sections is damaged.
abbrev pub is_sound : ImageSurvey → Bool
is_sound s = is_whole_sight s && (length s.damaged == 0)

-- the bytes cannot be read as an image
abbrev pub is_no_image : ImageFault → Bool
is_no_image fault = (fault.place == 0) && nat_le (number_of fault.cause) 3

-- the kind is known, and is not that of a SIMH image
abbrev pub is_named : Container → Bool
is_named kinds.Unknown = false
is_named kinds.Simh = false
is_named _ = true
