use Rattle.tape_image.proofs.FormatsAgree.{simh_is_extended, even_e11, apart, agreed}
use Rattle.tape_image.proofs.laws.simh_formats_agree.Goals as goal

pub returns : goal.returns
returns c = record {
  extended = simh_is_extended;
  apart = apart;
  agree = agreed;
  even = even_e11;
}
