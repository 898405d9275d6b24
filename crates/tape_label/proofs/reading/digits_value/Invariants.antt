use Rattle.std.proofs.Common.{◌≡◌, ◌<◌, ◌^◌, drop}
use Rattle.std.specs.Str.{all_ascii_digits}
use Rattle.tape_label.specs.Digits.{number_after, number_of}
use Rattle.tape_label.proofs.reading.digits_value.Given as goal

abbrev pub invariant-loop-byte : goal.invariant-loop-byte
invariant-loop-byte l = record {
  value : number_after l.number (drop l.byte-index l.text) ≡ number_of l.text;
  tests : all_ascii_digits (drop l.byte-index l.text) ≡ all_ascii_digits l.text;
  small : l.number < 10 ^ l.byte-index;
}
