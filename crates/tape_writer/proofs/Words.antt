-- The words of other libraries that are used here often.
pub use Rattle.std.proofs.Common.{Bool, Err, IfErr, IfSome, List, None, Ok, OnOk, Option, Result}
pub use Rattle.std.proofs.Common.{Some, [], add-one, ap, append_assoc, arith, codes, drop, false}
pub use Rattle.std.proofs.Common.{get_or, if◌then◌else◌, inl, inr, length, length-append, map}
pub use Rattle.std.proofs.Common.{option_map, refl, rules, slice_get, subst, suc, sym, take, true}
pub use Rattle.std.proofs.Common.{vec_capacity, zero, ℕ, ◌%◌, ◌++◌, ◌+◌, ◌-◌, ◌<◌, ◌∙◌, ◌∷◌, ◌≡◌}
pub use Rattle.std.proofs.Common.{◌≢◌, ◌≤◌, ◌⊎◌}
pub use Rattle.std.proofs.lemmas.List.{append-nil, drop_more, length-map, length-take-le}
pub use Rattle.std.proofs.lemmas.{Bool.Decides.nat_tests, Bool.lt-leb, Bool.ne_eqb, List.map-append}
pub use Rattle.std.proofs.lemmas.{Result.err_from_is_err_and}
pub use Rattle.std.specs.{Io.KnownBytes.prepend_known, List.AllByRecursion}
pub use Rattle.tape_blocks.proofs.RunLaws.{offers_shape}
pub use Rattle.tape_blocks.specs.Packing.{Given, HasRecordLength, IsJudged, IsWritable, Offers}
pub use Rattle.tape_blocks.specs.{Block.Portion, Packing.Packing, Packing.emptied, Tight.Filled}
pub use Rattle.tape_blocks.specs.{declared.parts.Shape.Shape}
pub use Rattle.tape_image.specs.{Reader.IfKnown, Tape.TapeItem, Tape.block, Tape.mark}
pub use Rattle.tape_image.specs.{Writer.Writer, Writer.writing}
pub use Rattle.tape_label.specs.{Widths.IsWideVolume, declared.values.Format.Format}
pub use Rattle.tape_label.specs.{declared.values.Head1.Head1, declared.values.Vol1.Vol1}
pub use Rattle.tape_set.proofs.{Everywhere.every, Everywhere.every_at, Measures.items_size-append}
pub use Rattle.tape_set.specs.Layout.{Placed, Section, Volume, a_mark, all_entries, all_numbered}
pub use Rattle.tape_set.specs.Layout.{group_of, item_of, numbered, on, section_entries}
pub use Rattle.tape_set.specs.Tight.{IsTightChange, least_capacity, used_before}
pub use Rattle.tape_set.specs.{Before.blocks_of_all, Lawful.IsSection, Sizes.item_size}
pub use Rattle.tape_set.specs.{Sizes.items_size}
