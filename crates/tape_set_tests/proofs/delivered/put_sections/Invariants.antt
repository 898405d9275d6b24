use Rattle.std.proofs.Common.{◌≡◌, ◌++◌, drop}
use Rattle.tape_set.specs.Before.{section_parts}
use Rattle.tape_set_tests.proofs.delivered.put_sections.Given as goal

abbrev pub invariant-loop-section : goal.invariant-loop-section
invariant-loop-section l =
    l.parts.items ++ section_parts (drop l.section-index l.sections)
    ≡ l.fn.parts.items ++ section_parts l.fn.sections
