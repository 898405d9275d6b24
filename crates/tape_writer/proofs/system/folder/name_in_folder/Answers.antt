use Rattle.tape_writer.proofs.Words.{List, ℕ, codes, subst, sym, arith}
use Rattle.std.proofs.lemmas.Str.Pattern.{rfind_char}
use Rattle.tape_writer.specs.System.{IsPathOf}
use Rattle.tape_writer.proofs.Paths.{in_current, in_some, last_of, none_of}
use Rattle.tape_writer.proofs.system.folder.name_in_folder.Goals as goal

pub returns-in-Some : goal.returns-in-Some
returns-in-Some c =
    let path = c.args.path.now in
    let found = rfind_char 47 _ _ c.rfind.ensures.cases (omega arith) in
    subst (λ name. (folder : List ℕ) × IsPathOf path folder name) (sym c.range_from.ensures.value)
    (in_some _ _ (last_of _ _ _ found c.in-Some.is))

pub returns-in-None : goal.returns-in-None
returns-in-None c =
    let found = rfind_char 47 _ _ c.rfind.ensures.cases (omega arith) in
    (codes ".", in_current _ (none_of _ _ found c.in-None.is))
