use Rattle.tape_writer.proofs.Words.{◌≡◌, ◌+◌, ◌-◌, Some, drop, take, ap, subst, sym, ◌∙◌, arith}
use Rattle.std.proofs.lemmas.Str.Pattern.{rfind_char}
use Rattle.tape_writer.specs.System.{IsPathOf}
use Rattle.tape_writer.proofs.Paths.{in_current, in_folder, in_root, last_of, none_of}
use Rattle.tape_writer.proofs.system.folder.folder_of.Goals as goal

pub returns-in-Some-eq0 : goal.returns-in-Some-eq0
returns-in-Some-eq0 c =
    let path = c.args.path.now in
    let found = rfind_char 47 _ _ c.rfind.ensures.cases (omega arith) in
    let zero : c.in-Some-eq0.field-0 ≡ 0 = omega (arith, c.in-Some-eq0.field-0-test) in
    let first : c.rfind.result ≡ Some 0 =
    c.in-Some-eq0.is ∙ ap (λ n. Some n) zero in
    (drop 1 path, in_root _ (last_of _ _ 0 found first))

pub returns-in-Some : goal.returns-in-Some
returns-in-Some c =
    let path = c.args.path.now in
    let end = c.in-Some.end in
    let found = rfind_char 47 _ _ c.rfind.ensures.cases (omega arith) in
    let all : end - 0 ≡ end = omega arith in
    let front : c.range.result.now ≡ take end path =
    c.range.ensures.value ∙ ap (λ n. take n path) all in (
      drop (end + 1) path,
      subst (λ folder. IsPathOf path folder (drop (end + 1) path)) (sym front) (in_folder _ _
          (omega (arith, c.in-Some.end-test)) (last_of _ _ _ found c.in-Some.is)),
    )

pub returns-in-None : goal.returns-in-None
returns-in-None c =
    let path = c.args.path.now in
    let found = rfind_char 47 _ _ c.rfind.ensures.cases (omega arith) in
    (path, in_current _ (none_of _ _ found c.in-None.is))
