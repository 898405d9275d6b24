-- The test cases for the laws.
use Rattle.std.proofs.Common.{◌≡◌, ℕ, List, [], ◌∷◌, Some, None, refl, ap, sym, ◌∙◌, subst}
use Rattle.std.proofs.Common.{arith, true, false, inr, MatchOption, Option}
use Rattle.tape_blocks.specs.Block.{Portion}
use Rattle.tape_set.specs.{Before.before, Layout.FileSet, Lawful.IsLawful, Reach.far}
use Rattle.tape_set.specs.Reading.{Reading}
use Rattle.tape_core.specs.{Point.Point, Stands.Stands}
use Rattle.tape_run.specs.{declared.script.Step.TheVariants.Reel, History.Course, History.IsHistory}
use Rattle.tape_run.specs.{Headline.HasRun, Mount.reads, OneEntry.HasOneEach, Passing.Told}
use Rattle.tape_run.specs.{CrashRuns.IsResumed, CrashRuns.ResumedGoesOn, CasesOfCatalogues.met}
use Rattle.tape_run.specs.{Seen.Seen, CasesOfLaws.CasesOfRunLaws, CasesOfLaws.CasesOfCatalogueLaws}
use Rattle.tape_run.specs.declared.section.SectionState.TheVariants.{Good, Cut}
use Rattle.tape_run.specs.Lacks.{LackIsFirst, IsFoundWhole, IsFirstLack, lack_of}

went_on : ResumedGoesOn → (set : FileSet) (c : Point) (ps : List Portion) (began new : Seen)
    (bytes : List ℕ) (left : List (Option (List ℕ))) (r : Reading) → IsLawful set
    → Stands set c.file c ps
    → IsResumed c ps began → (run : HasRun began (Reel ∷ []) (bytes ∷ []) left new)
    → IsHistory set 0 (Reel ∷ []) run.given (reads r ∷ [])
    → (new.place.position ≡ far set c.file c.position r)
    × (new.parts ≡ before set c.file new.place.position)
went_on law set c ps began new bytes left r lawful stands from run history =
    let (there, parts) = law set c ps began new (Reel ∷ []) (bytes ∷ []) left (reads r ∷ [])
    lawful stands from run history in
    (sym (ap (λ (z : Course). z.at) there), parts)

pub cases_of_run_laws : CasesOfRunLaws
cases_of_run_laws = record {
  a_front = λ law set front rest h m. law set front rest h m;
  what_was_given = λ law set steps bytes given left hs history are.
      law set 0 (true ∷ false ∷ true ∷ []) steps bytes given left hs history are;
  a_refusal = λ law which old new steps bytes left n fault set hs runs history.
      law which old new steps bytes bytes left n fault set hs refl runs history;
  refusals = λ cause. (tt, tt);
  no_refusals = (λ x. x, λ x. x, λ x. x);
  came_back = λ law old steps bytes left back there stood.
      law old steps bytes left back there stood;
  one_crash = λ law set c back ps there life hs lawful stands outlives are.
      law set c ps (life ∷ []) (hs ∷ []) back there lawful stands outlives are;
  went_on = went_on;
  items_are = λ law bytes. let all = law (bytes ∷ []) in (all.0, all.1);
  no_life = λ c ps. (refl, refl);
  one_life = λ c back ps there life resumed came.
      (resumed, (back, there, inr came, (refl, refl)));
  read_life = λ set s bytes given h mount. ((mount, tt), refl);
}

none_lacks : LackIsFirst → (c : List Told) (id : List ℕ) (file : ℕ) → lack_of c id file ≡ None
    → IsFoundWhole c id file
none_lacks law c id file e =
    subst (λ l. MatchOption l (IsFoundWhole c id file) (IsFirstLack c id file)) e (law c id file)

first_lacks : LackIsFirst → (c : List Told) (id : List ℕ) (file sect : ℕ)
    → lack_of c id file ≡ Some sect → IsFirstLack c id file sect
first_lacks law c id file sect e =
    subst (λ l. MatchOption l (IsFoundWhole c id file) (IsFirstLack c id file)) e (law c id file)

two_entries : HasOneEach (met 1 1 false Good ∷ met 1 2 true Cut ∷ [])
two_entries = grind (arith)

pub cases_of_catalogue_laws : CasesOfCatalogueLaws
cases_of_catalogue_laws = record {
  none_lacks = none_lacks;
  first_lacks = first_lacks;
  volume_is_good = λ law set k lawful some. law set k [] lawful some;
  set_is_good = λ law set ks c lawful each. law set ks c lawful each;
  set_lacks_none = λ law set ks lawful each some. law set ks 1 lawful each some;
  set_is_found = λ law set ks lawful each some. law set ks lawful each some;
  copy_is_added = λ law set k xs after line new copy calm adds.
      law set k xs after [] line new copy calm adds;
  set_is_told = λ law set ks reels text found report lawful each some are.
      law set ks reels text found lawful each some report are;
  good_was_seen = λ law reels text found report t stands good.
      law reels text found report t stands good;
  good_are_shown = λ law items. law items;
  a_listing = λ law bytes. let all = law bytes in (all.0, all.1);
  one_listing = λ law bytes text other one two.
      let all = law bytes in all.2 text one ∙ sym (all.2 other two);
  two_entries = two_entries;
  twice = λ one. one.0.0 refl;
  one_entry = λ law before after new line adds. law.added before after [] new line tt adds;
}
