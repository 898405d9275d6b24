-- Images that were read one after another.
use Rattle.std.proofs.Common.{◌≡◌, Bool, ℕ, ◌+◌, List, [], ◌∷◌, ◌++◌, length, map, Option, Some}
use Rattle.std.proofs.Common.{None, IfSome, refl, sym, ap, subst, ◌∙◌, arith, append_assoc}
use Rattle.std.proofs.{Common.append-nil, Common.true, Common.false, KnownBytes.Appends-trans}
use Rattle.std.specs.Io.KnownBytes.{Appends}
use Rattle.tape_image.specs.Written.{AppendsFront}
use Rattle.tape_core.specs.State.{State}
use Rattle.tape_run.specs.Reeling.{IsNoted, IsKeptFor, Turn, Opened, answer_of}
use Rattle.tape_run.specs.{Given.is_device, Seen.Seen, Seen.IsKept, Steps.Reeled}
use Rattle.tape_run.specs.ReelLine.{reel_line, reel_lines}
use Rattle.tape_run.specs.Reeling.{Follows, Mounting, AreMounted}
use Rattle.tape_run.proofs.Sessions.{kept_save, kept_restart}

-- ---- lines

pub lines_more : (n : ℕ) (turns more : List Turn)
    → reel_lines n (map answer_of (turns ++ more))
    ≡ reel_lines n (map answer_of turns) ++ reel_lines (n + length turns) (map answer_of more)
lines_more n [] more =
    ap (λ m. reel_lines m (map answer_of more)) (let same : n ≡ n + 0 = omega arith in same)
lines_more n (t ∷ turns) more = grind (arith, append_assoc, lines_more (n + 1) turns more)

-- the line of one more image after those before it
pub line_behind : (from : ℕ) (old mid new : Option (List ℕ)) (turns : List Turn) (t : Turn)
    (number : ℕ) → number ≡ from + length turns
    → Appends old mid (reel_lines from (map answer_of turns))
    → Appends mid new (reel_line number (answer_of t))
    → Appends old new (reel_lines from (map answer_of (turns ++ t ∷ [])))
line_behind from old mid new turns t number e first then =
    let text : reel_lines from (map answer_of (turns ++ t ∷ []))
    ≡ reel_lines from (map answer_of turns) ++ reel_line number (answer_of t) =
    lines_more from turns (t ∷ [])
    ∙ ap (λ l. reel_lines from (map answer_of turns) ++ l)
    (append-nil (reel_line (from + length turns) (answer_of t))
    ∙ ap (λ m. reel_line m (answer_of t)) (sym e)) in
    subst (Appends old new) (sym text) (Appends-trans old mid new _ _ first then)

-- a prefix of the line of one more image after those before it
pub front_behind : (from : ℕ) (old mid new : Option (List ℕ)) (turns : List Turn) (t : Turn)
    (number : ℕ) → number ≡ from + length turns
    → Appends old mid (reel_lines from (map answer_of turns))
    → AppendsFront mid new (reel_line number (answer_of t))
    → AppendsFront old new (reel_lines from (map answer_of (turns ++ t ∷ [])))
front_behind from old mid new turns t number e first (front, rest, wrote, all) = (
  reel_lines from (map answer_of turns) ++ front,
  rest,
  Appends-trans old mid new _ front first wrote,
  lines_more from turns (t ∷ [])
      ∙ ap (λ l. reel_lines from (map answer_of turns) ++ l)
      (append-nil (reel_line (from + length turns) (answer_of t))
      ∙ ap (λ m. reel_line m (answer_of t)) (sym e) ∙ all)
      ∙ sym (append_assoc (reel_lines from (map answer_of turns)) front rest),
)

-- ---- images

-- one more image was opened, the first of those that had not been
pub one_mounted : {L R T : Type 0} (gives : Mounting L R) (is : Option R → T → Type 0) (shelf : L)
    (number : ℕ) (ts : List T) (mid : L) (t : T) (image : Option R) (next : L)
    → AreMounted gives is shelf number ts mid → gives mid (number + length ts) image next
    → is image t → AreMounted gives is shelf number (ts ++ t ∷ []) next
one_mounted gives is shelf number [] mid t image next same g one =
    let at : number + 0 ≡ number = omega arith in
    let given = subst (λ n. gives mid n image next) at g in
    (image, next, subst (λ z. gives z number image next) same given, one, refl)
one_mounted gives is shelf number (u ∷ ts) mid t image next (i, z, gave, was, are) g one =
    let at : number + length (u ∷ ts) ≡ number + 1 + length ts = omega arith in
    let given = subst (λ n. gives mid n image next) at g in
    (i, z, gave, was, one_mounted gives is z (number + 1) ts mid t image next are given one)

-- ---- the session

pub follows_then : (back spares : Bool) (a : State) (s : Seen) (ts : List Turn) (b : State)
    (t : Seen) (us : List Turn) (c : State) (u : Seen) → Follows back spares a s ts b t
    → Follows back spares b t us c u → Follows back spares a s (ts ++ us) c u
follows_then back spares a s [] b t us c u (core, same) g =
    subst (λ z. Follows back spares z s us c u) core
    (subst (λ z. Follows back spares b z us c u) same g)
follows_then back spares a s (None ∷ ts) b t us c u (waits, f) g =
    (waits, follows_then back spares a s ts b t us c u f g)
follows_then back spares a s (Some o ∷ ts) b t us c u (next, mid, r, f) g =
    (next, mid, r, follows_then back spares next mid ts b t us c u f g)

pub noted : (back spares : Bool) (bytes : Option (List ℕ)) (o : Opened) (old mid new : Seen)
    → IfSome bytes (λ b. Reeled b o.left (is_device o.answer.fault) old mid)
    → IsNoted back spares o.suspect o.noted mid new
    → IfSome bytes (λ b. (m : Seen) × Reeled b o.left (is_device o.answer.fault) old m
    × IsNoted back spares o.suspect o.noted m new)
noted back spares None o old mid new r s = tt
noted back spares (Some b) o old mid new r s = (mid, r, s)

-- a preserved property of a session is preserved by a reel too
pub kept_behind : (back spares doubtful noted : Bool) (old new : Seen)
    → IsNoted back spares doubtful noted old new → IsKeptFor back old → IsKeptFor back new
kept_behind false spares doubtful noted old new s k = tt
kept_behind true spares false true old new (elsewhere, s) k = kept_save old new s k
kept_behind true spares false false old new (is, here, same) k = subst IsKept (sym same) k
kept_behind true spares true noted old new (n, count, w) k = kept_restart old new n w k

pub kept_for : (back : Bool) (old new : Seen) → (IsKept old → IsKept new) → IsKeptFor back old
    → IsKeptFor back new
kept_for false old new f k = tt
kept_for true old new f k = f k
