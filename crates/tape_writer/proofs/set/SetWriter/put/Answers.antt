use Rattle.tape_writer.proofs.Words.{rules, ◌++◌, ◌∷◌, []}
use Rattle.tape_writer.proofs.Calls.{put_told, put_last, stuck_told, if_filing}
use Rattle.tape_writer.proofs.{Last.asked_of, Last.lasting_self, Left.left_put}
use Rattle.tape_writer.proofs.set.SetWriter.put.Goals as goal

pub returns-in-Between-clause-lasting : goal.returns-in-Between-clause-lasting
returns-in-Between-clause-lasting g c = rw (← c.self.view_is) (lasting_self _ _ _)

pub returns-in-Failed-clause-lasting : goal.returns-in-Failed-clause-lasting
returns-in-Failed-clause-lasting g c = rw (← c.self.view_is) (lasting_self _ _ _)

pub returns-in-Finished-clause-lasting : goal.returns-in-Finished-clause-lasting
returns-in-Finished-clause-lasting g c = rw (← c.self.view_is) (lasting_self _ _ _)

pub returns-in-Ok-clause-told : goal.returns-in-Ok-clause-told
returns-in-Ok-clause-told g c =
    rw (← c.self.view_is) (λ told k. put_told (g.T.TapeOut.holds c.self.inside.tape.out)
    (g.T.TapeOut.holds c.put_record.new.tape.out) _ _ _ _ _ _ told _ c.in-Filing.is (search rules)
    c.put_record.ensures.file
    (λ fs records x. c.in-Ok.ensures.packed c.self.inside.set_id fs records x) k)

pub returns-in-Err-2-clause-stuck : goal.returns-in-Err-2-clause-stuck
returns-in-Err-2-clause-stuck g c =
    rw (← c.self.view_is) (λ told k e. stuck_told (g.T.TapeOut.holds c.self.inside.tape.out)
    (g.T.TapeOut.holds c.put_record.new.tape.out) _ _ _ _ _ told _
    (λ rs. rs ++ c.args.bytes.now ∷ []) c.in-Filing.is (search rules)
    (λ past records is. put_last told past _ records c.args.bytes.now is) (λ fs records x.
    c.in-Err.ensures.stuck e c.self.inside.set_id fs records x) k)

pub returns-in-Err-2-clause-length : goal.returns-in-Err-2-clause-length
returns-in-Err-2-clause-length g c =
    rw (← c.self.view_is) (if_filing _ _ _ c.in-Filing.is (λ n. search rules))

pub returns-in-Ok-clause-asked : goal.returns-in-Ok-clause-asked
returns-in-Ok-clause-asked g c =
    rw (← c.self.view_is) (λ w. asked_of _ _ _ _ _ _ (search rules) c.in-Ok.ensures.asked w)

pub returns-in-Err-2-clause-front : goal.returns-in-Err-2-clause-front
returns-in-Err-2-clause-front g c =
    rw (← c.self.view_is) (λ told k ends.
    left_put (g.T.TapeOut.holds c.self.inside.tape.out)
    (g.T.TapeOut.holds c.put_record.new.tape.out) _ c.deref.result.now c.in-Filing.open told
    c.args.bytes.now c.in-Filing.is (search rules)
    (λ fs records x. c.in-Err.ensures.front c.self.inside.set_id fs records x ends) k)
