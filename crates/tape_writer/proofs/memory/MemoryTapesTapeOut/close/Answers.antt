use Rattle.tape_writer.proofs.Words.{sym, ap, ◌∙◌, map, option_map, map-append}
use Rattle.tape_writer.proofs.Closing.{closed}
use Rattle.tape_writer.proofs.memory.MemoryTapesTapeOut.close.Goals as goal

pub returns-in-Ok-clause-ok : goal.returns-in-Ok-clause-ok
returns-in-Ok-clause-ok c = rw (← c.self.view_is) (λ tapes h. closed
    (map (λ v. v.items) c.self.inside.ended.items) (map (λ v. v.items) c.push.new.self.items)
    (option_map (λ v. v.items) c.self.inside.current) (option_map (λ v. v.items) c.take.new.self) _
    tapes (ap (option_map (λ v. v.items)) (sym c.take.ensures.value ∙ c.in-Some.is))
    (ap (option_map (λ v. v.items)) c.take.ensures.after) (ap (map (λ v. v.items))
    c.in-Ok.ensures.items ∙ map-append (λ v. v.items) _ _) h)
