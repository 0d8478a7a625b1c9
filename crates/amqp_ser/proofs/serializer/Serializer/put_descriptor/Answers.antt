use Rattle.std.proofs.Common.{◌≡◌, Option, refl, ap}
use Rattle.amqp_base.specs.declared.shape.Setting.TheVariants.{DescribedBasic}
use Rattle.amqp_types.specs.declared.described.Descriptor.{Descriptor}
use Rattle.amqp_write.specs.declared.place.Mark.{Mark as CodeMark}
use Rattle.amqp_write.specs.declared.place.Mark.TheVariants.{Unmarked, First, Other}
use Rattle.amqp_write.specs.State.{stand}
use Rattle.amqp_ser.specs.State.{Mark, mark_in}
use Rattle.amqp_ser.specs.Describing.{IsOwn}
use Rattle.amqp_ser.proofs.Describing.{behind_undescribed}
use Rattle.amqp_ser.proofs.serializer.Serializer.put_descriptor.Goals as goal

-- the mark of an item with its own constructor is the same, whatever descriptor is kept beside it
own_mark : (d e : Option Descriptor) (m : CodeMark) → IsOwn (mark_in d m) → mark_in e m ≡ mark_in d m
own_mark d e Unmarked own = refl
own_mark d e First own = refl
own_mark d e (Other c) own = absurd own

pub returns-clause-ok : goal.returns-clause-ok
unfolding stand
returns-clause-ok g c =
    let t = stand g.W.Write g.W.FaultCount c.descriptor.new.writer c.descriptor.new.self in
    rw (← c.self.view_is) (record {
      behind = t;
      pays = c.in-Ok.ensures.law;
      is = ap (λ (m : Mark). record t { setting = DescribedBasic; mark = m }) (own_mark _ _ _ (rw (← c.self.view_is) at c.requires.own));
    })

pub returns-in-Err-clause-err : goal.returns-in-Err-clause-err
unfolding stand
returns-in-Err-clause-err g c = rw (c.refused.ensures, ← c.self.view_is) (λ v. behind_undescribed _ _ _ v _ _ refl (rw (← c.self.view_is) at c.requires.own) c.in-Err.ensures.law)
