use Rattle.std.proofs.Common.{refl}
use Rattle.amqp_ser.proofs.Describing.{wrote_set, refused_set}
use Rattle.amqp_ser.proofs.described_structs.BodySerialize.serialize.Goals as goal

pub returns-in-Ok-clause-ok : goal.returns-in-Ok-clause-ok
returns-in-Ok-clause-ok g c = rw (c.set_setting-in-Ok.ensures, c.setting-setting.ensures) (wrote_set _ _ _ _ (rw (c.set_setting.ensures, c.body_setting.ensures) at c.in-Ok.ensures.ok))

pub returns-in-Err-clause-err : goal.returns-in-Err-clause-err
returns-in-Err-clause-err g c = refused_set _ _ _ _ _ ((rw (c.set_setting.ensures, c.body_setting.ensures) at c.in-Err.ensures.err) refl c.args.self.now.usual)
