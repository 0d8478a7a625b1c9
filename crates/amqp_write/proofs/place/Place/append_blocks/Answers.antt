-- Numbers by blocks.
use Rattle.std.proofs.Common.{◌++◌, [], map, refl, arith}
use Rattle.amqp_base.specs.declared.shape.Setting.TheVariants.{Plain}
use Rattle.amqp_write.specs.State.{stand}
use Rattle.amqp_write.proofs.Bytes.{measure_start, empty_list}
use Rattle.amqp_write.proofs.ManyTexts.{written_none, written_more, written_refused, written_all, further}
use Rattle.amqp_write.proofs.place.Place.append_blocks.Goals as goal

pub loop-rest-init : goal.loop-rest-init
unfolding stand
loop-rest-init g c = record { written = ([], refl, written_none g.P.Texts.mark _ (measure_start _ _)); room = refl }

pub loop-rest-preserved : goal.loop-rest-preserved
unfolding stand
loop-rest-preserved g c =
    let item = λ (x : g.row.T.Denot). g.T.Typed.meaning.item x Plain in
    let done = c.loop-rest.invariant.written in
    let now = c.split_at.result.0.now in
    let put = c.put_all-end.ensures.texts in
    record {
      written = (done.0 ++ now, further _ done.0 _ now _ c.if-rest-gt-MANY.len done.1 c.split_at.ensures.front c.split_at.ensures.back, written_more g.P.Texts.mark item done.0 now _ _ _ _ _ _ done.2 put.texts c.in-Ok.is c.append.ensures);
      room = omega (arith, put.long, c.loop-rest.invariant.room);
    }

pub returns-in-Err : goal.returns-in-Err
unfolding stand
returns-in-Err g c =
    let item = λ (x : g.row.T.Denot). g.T.Typed.meaning.item x Plain in
    let done = c.loop-rest.invariant.written in
    record { law = written_refused g.P.Texts.mark (map item done.0) (map item c.args.values.now) _ _ _ _ c.append.result c.in-Err.e done.2 c.in-Err.is c.append.ensures }

pub returns : goal.returns
unfolding stand
returns g c =
    let item = λ (x : g.row.T.Denot). g.T.Typed.meaning.item x Plain in
    let done = c.loop-rest.invariant.written in
    record { law = written_all g.P.Texts.mark item c.args.values.now done.0 c.loop-rest.rest.now _ _ _ done.1 (empty_list _ _ c.loop-rest-test.false c.is_empty.ensures) done.2 }
