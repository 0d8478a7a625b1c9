use Rattle.std.proofs.Common.{◌%◌, ◌^◌, leb, map, replicate, w8, sym, ap, ◌∙◌, arith, eqb-true, leb-false}
use Rattle.std.proofs.lemmas.List.{length-map}
use Rattle.std.proofs.lemmas.Simd.{tops_compared, zip2_splat_left, mask_l-mod, length-chunk, none_from_empty_mask}
use lib.Lanes.{chunk, mask_l}
use Rattle.amqp_read.proofs.texts.block_is_ascii.Goals as goal

pub returns : goal.returns
returns g c empty k byte from to =
    let n = g.row.N in
    let bs = c.args.bytes.now in
    let block = chunk c.args.at n bs in
    let long = length-chunk c.args.at n bs c.requires.room in
    let kept = mask_l-mod (map (leb 128) block) 64 (omega (arith, length-map block (leb 128), long, c.requires.lanes)) in
    let mask = ap (λ lanes. mask_l lanes % 2 ^ 64) (tops_compared w8 leb (replicate n 128) block ∙ zip2_splat_left leb 128 n block long) ∙ kept in
    leb-false 128 _ (none_from_empty_mask (leb 128) bs c.args.at n byte c.requires.room (sym mask ∙ eqb-true _ _ empty) k from to)
