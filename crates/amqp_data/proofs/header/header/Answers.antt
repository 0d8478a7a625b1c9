use Rattle.std.proofs.Common.{arith, sym, ◌∙◌}
use Rattle.amqp_data.proofs.Headers.{no_size, no_count, bad_header, too_many, above_size, small_size, header_of}
use Rattle.amqp_data.proofs.header.header.Goals as goal

pub returns-in-Err-clause-err : goal.returns-in-Err-clause-err
returns-in-Err-clause-err g c = no_size c.args.width c.args.is_array g.R.Read.buffers _ _ _ c.in-Err.ensures.err

pub returns-in-Err-number-clause-err : goal.returns-in-Err-number-clause-err
returns-in-Err-number-clause-err g c = no_count c.args.width c.args.is_array c.in-Ok.size g.R.Read.buffers _ _ _ _ c.in-Ok.ensures.ok c.in-Err-number.ensures.err

pub returns-then-count-gt-MOST-clause-err : goal.returns-then-count-gt-MOST-clause-err
returns-then-count-gt-MOST-clause-err g c = bad_header c.args.width c.args.is_array c.in-Ok.size c.in-Ok-number.count g.R.Read.buffers _ _ _ _ c.in-Ok.ensures.ok c.in-Ok-number.ensures.ok (λ d. d) (λ s. too_many c.args.width c.args.is_array c.in-Ok.size c.in-Ok-number.count s (omega arith))

pub returns-then-passes_size-clause-err : goal.returns-then-passes_size-clause-err
returns-then-passes_size-clause-err g c = bad_header c.args.width c.args.is_array c.in-Ok.size c.in-Ok-number.count g.R.Read.buffers _ _ _ _ c.in-Ok.ensures.ok c.in-Ok-number.ensures.ok (λ d. d) (λ s. above_size c.args.width c.args.is_array c.in-Ok.size c.in-Ok-number.count s (omega arith) (sym c.passes_size.ensures ∙ c.if-passes_size.true))

pub returns-then-size-least_size-clause-err : goal.returns-then-size-least_size-clause-err
returns-then-size-least_size-clause-err g c = bad_header c.args.width c.args.is_array c.in-Ok.size c.in-Ok-number.count g.R.Read.buffers _ _ _ _ c.in-Ok.ensures.ok c.in-Ok-number.ensures.ok (λ d. d) (λ s. small_size c.args.width c.args.is_array c.in-Ok.size c.in-Ok-number.count s (omega arith) (sym c.passes_size.ensures ∙ c.if-passes_size.false) (omega arith))

pub returns-clause-ok : goal.returns-clause-ok
returns-clause-ok g c = header_of c.args.width c.args.is_array c.in-Ok.size c.in-Ok-number.count _ _ _ c.in-Ok.ensures.ok c.in-Ok-number.ensures.ok (omega arith) (sym c.passes_size.ensures ∙ c.if-passes_size.false) (omega arith)
