use Rattle.amqp_data.specs.Ahead.{NumberAhead}
use Rattle.amqp_data.proofs.ahead.number_ahead.Given as goal

abbrev pub invariant-loop-i : goal.invariant-loop-i
invariant-loop-i g l = NumberAhead l.from l.i l.number (g.R.Read.reading l.fn.reader) (g.R.Read.reading l.reader)
