use Rattle.amqp_ser.proofs.compound.write_part.Goals as goal

pub returns-in-Err-clause-err : goal.returns-in-Err-clause-err
returns-in-Err-clause-err g c = λ pairs s shape xs all h split complete. c.in-Err.ensures.err pairs c.args.ser.now.state s shape xs all h split complete

pub returns-in-Err-clause-stops : goal.returns-in-Err-clause-stops
returns-in-Err-clause-stops g c = λ pairs. c.in-Err.ensures.stops pairs c.args.ser.now.state
