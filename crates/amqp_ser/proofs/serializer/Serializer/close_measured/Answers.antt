use Rattle.std.proofs.Common.{refl, inl}
use Rattle.amqp_base.specs.Faults.{refusal_of}
use Rattle.amqp_ser.proofs.serializer.Serializer.close_measured.Goals as goal

pub returns-in-None-clause-law : goal.returns-in-None-clause-law
unfolding refusal_of
returns-in-None-clause-law g c = λ m h. inl refl

pub returns-then-end-ge18446744073709551615-clause-law : goal.returns-then-end-ge18446744073709551615-clause-law
unfolding refusal_of
returns-then-end-ge18446744073709551615-clause-law g c = λ m h. inl refl

pub returns-then-end-before-clause-law : goal.returns-then-end-before-clause-law
unfolding refusal_of
returns-then-end-before-clause-law g c = λ m h. inl refl

pub returns-then-not-close_measured-clause-law : goal.returns-then-not-close_measured-clause-law
unfolding refusal_of
returns-then-not-close_measured-clause-law g c = λ m h. inl refl
