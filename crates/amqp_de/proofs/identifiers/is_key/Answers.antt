use Rattle.std.proofs.Common.{refl}
use Rattle.amqp_base.specs.Codes.{row}
use Rattle.amqp_base.specs.SameKind.{same_kind, place}
use Rattle.amqp_de.proofs.Identified.{other_code}
use Rattle.amqp_de.proofs.identifiers.is_key.Goals as goal

pub returns-in-Uint-clause-yes : goal.returns-in-Uint-clause-yes
unfolding row same_kind place
returns-in-Uint-clause-yes c = λ h. rw c.in-Uint.is refl

pub returns-in-SmallUint-clause-yes : goal.returns-in-SmallUint-clause-yes
unfolding row same_kind place
returns-in-SmallUint-clause-yes c = λ h. rw c.in-SmallUint.is refl

pub returns-in-Uint0-clause-yes : goal.returns-in-Uint0-clause-yes
unfolding row same_kind place
returns-in-Uint0-clause-yes c = λ h. rw c.in-Uint0.is refl

pub returns-in-Ulong-clause-yes : goal.returns-in-Ulong-clause-yes
unfolding row same_kind place
returns-in-Ulong-clause-yes c = λ h. rw c.in-Ulong.is refl

pub returns-in-SmallUlong-clause-yes : goal.returns-in-SmallUlong-clause-yes
unfolding row same_kind place
returns-in-SmallUlong-clause-yes c = λ h. rw c.in-SmallUlong.is refl

pub returns-in-Ulong0-clause-yes : goal.returns-in-Ulong0-clause-yes
unfolding row same_kind place
returns-in-Ulong0-clause-yes c = λ h. rw c.in-Ulong0.is refl

pub returns-in-Str8-clause-yes : goal.returns-in-Str8-clause-yes
unfolding row same_kind place
returns-in-Str8-clause-yes c = λ h. rw c.in-Str8.is refl

pub returns-in-Str32-clause-yes : goal.returns-in-Str32-clause-yes
unfolding row same_kind place
returns-in-Str32-clause-yes c = λ h. rw c.in-Str32.is refl

pub returns-in-Sym8-clause-yes : goal.returns-in-Sym8-clause-yes
unfolding row same_kind place
returns-in-Sym8-clause-yes c = λ h. rw c.in-Sym8.is refl

pub returns-in-Sym32-clause-yes : goal.returns-in-Sym32-clause-yes
unfolding row same_kind place
returns-in-Sym32-clause-yes c = λ h. rw c.in-Sym32.is refl

pub returns-in_default : goal.returns-in_default
returns-in_default c =
    let n = c.in_default in
    record { yes = λ h. absurd cc; no = λ h. other_code _ n.not-Uint n.not-SmallUint n.not-Uint0 n.not-Ulong n.not-SmallUlong n.not-Ulong0 n.not-Str8 n.not-Str32 n.not-Sym8 n.not-Sym32 }
