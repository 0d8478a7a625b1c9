use Rattle.std.proofs.Common.{sym, refl}
use Rattle.std.specs.Prelude.{string_eq}
use Rattle.amqp_probe.proofs.Recoding.{decoded_ok, list_kept, array_kept, option_kept, pair_kept, map_kept}
use Rattle.amqp_probe.specs.Codec.{as_list, as_array}
use Rattle.amqp_probe.specs.declared.kind.Kind.TheVariants.{Bool, I32, U32, U64, String, Symbol, ListI32, ListU64, ListUnit, ListListI32, ListArrayI32, ArrayI32, ArrayString, OptionU32, TupleU32Bool, MapStringU32}
use Rattle.amqp_probe.proofs.codec.decoded.Goals as goal

pub returns-in-Bool-clause-ok : goal.returns-in-Bool-clause-ok
returns-in-Bool-clause-ok c = rw c.in-Bool.is (decoded_ok Bool _ _ c.args.bytes.now c.recoded.result (λ i v m. sym m) c.recoded.ensures.ok)

pub returns-in-I32-clause-ok : goal.returns-in-I32-clause-ok
returns-in-I32-clause-ok c = rw c.in-I32.is (decoded_ok I32 _ _ c.args.bytes.now c.recoded-in-I32.result (λ i v m. sym m) c.recoded-in-I32.ensures.ok)

pub returns-in-U32-clause-ok : goal.returns-in-U32-clause-ok
returns-in-U32-clause-ok c = rw c.in-U32.is (decoded_ok U32 _ _ c.args.bytes.now c.recoded-in-U32.result (λ i v m. sym m) c.recoded-in-U32.ensures.ok)

pub returns-in-U64-clause-ok : goal.returns-in-U64-clause-ok
returns-in-U64-clause-ok c = rw c.in-U64.is (decoded_ok U64 _ _ c.args.bytes.now c.recoded-in-U64.result (λ i v m. sym m) c.recoded-in-U64.ensures.ok)

pub returns-in-String-clause-ok : goal.returns-in-String-clause-ok
returns-in-String-clause-ok c = rw c.in-String.is (decoded_ok String _ _ c.args.bytes.now c.recoded-in-String.result (λ i v m. sym m) c.recoded-in-String.ensures.ok)

pub returns-in-Symbol-clause-ok : goal.returns-in-Symbol-clause-ok
returns-in-Symbol-clause-ok c = rw c.in-Symbol.is (decoded_ok Symbol _ _ c.args.bytes.now c.recoded-in-Symbol.result (λ i v m. sym m) c.recoded-in-Symbol.ensures.ok)

pub returns-in-ListI32-clause-ok : goal.returns-in-ListI32-clause-ok
returns-in-ListI32-clause-ok c = rw c.in-ListI32.is (decoded_ok ListI32 _ _ c.args.bytes.now c.recoded-in-ListI32.result (λ i v m. list_kept (λ i. i) (λ i v m. sym m) i v.items m) c.recoded-in-ListI32.ensures.ok)

pub returns-in-ListU64-clause-ok : goal.returns-in-ListU64-clause-ok
returns-in-ListU64-clause-ok c = rw c.in-ListU64.is (decoded_ok ListU64 _ _ c.args.bytes.now c.recoded-in-ListU64.result (λ i v m. list_kept (λ i. i) (λ i v m. sym m) i v.items m) c.recoded-in-ListU64.ensures.ok)

pub returns-in-ListUnit-clause-ok : goal.returns-in-ListUnit-clause-ok
returns-in-ListUnit-clause-ok c = rw c.in-ListUnit.is (decoded_ok ListUnit _ _ c.args.bytes.now c.recoded-in-ListUnit.result (λ i v m. list_kept (λ i. i) (λ i v m. sym m) i v.items m) c.recoded-in-ListUnit.ensures.ok)

pub returns-in-ListListI32-clause-ok : goal.returns-in-ListListI32-clause-ok
returns-in-ListListI32-clause-ok c = rw c.in-ListListI32.is (decoded_ok ListListI32 _ _ c.args.bytes.now c.recoded-in-ListListI32.result (λ i v m. list_kept (as_list (λ i. i)) (λ j w n. list_kept (λ i. i) (λ i v m. sym m) j w.items n) i v.items m) c.recoded-in-ListListI32.ensures.ok)

pub returns-in-ListArrayI32-clause-ok : goal.returns-in-ListArrayI32-clause-ok
returns-in-ListArrayI32-clause-ok c = rw c.in-ListArrayI32.is (decoded_ok ListArrayI32 _ _ c.args.bytes.now c.recoded-in-ListArrayI32.result (λ i v m. list_kept (as_array (λ i. i)) (λ j w n. array_kept (λ i. i) (λ i v m. sym m) j w.0.items n) i v.items m) c.recoded-in-ListArrayI32.ensures.ok)

pub returns-in-ArrayI32-clause-ok : goal.returns-in-ArrayI32-clause-ok
returns-in-ArrayI32-clause-ok c = rw c.in-ArrayI32.is (decoded_ok ArrayI32 _ _ c.args.bytes.now c.recoded-in-ArrayI32.result (λ i v m. array_kept (λ i. i) (λ i v m. sym m) i v.0.items m) c.recoded-in-ArrayI32.ensures.ok)

pub returns-in-ArrayString-clause-ok : goal.returns-in-ArrayString-clause-ok
returns-in-ArrayString-clause-ok c = rw c.in-ArrayString.is (decoded_ok ArrayString _ _ c.args.bytes.now c.recoded-in-ArrayString.result (λ i v m. array_kept (λ i. i) (λ i v m. sym m) i v.0.items m) c.recoded-in-ArrayString.ensures.ok)

pub returns-in-OptionU32-clause-ok : goal.returns-in-OptionU32-clause-ok
returns-in-OptionU32-clause-ok c = rw c.in-OptionU32.is (decoded_ok OptionU32 _ _ c.args.bytes.now c.recoded-in-OptionU32.result (λ i v m. option_kept _ (λ j w n. sym n) i v m) c.recoded-in-OptionU32.ensures.ok)

pub returns-in-TupleU32Bool-clause-ok : goal.returns-in-TupleU32Bool-clause-ok
returns-in-TupleU32Bool-clause-ok c = rw c.in-TupleU32Bool.is (decoded_ok TupleU32Bool _ _ c.args.bytes.now c.recoded-in-TupleU32Bool.result (λ i v m. pair_kept (λ j n. sym n) (λ j n. sym n) i m) c.recoded-in-TupleU32Bool.ensures.ok)

pub returns-in-MapStringU32-clause-ok : goal.returns-in-MapStringU32-clause-ok
returns-in-MapStringU32-clause-ok c = rw c.in-MapStringU32.is (decoded_ok MapStringU32 _ _ c.args.bytes.now c.recoded-in-MapStringU32.result (λ i v m. map_kept string_eq (λ a b. refl) i v m) c.recoded-in-MapStringU32.ensures.ok)
