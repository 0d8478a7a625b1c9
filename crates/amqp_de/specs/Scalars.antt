-- Reading a value without parts.
use Rattle.std.specs.Prelude.{◌≡◌, ℕ, Bool, List, Result, IfOk, IfErr, false}
use Rattle.amqp_base.specs.declared.error.Error.{Error}
use Rattle.amqp_base.specs.Codes.{Kind}
use Rattle.amqp_base.specs.Item.{Scalar, scalar}
use Rattle.amqp_base.specs.Refusing.{scalar_refusal}
use Rattle.amqp_base.specs.Typing.{is_of}
use Rattle.amqp_de.specs.Decoding.{Decoding, stands_under}
use Rattle.amqp_de.specs.Law.{Found, Missed, Named}
use Rattle.amqp_base.specs.Parse.{item_at, data_at}
use Rattle.amqp_de.specs.Steps.{Exact, Stops}
use Rattle.amqp_data.specs.Steps.{BytesFirst}
use Rattle.amqp_types.specs.Texts.{is_text, means_text, text_data, text_refusal}

-- The item of the kind at the front is read as its value, in any of its encodings; else the answer is the refusal that the
-- bytes call for, and ends the deserializer.
pub record ReadsScalar {V : Type 0} (kind : Kind) (shows : V → Scalar) (grows buffers : Bool) (old : Decoding) (result : Result V Error) (new : Decoding) : Type 0 where
  pub ok : IfOk result (λ v. Found (is_of kind) (λ i. i ≡ scalar (shows v)) old new)
  pub err : IfErr result (λ e. Missed (is_of kind) grows buffers old new e)
  pub named : IfErr result (λ e. Named (scalar_refusal kind) grows buffers old new e)
  pub exact : old.ended ≡ false → Exact shows grows buffers (item_at (data_at kind) (stands_under old)) old.reading result new.reading
  pub stops : Stops old result new

-- memory for its bytes is asked for only once they are there
abbrev pub MemoryLast : {V : Type 0} → Kind → Bool → Decoding → Result V Error → Type 0
MemoryLast kind buffers old result = old.ended ≡ false → IfErr result (λ e. BytesFirst buffers (item_at (data_at kind) (stands_under old)) old.reading e)

-- The string or the symbol at the front is read as its bytes, by a reader over a slice; else the answer is the refusal that
-- the bytes call for, and ends the deserializer.
pub record ReadsText {V : Type 0} (shows : V → List ℕ) (old : Decoding) (result : Result V Error) (new : Decoding) : Type 0 where
  pub ok : IfOk result (λ v. Found is_text (λ i. means_text i (shows v)) old new)
  pub err : IfErr result (λ e. Missed is_text false false old new e)
  pub named : IfErr result (λ e. Named text_refusal false false old new e)
  pub exact : old.ended ≡ false → Exact shows false false (item_at text_data (stands_under old)) old.reading result new.reading
  pub stops : Stops old result new
