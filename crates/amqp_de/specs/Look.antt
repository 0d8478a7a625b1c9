-- What a look at the next item shows.
use Rattle.std.specs.Prelude.{◌≡◌, ℕ, ◌<◌, Bool, IsTrue, List, [], ◌∷◌, Some, Ok, ⊤, false}
use Rattle.amqp_base.specs.declared.error.Error.{Error}
use Rattle.amqp_base.specs.declared.error.Error.TheVariants.{OutOfMemory}
use Rattle.amqp_base.specs.declared.format_code.EncodingCodes.{EncodingCodes}
use Rattle.amqp_base.specs.Codes.{Kind, row}
use Rattle.amqp_base.specs.Canon.{kind_of}
use Rattle.amqp_base.specs.Item.{Item, scalar, list, map, array, described}
use Rattle.amqp_base.specs.Wire.{Constructor, bare, under, under_pair, Wire, lenient}
use Rattle.amqp_base.specs.Refusals.{IsDevice}
use Rattle.amqp_read.specs.Reading.{Reading, Stays}
use Rattle.amqp_read.specs.Steps.{Looked, Shows, MayCome}
use Rattle.amqp_de.specs.Decoding.{Decoding, stands_under}
use Rattle.amqp_base.specs.Parse.{code_at}
use Rattle.amqp_data.specs.Steps.{Rejects}

-- the kind of an item
abbrev pub item_kind : Item → Kind
item_kind (scalar v) = kind_of v
item_kind (list is) = Kind.list
item_kind (map ps) = Kind.map
item_kind (array is) = Kind.array
item_kind (described d v) = Kind.described

-- how many bytes are looked at
abbrev pub looked_at : Constructor → ℕ
looked_at bare = 1
looked_at (under e) = 0
looked_at (under_pair d e) = 0

-- the next byte is this code's, and stays
pub record Peeks (e : EncodingCodes) (old new : Reading) : Type 0 where
  pub looked : Looked 1 old new
  pub shown : Shows new ((row e).byte ∷ [])

-- so it is for a look at an item whose code isn't inherited
abbrev pub ByteShown : Constructor → EncodingCodes → Reading → Type 0
ByteShown bare e r = Shows r ((row e).byte ∷ [])
ByteShown (under f) e r = ⊤
ByteShown (under_pair d f) e r = ⊤

-- the next byte is no code's, or there is none
pub record PeeksNot (buffers : Bool) (old new : Reading) (err : Error) : Type 0 where
  pub looked : Looked 1 old new
  pub rejects : Rejects buffers buffers (code_at bare) old new err

-- The code of the next item is this one, and nothing was consumed or begun.
pub record Looks (old new : Decoding) (e : EncodingCodes) : Type 0 where
  pub looked : Looked (looked_at (stands_under old)) old.reading new.reading
  pub not_ended : new.ended ≡ false
  pub inherited : new.inherited ≡ old.inherited
  pub described : new.described ≡ old.described
  pub begun : new.begun ≡ old.begun
  pub exact : (s : List ℕ) → old.reading.to_come ≡ Some s → (rest : List ℕ) × (code_at (stands_under old) s ≡ Ok (e, rest))
  pub shown : ByteShown (stands_under old) e new.reading
  -- it is of the kind of any item that may stand there, by what is known and received now
  pub kind : (i : Item) (text : List ℕ) → Wire lenient (stands_under old) text i → MayCome new.reading text → (row e).kind ≡ item_kind i

-- No code stands there. Nothing was consumed or begun.
pub record LooksNot (buffers : Bool) (old new : Decoding) (err : Error) : Type 0 where
  pub stays : Stays old.reading new.reading
  pub begun : new.begun ≡ old.begun
  pub device : IsDevice err → old.reading.faults < new.reading.faults
  pub memory : err ≡ OutOfMemory → IsTrue buffers
  pub rejects : old.ended ≡ false → Rejects buffers buffers (code_at (stands_under old)) old.reading new.reading err
