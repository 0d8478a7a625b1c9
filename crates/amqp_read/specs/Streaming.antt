-- What a reader over a source holds, and what asking the source does.
use Rattle.std.specs.Prelude.{◌≡◌, ℕ, ◌+◌, ◌*◌, ◌<◌, ◌≤◌, ◌^◌, max, Bool, List, [], length, Option}
use Rattle.std.specs.Borrow.{GName}
use Rattle.std.specs.Io.KnownBytes.{prepend_known}
use Rattle.std.specs.declared.io.ErrorKind.{ErrorKind}
use Rattle.amqp_read.specs.Reading.{Reading}
use Rattle.amqp_read.specs.Steps.{Looked}

-- few bytes in place, and for how many more there is room behind them
pub record InPlace : Type 0 where
  pub bytes : List ℕ
  pub room : ℕ

pub record Buffered : Type 0 where
  -- the received bytes that were not consumed
  pub unread : List ℕ
  -- how many of them stand in place, without memory: all or none
  pub in_place : ℕ
  -- how many bytes more find room there
  pub room_in_place : ℕ
  -- how many bytes are held, consumed ones in front of them with them
  pub length : ℕ
  -- the index of the first unread byte
  pub start : ℕ
  -- how many bytes more find room
  pub room : ℕ
  -- how many bytes were moved inside the vector so far
  pub moved : ℕ
  -- how many were unread at once, at most, so far
  pub most : ℕ

-- few bytes are moved and few are held, where so many were consumed
pub record IsLean (taken : ℕ) (b : Buffered) : Type 0 where
  pub moved : b.moved + b.start ≤ taken
  pub length : b.length ≤ 2 * b.most

-- the unread bytes are moved to the front exactly where they begin in the second half, and each is counted
pub record Fronted (old new : Buffered) : Type 0 where
  pub unread : new.unread ≡ old.unread
  pub moved : old.length ≤ 2 * old.start → (new.start ≡ 0) × (new.moved ≡ old.moved + length old.unread)
  pub stays : 2 * old.start < old.length → (new.start ≡ old.start) × (new.moved ≡ old.moved)
  pub most : new.most ≡ old.most

pub record Streaming : Type 0 where
  -- what every reader is
  pub reading : Reading
  pub buffer : Buffered

-- what is to come, where this was received and that is left in the source
abbrev pub reads : List ℕ → Option (List ℕ) → ℕ → ℕ → Option ErrorKind → Bool → List GName → Reading
reads received left taken faults last honest origin = record {
  to_come = prepend_known received left;
  taken = taken;
  received = received;
  faults = faults;
  last_fault = last;
  honest = honest;
  origin = origin;
}

-- the next n bytes were received, and stand in the buffer's vector
abbrev pub InVector : ℕ → Streaming → Type 0
InVector n r = n + r.buffer.in_place ≤ length r.reading.received

-- no received byte stands there
abbrev pub NoneInVector : Streaming → Type 0
NoneInVector r = length r.reading.received ≤ r.buffer.in_place

-- the most bytes that were unread at once are those of before, or those that are unread now
abbrev pub SawMore : Streaming → Streaming → Type 0
SawMore old new = new.buffer.most ≡ max old.buffer.most (length new.reading.received)

-- the reader, where these bytes stand in front of what is to come, and no others were received
abbrev pub with_received : List ℕ → Reading → Reading
with_received bytes r = record r { to_come = prepend_known bytes r.to_come; received = bytes }

-- the next bytes were received, and stand apart from the buffer, which holds none
pub record IsApart (bytes : List ℕ) (old new : Reading) : Type 0 where
  pub looked : Looked (length bytes) old (with_received bytes new)
  pub none : new.received ≡ []
  pub counted : new.taken + length bytes < 2 ^ 64
