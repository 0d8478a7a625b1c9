-- What an array ends as, once its elements were lent to be written one after the other.
use Rattle.std.specs.Borrow.{follows, Fml, RattleType, MutBor, Array as List}
use Rattle.std.specs.Vec.{with_items}
use Rattle.std.specs.Slice.Iter.{iter_mut_name}
use Rattle.std.specs.declared.slice.IterMut.{IterMut}
use Rattle.amqp_types.specs.declared.array.Array.{Array}
use Rattle.amqp_types.specs.contracts.array.Array.{the_row}

module _ (T : RattleType) (a : MutBor (Array T.Denot)) where
  abbrev pub lends_elements : IterMut T.Denot → Fml
  lends_elements it = follows (the_row T) (List T 0) a.ghost_name (iter_mut_name it) (λ xs. record { 0 = with_items a.now.0 xs })
