-- An item is read as one value at most.
use Rattle.std.specs.Prelude.{◌≡◌, ℕ, ℤ, pos, Bool, false, List, [], ◌∷◌}
use Rattle.std.proofs.Common.{sym, ap, ◌∙◌}
use Rattle.amqp_base.specs.Item.{boolean, ubyte, ushort, uint, ulong, byte, short, int, long, float, double, char, timestamp, decimal32, decimal64, decimal128, uuid, binary, string, symbol, Scalar, Item, scalar, list, map, array, described, Items, none, more}
use Rattle.amqp_base.specs.Typing.{OneValue, all_mean, all_same, means_seq, means_array}

-- the truth value of a boolean
abbrev pub truth_in : Item → Bool
truth_in (scalar (boolean b)) = b
truth_in i = false

-- the number of an unsigned kind, the bits of a float or a double, the code point of a character
abbrev pub natural_in : Item → ℕ
natural_in (scalar (ubyte n)) = n
natural_in (scalar (ushort n)) = n
natural_in (scalar (uint n)) = n
natural_in (scalar (ulong n)) = n
natural_in (scalar (float n)) = n
natural_in (scalar (double n)) = n
natural_in (scalar (char n)) = n
natural_in i = 0

-- the number of a signed kind, the milliseconds of a timestamp
abbrev pub integer_in : Item → ℤ
integer_in (scalar (byte z)) = z
integer_in (scalar (short z)) = z
integer_in (scalar (int z)) = z
integer_in (scalar (long z)) = z
integer_in (scalar (timestamp z)) = z
integer_in i = pos 0

-- the bytes of a decimal, a uuid or a payload
abbrev pub bytes_in : Item → List ℕ
bytes_in (scalar (decimal32 b)) = b
bytes_in (scalar (decimal64 b)) = b
bytes_in (scalar (decimal128 b)) = b
bytes_in (scalar (uuid b)) = b
bytes_in (scalar (binary b)) = b
bytes_in (scalar (string b)) = b
bytes_in (scalar (symbol b)) = b
bytes_in i = []

-- an item of a kind means one content
pub one_of : {A : Type 0} (kind : A → Scalar) (inside : Item → A) → ((a : A) → inside (scalar (kind a)) ≡ a) → (i : Item) (a b : A) → i ≡ scalar (kind a) → i ≡ scalar (kind b) → a ≡ b
one_of kind inside back i a b p q = sym (back a) ∙ (ap inside (sym p ∙ q) ∙ back b)

-- parts that mean one value each mean one list of values
one_all : {T : Type 0} (means : Item → T → Type 0) (same : T → T → Type 0) → OneValue means same
    → (is : Items) (vs ws : List T) → all_mean means is vs → all_mean means is ws → all_same same vs ws
one_all means same one none [] [] p q = tt
one_all means same one none [] (w ∷ ws) p q = absurd q
one_all means same one none (v ∷ vs) ws p q = absurd p
one_all means same one (more i is) [] ws p q = absurd p
one_all means same one (more i is) (v ∷ vs) [] p q = absurd q
one_all means same one (more i is) (v ∷ vs) (w ∷ ws) p q = (one i v w p.0 q.0, one_all means same one is vs ws p.1 q.1)

-- so a list or an array means one list of values
pub one_seq : {T : Type 0} (means : Item → T → Type 0) (same : T → T → Type 0) → OneValue means same
    → (i : Item) (vs ws : List T) → means_seq means i vs → means_seq means i ws → all_same same vs ws
one_seq means same one (list is) vs ws p q = one_all means same one is vs ws p q
one_seq means same one (array is) vs ws p q = one_all means same one is vs ws p q
one_seq means same one (scalar v) vs ws p q = absurd p
one_seq means same one (map ps) vs ws p q = absurd p
one_seq means same one (described d v) vs ws p q = absurd p

-- and so it does where any other item is the only element
pub one_array : {T : Type 0} (means : Item → T → Type 0) (same : T → T → Type 0) → OneValue means same
    → (i : Item) (vs ws : List T) → means_array means i vs → means_array means i ws → all_same same vs ws
one_array means same one (array is) vs ws p q = one_all means same one is vs ws p q
one_array means same one (list is) vs ws p q = one_all means same one (more (list is) none) vs ws p q
one_array means same one (scalar v) vs ws p q = one_all means same one (more (scalar v) none) vs ws p q
one_array means same one (map ps) vs ws p q = one_all means same one (more (map ps) none) vs ws p q
one_array means same one (described d v) vs ws p q = one_all means same one (more (described d v) none) vs ws p q
