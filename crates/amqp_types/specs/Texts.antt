-- A text that is read from a string or a symbol.
use Rattle.std.specs.Prelude.{◌≡◌, ℕ, Bool, ◌||◌, IsTrue, List, true, false, if◌then◌else◌, Ok, Err}
use Rattle.std.proofs.Common.{refl, sym, ◌∙◌}
use Rattle.amqp_base.specs.declared.format_code.EncodingCodes.{EncodingCodes}
use Rattle.amqp_base.specs.Codes.{Kind, row}
use Rattle.amqp_base.specs.SameKind.{same_kind}
use Rattle.amqp_base.specs.Item.{Scalar, Item, scalar, list, map, array, described, string, symbol}
use Rattle.amqp_base.specs.Meaning.{Meaning}
use Rattle.amqp_base.specs.OneValue.{bytes_in}
use Rattle.amqp_base.specs.Parse.{Parsed, ◌>>=◌, data_at, item_at}
use Rattle.amqp_base.specs.ReadBack.{of_own_kind, second}
use Rattle.amqp_base.specs.Refusing.{Refusing}
use Rattle.amqp_base.specs.Typing.{is_of}

-- a string or a symbol (1.6.20, 1.6.21)
abbrev pub is_text : Item → Bool
is_text i = is_of Kind.string i || is_of Kind.symbol i

-- one of these bytes
abbrev pub means_text : Item → List ℕ → Type 0
means_text (scalar (string b)) text = b ≡ text
means_text (scalar (symbol b)) text = b ≡ text
means_text i text = ⊥

-- and of no others
pub one_text : (i : Item) (a b : List ℕ) → means_text i a → means_text i b → a ≡ b
one_text (scalar (string x)) a b p q = sym p ∙ q
one_text (scalar (symbol x)) a b p q = sym p ∙ q
one_text (scalar v) a b p q = absurd p
one_text (list is) a b p q = absurd p
one_text (map ps) a b p q = absurd p
one_text (array is) a b p q = absurd p
one_text (described d v) a b p q = absurd p

-- a symbol is taken
pub symbol_taken : (b : List ℕ) → IsTrue (is_text (scalar (symbol b)))
symbol_taken b = second (is_of Kind.string (scalar (symbol b))) (is_of Kind.symbol (scalar (symbol b))) (of_own_kind (symbol b))

-- under a symbol's code a symbol stands, else a string
abbrev pub text_kind : EncodingCodes → Kind
text_kind e = if same_kind (row e).kind Kind.symbol then Kind.symbol else Kind.string

abbrev pub its_bytes : Scalar × List ℕ → Parsed (List ℕ)
its_bytes v = Ok (bytes_in (scalar v.0), v.1)

-- the bytes of the string or the symbol whose data stand there
unfoldable pub text_data : EncodingCodes → List ℕ → Parsed (List ℕ)
text_data e s = data_at (text_kind e) e s >>= its_bytes

-- by the first rule that the bytes break
unfoldable pub text_refusal : Refusing
text_refusal c s e = item_at text_data c s ≡ Err e

-- a text that is written as a symbol, and read from both
abbrev pub a_symbol_ref : {T : Type 0} → (T → List ℕ) → Meaning T
a_symbol_ref content = record {
  item = λ v _. scalar (symbol (content v));
  takes = is_text;
  means = λ i v. means_text i (content v);
  same = λ v w. content v ≡ content w;
  refuses = text_refusal;
  grows = false;
  in_described_list = λ _. refl;
  in_described_basic = λ _. refl;
  one_value = λ i v w. one_text i (content v) (content w);
  sound = λ _. Unit {0};
  always_sound = true;
  is_sound = λ _ _. tt;
  reads_back = true;
  taken_back = λ _ v _. symbol_taken (content v);
  read_back = λ _ _ _. refl;
  never_null = true;
  not_null = λ _ _. refl;
}
