-- Values whose items aren't null.
use Rattle.std.specs.Prelude.{◌≡◌, ◌⊎◌, ℕ, Bool, false, not, ◌&&◌, List, Ok, Err}
use Rattle.amqp_base.specs.declared.error.Error.{Error}
use Rattle.amqp_base.specs.declared.error.Error.TheVariants.{InvalidFormatCode}
use Rattle.amqp_base.specs.declared.format_code.EncodingCodes.TheVariants.{Null}
use Rattle.amqp_base.specs.Item.{Item}
use Rattle.amqp_base.specs.Meaning.{Meaning, from_false}
use Rattle.amqp_base.specs.Parse.{code_at}
use Rattle.amqp_base.specs.Refusing.{Refusing}
use Rattle.amqp_base.specs.Typing.{is_null}
use Rattle.amqp_base.specs.Wire.{Constructor}

abbrev pub not_null : (Item → Bool) → Item → Bool
not_null takes i = not (is_null i) && takes i

-- null stands there
pub record NullThere (c : Constructor) (s : List ℕ) (e : Error) : Type 0 where
  pub rest : List ℕ
  pub code : code_at c s ≡ Ok (Null, rest)
  pub named : e ≡ InvalidFormatCode

-- by the code, or as the type refuses it
unfoldable pub not_null_refusal : Refusing → Refusing
not_null_refusal refuses c s e = (code_at c s ≡ Err e) ⊎ (NullThere c s e ⊎ refuses c s e)

-- the same values, of items that aren't null
abbrev pub not_null_of : {V T : Type 0} → Meaning T → (V → T) → Meaning V
not_null_of m get = record {
  item = λ v. m.item (get v);
  takes = not_null m.takes;
  means = λ i v. m.means i (get v);
  same = λ v w. m.same (get v) (get w);
  refuses = not_null_refusal m.refuses;
  grows = m.grows;
  in_described_list = λ v. m.in_described_list (get v);
  in_described_basic = λ v. m.in_described_basic (get v);
  one_value = λ i v w. m.one_value i (get v) (get w);
  sound = λ v. m.sound (get v);
  always_sound = m.always_sound;
  is_sound = λ a v. m.is_sound a (get v);
  reads_back = false;
  taken_back = λ r v s. from_false r;
  read_back = λ r v s. from_false r;
  never_null = m.never_null;
  not_null = λ h v. m.not_null h (get v);
}
