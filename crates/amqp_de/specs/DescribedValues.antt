-- A value under a descriptor: 0x00, the descriptor, and the value by itself (1.2).
use Rattle.std.specs.Prelude.{Bool, true, IsTrue}
use Rattle.std.proofs.Common.{refl, sym, subst}
use Rattle.amqp_base.specs.declared.error.Error.{Error}
use Rattle.amqp_base.specs.declared.shape.Setting.TheVariants.{DescribedBasic}
use Rattle.amqp_base.specs.Describing.{Descriptors, is_behind, means_behind, one_behind, behind_refusal}
use Rattle.amqp_base.specs.Item.{Descriptor, described}
use Rattle.amqp_base.specs.Meaning.{Meaning}
use Rattle.amqp_base.specs.ReadBack.{both}
use Rattle.amqp_de.specs.Decoding.{Decoding}
use Rattle.amqp_de.specs.Law.{Found, Missed, Named}

-- the item at the front was read as this value behind one of these descriptors
abbrev pub ValueBehind : {T : Type 0} → (Descriptor → Bool) → Meaning T → T → Decoding → Decoding → Type 0
ValueBehind among m v old new = Found (is_behind among m.takes) (λ i. means_behind (λ j. m.means j v) i) old new

-- it was refused; and by the name that the bytes call for
abbrev pub ValueBehindRefused : {T : Type 0} → (Descriptor → Bool) → Meaning T → Bool → Decoding → Decoding → Error → Type 0
ValueBehindRefused among m buffers old new e = Missed (is_behind among m.takes) true buffers old new e

abbrev pub ValueBehindNamed : {T : Type 0} → (Descriptor → Bool) → Meaning T → Bool → Decoding → Decoding → Error → Type 0
ValueBehindNamed among m buffers old new e = Named (behind_refusal among m.refuses) true buffers old new e

-- a type that holds a value of another, behind its descriptor
abbrev pub described_value_of : {V T : Type 0} → Descriptors → Meaning T → (V → T) → Meaning V
described_value_of ds m get = record {
  item = λ v _. described ds.written (m.item (get v) DescribedBasic);
  takes = is_behind ds.among m.takes;
  means = λ i v. means_behind (λ j. m.means j (get v)) i;
  same = λ v w. m.same (get v) (get w);
  refuses = behind_refusal ds.among m.refuses;
  grows = true;
  in_described_list = λ _. refl;
  in_described_basic = λ _. refl;
  one_value = λ i v w. one_behind m.means m.same m.one_value i (get v) (get w);
  sound = λ v. m.sound (get v);
  always_sound = m.always_sound;
  is_sound = λ a v. m.is_sound a (get v);
  reads_back = m.reads_back;
  taken_back = λ r v s. both (ds.among ds.written) (m.takes (m.item (get v) DescribedBasic)) ds.own (subst (λ i. IsTrue (m.takes i)) (sym (m.in_described_basic (get v))) (m.taken_back r (get v) s));
  read_back = λ r v s. subst (λ i. m.means i (get v)) (sym (m.in_described_basic (get v))) (m.read_back r (get v) s);
  never_null = true;
  not_null = λ _ _. refl;
}
