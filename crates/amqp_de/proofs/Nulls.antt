-- An item that may be null.
use Rattle.std.proofs.Common.{◌≡◌, Bool, false, ◌||◌, IsTrue, Some, refl, sym, ap, ◌∙◌}
use Rattle.amqp_base.specs.declared.error.Error.{Error}
use Rattle.amqp_base.specs.declared.format_code.EncodingCodes.{EncodingCodes}
use Rattle.amqp_base.specs.declared.format_code.EncodingCodes.TheVariants.{Null}
use Rattle.amqp_base.specs.Codes.{Kind, row}
use Rattle.amqp_base.specs.Item.{Item, scalar, null, list, map, array, described}
use Rattle.amqp_base.specs.Options.{takes_option, means_option}
use Rattle.amqp_base.specs.Typing.{is_of, is_null}
use Rattle.amqp_base.specs.SameKind.{same_kind, place}
use Rattle.amqp_base.specs.Wire.{Wire, lenient}
use Rattle.amqp_de.specs.Decoding.{Decoding, stands_under}
use Rattle.amqp_de.specs.Law.{Front, Found, Missed}
use Rattle.amqp_de.specs.Look.{item_kind, Looks, LooksNot}
use Rattle.amqp_data.proofs.Received.{may_taken}
use Rattle.amqp_de.proofs.LookedFirst.{same_place, found_behind, missed_of_kind, missed_unseen}
use Rattle.amqp_de.proofs.Weaker.{found_of}
use Rattle.amqp_de.proofs.ReadParts.{or_right}

pub null_code : (e : EncodingCodes) → (row e).kind ≡ Kind.null → e ≡ Null
unfolding row
null_code Null h = refl
null_code _ h = absurd cc

pub null_kind : (row Null).kind ≡ Kind.null
unfolding row
null_kind = refl

not_null : (i : Item) → (item_kind i ≡ Kind.null → ⊥) → is_null i ≡ false
not_null (scalar null) n = absurd (n refl)
not_null (scalar _) n = refl
not_null (list is) n = refl
not_null (map ps) n = refl
not_null (array is) n = refl
not_null (described d v) n = refl

is_null_kind : (i : Item) → item_kind i ≡ Kind.null → IsTrue (is_of Kind.null i)
unfolding same_kind place
is_null_kind (scalar null) h = refl
is_null_kind _ h = absurd cc

pub other_kind : (x : EncodingCodes) (i : Item) → (x ≡ Null → ⊥) → (row x).kind ≡ item_kind i → is_null i ≡ false
other_kind x i n k = not_null i (λ h. n (null_code x (k ∙ h)))

-- a value behind another code than null's isn't null
some_here : {T : Type 0} (takes : Item → Bool) (means : Item → T → Type 0) (v : T) (old mid new : Decoding) (x : EncodingCodes) → (x ≡ Null → ⊥) → Looks old mid x → Found takes (λ i. means i v) mid new
    → Found (takes_option takes) (λ i. means_option means i (Some v)) mid new
some_here takes means v old mid new x n l f = found_of takes (takes_option takes) (λ i. means i v) (λ i. means_option means i (Some v)) mid new here f
  where
    here : (o : Front takes (λ i. means i v) mid new) → IsTrue (takes_option takes o.item) × means_option means o.item (Some v)
    here o =
        let w : Wire lenient (stands_under old) o.text o.item = rw (same_place old mid x l) at (o.spelled) in
        (or_right (is_null o.item) (takes o.item) o.taken, (other_kind x o.item n (l.kind o.item o.text w (may_taken mid.reading new.reading o.text o.step)), o.value))

pub some_found : {T : Type 0} (takes : Item → Bool) (means : Item → T → Type 0) (v : T) (old mid new : Decoding) (x : EncodingCodes) → (x ≡ Null → ⊥) → Looks old mid x → Found takes (λ i. means i v) mid new
    → Found (takes_option takes) (λ i. means_option means i (Some v)) old new
some_found takes means v old mid new x n l f = found_behind (takes_option takes) (λ i. means_option means i (Some v)) old mid new x l (some_here takes means v old mid new x n l f)

pub none_missed : (takes : Item → Bool) (grows buffers : Bool) (old mid new : Decoding) (x : EncodingCodes) (e : Error) → x ≡ Null → Looks old mid x → Missed (is_of Kind.null) buffers buffers mid new e → Missed (takes_option takes) (grows || buffers) buffers old new e
none_missed takes grows buffers old mid new x e n l m = missed_of_kind (is_of Kind.null) (takes_option takes) buffers (grows || buffers) buffers old mid new x e (or_right grows buffers) (λ i k q. is_null_kind i (sym k ∙ (ap (λ (c : EncodingCodes). (row c).kind) n ∙ null_kind))) l m

pub some_missed : (takes : Item → Bool) (grows buffers : Bool) (old mid new : Decoding) (x : EncodingCodes) (e : Error) → (x ≡ Null → ⊥) → Looks old mid x → Missed takes grows buffers mid new e → Missed (takes_option takes) grows buffers old new e
some_missed takes grows buffers old mid new x e n l m = missed_of_kind takes (takes_option takes) grows grows buffers old mid new x e (λ h. h) (λ i k q. rw (other_kind x i n k) at q) l m

pub unseen_missed : (takes : Item → Bool) (grows buffers : Bool) (old new : Decoding) (e : Error) → LooksNot buffers old new e → Missed (takes_option takes) (grows || buffers) buffers old new e
unseen_missed takes grows buffers old new e n = missed_unseen (takes_option takes) (grows || buffers) buffers old new e (or_right grows buffers) n
