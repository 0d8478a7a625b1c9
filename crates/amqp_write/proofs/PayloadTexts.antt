-- Items without parts whose text is a payload behind its length.
use Rattle.std.proofs.Common.{◌≡◌, ℕ, List, [], length, true, refl, ap, Some, Result, IfErr}
use Rattle.std.specs.Str.{is_utf8}
use Rattle.amqp_base.specs.declared.format_code.EncodingCodes.{EncodingCodes}
use Rattle.amqp_base.specs.declared.format_code.EncodingCodes.TheVariants.{Vbin32, Sym32}
use Rattle.amqp_base.specs.declared.error.Error.{Error}
use Rattle.amqp_base.specs.declared.shape.Setting.{Setting}
use Rattle.amqp_base.specs.Typing.{text_item}
use Rattle.amqp_base.specs.Codes.{row, widest}
use Rattle.amqp_base.specs.Wire.{under}
use Rattle.amqp_base.specs.Item.{Scalar, scalar, binary, symbol}
use Rattle.amqp_base.specs.Canon.{canon, body, kind_code, scalar_body, scalar_text, short_text}
use Rattle.amqp_write.specs.State.{State, Mark, unmarked, first, other}
use Rattle.amqp_write.specs.Texts.{text_codes, payload_length, unwritten}
use Rattle.amqp_write.specs.Law.{marked, found_after, Refused}
use Rattle.amqp_write.specs.Appending.{PaysItem, PaysUnder, payload_at}
use Rattle.amqp_write.proofs.Steps.{refused_pays}
use Rattle.amqp_write.proofs.TextOf.{pays_text, symbol_at, text_at, text_code, text_sizes, text_why}

-- v is written as the payload b
pub record Carries (m : Mark) (v : Scalar) (narrow : ℕ) (e : EncodingCodes) (b : List ℕ) : Type 0 where
  pub text : marked m (scalar v) ≡ payload_at m narrow e b
  pub code : kind_code (scalar v) ≡ Some (under e)
  pub payload : payload_length v ≡ length b

-- from a payload to the item
pub pays_payload : {A : Type 0} (s : State) (v : Scalar) (narrow : ℕ) (e : EncodingCodes) (b : List ℕ) (why : Error) (r : Result A Error) (t : State) → Carries s.mark v narrow e b → PaysUnder s e (payload_at s.mark narrow e b) why r t → PaysItem s (scalar v) why r t
pays_payload s v narrow e b why r t h p = pays_text s _ _ _ _ [] why r t h.text (ap (λ k. found_after s.mark k s.found) h.code) p

binary_at : (m : Mark) (b : List ℕ) → marked m (scalar (binary b)) ≡ payload_at m 0xa0 Vbin32 b
unfolding marked payload_at canon scalar_text short_text scalar_body body kind_code widest row
binary_at unmarked b = refl
binary_at first b = refl
binary_at (other d) b = refl

pub carries_binary : (m : Mark) (b : List ℕ) → Carries m (binary b) 0xa0 Vbin32 b
unfolding kind_code widest
carries_binary m b = record { text = binary_at m b; code = refl; payload = refl }

pub carries_symbol : (m : Mark) (b : List ℕ) → is_utf8 b ≡ true → Carries m (symbol b) 0xa3 Sym32 b
unfolding kind_code widest
carries_symbol m b u = record { text = symbol_at m b u; code = refl; payload = refl }

-- texts, under a setting
pub pays_string : {A : Type 0} (s : State) (b : List ℕ) (setting : Setting) (why : Error) (r : Result A Error) (t : State) → is_utf8 b ≡ true → PaysUnder s (text_codes setting).1 (payload_at s.mark (text_codes setting).0 (text_codes setting).1 b) why r t → PaysItem s (text_item b setting) why r t
pays_string s b setting why r t u p = pays_text s _ _ _ _ [] why r t (text_at s.mark b setting u) (ap (λ k. found_after s.mark k s.found) (text_code b setting)) p

pub refused_text : {A : Type 0} (s : State) (b : List ℕ) (setting : Setting) (r : Result A Error) (t : State) → PaysItem s (text_item b setting) (unwritten (length b)) r t → IfErr r (λ e. Refused s (text_item b setting) e t)
refused_text s b setting r t p = refused_pays s (text_item b setting) _ _ [] (unwritten (length b)) r t refl refl (text_sizes b setting) (text_why b setting) p
