-- What a whole call over a sink gives.
use Rattle.std.proofs.Common.{◌≡◌, ℕ, Bool, true, false, List, Option, Some, None, Result, Ok, Err, ap, subst, ◌∙◌, inl, inr, arith}
use Rattle.std.specs.Prelude.{OnOk, IfErr}
use Rattle.std.specs.Io.KnownBytes.{Appends}
use Rattle.std.specs.declared.io.ErrorKind.{ErrorKind}
use Rattle.amqp_base.specs.Faults.{Extends, IsFault}
use Rattle.amqp_base.specs.Item.{Item}
use Rattle.amqp_base.specs.Sizes.{sizes}
use Rattle.amqp_base.specs.declared.error.Error.{Error}
use Rattle.amqp_base.specs.declared.shape.Setting.{Setting}
use Rattle.amqp_base.specs.declared.shape.Setting.TheVariants.{Plain}
use Rattle.amqp_ser.proofs.Finish.{plain_text, next_text, no_plan_next}
use Rattle.amqp_ser.specs.Law.{Wrote, Refused}
use Rattle.amqp_ser.specs.State.{State, unmarked, contents_in}
use Rattle.amqp_ser.specs.Texts.{why_unwritten}
use Rattle.serde_amqp.specs.Streams.{HasText, NotPut}

-- a serializer that has written nothing yet
pub record Begins (s : State) (given : Option (List ℕ)) (n : ℕ) : Type 0 where
  pub contents : s.contents ≡ given
  pub faults : s.faults ≡ n
  pub setting : s.setting ≡ Plain
  pub mark : s.mark ≡ unmarked
  pub plan : s.plan ≡ None
  pub answers : s.ended ≡ false

-- and its sink behind the call: in a pass nothing would be told of its bytes
pub record LeftIn (t : State) (left : Option (List ℕ)) (last : Option ErrorKind) (n : ℕ) : Type 0 where
  pub passes : Bool
  pub contents : t.contents ≡ contents_in passes left
  pub last_fault : t.last_fault ≡ last
  pub faults : t.faults ≡ n

appends_told : (a b : Option (List ℕ)) (d : Bool) (x : List ℕ) → Appends a (contents_in d b) x → Appends a b x
appends_told a b false x h = h
appends_told None b true x h = tt
appends_told (Some s) b true x h = absurd h

extends_told : (a b : Option (List ℕ)) (d : Bool) → Extends a (contents_in d b) → Extends a b
extends_told a b false h = h
extends_told None b true h = tt
extends_told (Some s) b true h = absurd h

text_put : (s : State) (f : Setting → Item) (t : State) (given left : Option (List ℕ)) (last : Option ErrorKind) (n k : ℕ) → Begins s given n → LeftIn t left last k → Wrote s (f s.setting) t → HasText (f Plain) given left
text_put s f t given left last n k b l w =
    let took = w.took b.answers in
    let told : Appends given (contents_in l.passes left) took.bytes = subst (λ z. Appends given z took.bytes) l.contents (subst (λ z. Appends z t.contents took.bytes) b.contents took.goes.appended) in
    record {
      text = took.bytes;
      canonical = plain_text s f (Some took.bytes) b.setting b.mark took.text;
      appended = appends_told given left l.passes took.bytes told;
    }

still_in_front : (s t : State) (given left : Option (List ℕ)) (last : Option ErrorKind) (n k : ℕ) → Begins s given n → LeftIn t left last k → Extends s.contents t.contents → Extends given left
still_in_front s t given left last n k b l h = extends_told given left l.passes (subst (λ z. Extends given z) l.contents (subst (λ z. Extends z t.contents) b.contents h))

not_put : (s : State) (f : Setting → Item) (t : State) (e : Error) (given left : Option (List ℕ)) (last : Option ErrorKind) (n k : ℕ) → Begins s given n → LeftIn t left last k → Refused s (f s.setting) e t → NotPut (f Plain) last n k e
not_put s f t e given left last n k b l r =
    elim (r.cause b.answers) [
      | inl m ↦ inl m
      | inr d ↦ elim d [
        | inl io ↦ inr (inl (subst (λ z. IsFault z e) l.last_fault io.0, let lt = io.1 in let p = b.faults in let q = l.faults in omega arith))
        | inr w ↦ inr (inr (record {
          none = plain_text s f None b.setting b.mark (next_text s (f s.setting) (no_plan_next s.plan (sizes (f s.setting)) b.plan) w.none);
          named = w.named b.plan ∙ ap (λ x. why_unwritten (f x)) b.setting;
        }))
      ]
    ]

-- ---- of whole answers

pub puts : {A : Type 0} (s : State) (f : Setting → Item) (t : State) (r : Result A Error) (given left : Option (List ℕ)) (last : Option ErrorKind) (n k : ℕ) → Begins s given n → LeftIn t left last k → OnOk r (Wrote s (f s.setting) t) → OnOk r (HasText (f Plain) given left)
puts s f t (Ok x) given left last n k b l w = text_put s f t given left last n k b l w
puts s f t (Err e) given left last n k b l w = tt

pub fails : {A : Type 0} (s : State) (f : Setting → Item) (t : State) (r : Result A Error) (given left : Option (List ℕ)) (last : Option ErrorKind) (n k : ℕ) → Begins s given n → LeftIn t left last k → IfErr r (λ e. Refused s (f s.setting) e t) → IfErr r (λ e. NotPut (f Plain) last n k e)
fails s f t (Ok x) given left last n k b l w = tt
fails s f t (Err e) given left last n k b l w = not_put s f t e given left last n k b l w

pub stays : {A : Type 0} (s : State) (f : Setting → Item) (t : State) (r : Result A Error) (given left : Option (List ℕ)) (last : Option ErrorKind) (n k : ℕ) → Begins s given n → LeftIn t left last k → OnOk r (Wrote s (f s.setting) t) → IfErr r (λ e. Refused s (f s.setting) e t) → Extends given left
stays s f t (Ok x) given left last n k b l w v = still_in_front s t given left last n k b l w.kept.bytes
stays s f t (Err e) given left last n k b l w v = still_in_front s t given left last n k b l v.kept.bytes
