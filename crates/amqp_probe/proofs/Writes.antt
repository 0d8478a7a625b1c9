-- What goes to the end of what a writer holds.
use Rattle.std.proofs.Common.{◌≡◌, ℕ, List, ◌++◌, take, drop, Option, Some, None, sym, ap, ◌∙◌, append_assoc}
use Rattle.std.proofs.lemmas.List.{take-append-drop}
use Rattle.std.specs.Io.KnownBytes.{Appends}
use Rattle.amqp_base.specs.Faults.{Extends}
use Rattle.amqp_probe.specs.Transcript.{Writing}

pub extends_more : (a b c : Option (List ℕ)) → Extends a b → Extends b c → Extends a c
extends_more None b c h k = tt
extends_more (Some xs) None c h k = absurd h
extends_more (Some xs) (Some ys) None h k = absurd k
extends_more (Some xs) (Some ys) (Some zs) h k = (h.0 ++ k.0, k.1 ∙ ap (λ (l : List ℕ). l ++ k.0) h.1 ∙ append_assoc xs h.0 k.0)

pub extends_appends : (a b : Option (List ℕ)) (bs : List ℕ) → Appends a b bs → Extends a b
extends_appends None b bs h = tt
extends_appends (Some xs) None bs h = absurd h
extends_appends (Some xs) (Some ys) bs h = (bs, h)

pub appends_more : (a b c : Option (List ℕ)) (xs ys : List ℕ) → Appends a b xs → Appends b c ys → Appends a c (xs ++ ys)
appends_more None b c xs ys h k = tt
appends_more (Some old) None c xs ys h k = absurd h
appends_more (Some old) (Some mid) None xs ys h k = absurd k
appends_more (Some old) (Some mid) (Some new) xs ys h k = k ∙ ap (λ (l : List ℕ). l ++ ys) h ∙ append_assoc old xs ys

pub writes_on : (bytes rest : List ℕ) (a b c : Option (List ℕ)) (f g h n : ℕ) → Writing bytes rest a b f g → Appends b c (take n rest) → h ≡ g
    → Writing bytes (drop n rest) a c f h
writes_on bytes rest a b c f g h n w more same = record {
  front = w.front ++ take n rest;
  split = w.split ∙ ap (λ (l : List ℕ). w.front ++ l) (sym (take-append-drop n rest)) ∙ sym (append_assoc w.front (take n rest) (drop n rest));
  appended = appends_more a b c w.front (take n rest) w.appended more;
  same = same ∙ w.same;
}
