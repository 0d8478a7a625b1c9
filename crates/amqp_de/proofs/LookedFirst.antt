-- Calls behind a look at the same item.
use Rattle.std.proofs.Common.{◌≡◌, ℕ, ◌≤◌, Bool, true, IsTrue, List, ◌++◌, length, Option, Some, None, refl, sym, ap, ◌∙◌, arith}
use Rattle.std.specs.Io.KnownBytes.{Keeps, Consumes}
use Rattle.amqp_base.specs.declared.error.Error.{Error}
use Rattle.amqp_base.specs.declared.format_code.EncodingCodes.{EncodingCodes}
use Rattle.amqp_base.specs.Codes.{Kind, row}
use Rattle.amqp_base.specs.Item.{Item}
use Rattle.amqp_base.specs.Typing.{is_of}
use Rattle.amqp_base.specs.Refusals.{IsCustom}
use Rattle.amqp_base.specs.Wire.{Wire, lenient}
use Rattle.amqp_read.specs.Reading.{Reading, Takes, Stays}
use Rattle.amqp_read.specs.Steps.{Looked}
use Rattle.amqp_de.specs.Decoding.{Decoding, stands_under}
use Rattle.amqp_de.specs.Law.{Found, Missed, Spent, refused_free}
use Rattle.amqp_data.specs.Excuses.{Excused, Overfull, no_memory, faulted, uncounted}
use Rattle.amqp_de.specs.Look.{item_kind, looked_at, Looks, LooksNot}
use Rattle.amqp_data.proofs.Received.{agree_front, left_behind, keeps_known, may_known}
use Rattle.amqp_data.proofs.Readings.{advances_then, steady_then, stayed, excused_more}
use Rattle.amqp_de.proofs.Answered.{of_kind_is, not_refused}
use Rattle.amqp_de.proofs.Looking.{own_byte, code_stands}
use Rattle.amqp_data.proofs.FixedWidth.{custom_device}

pub keeps_overfull : (n : ℕ) (k l : Option (List ℕ)) → Keeps k l → Overfull n l → Overfull n k
keeps_overfull n None l h o = tt
keeps_overfull n (Some t) None h o = absurd h
keeps_overfull n (Some t) (Some u) h o = rw h at o

keeps_consumes : (k l m : Option (List ℕ)) (x : List ℕ) → Keeps k l → Consumes l m x → Consumes k m x
keeps_consumes None l m x h c = tt
keeps_consumes (Some t) None m x h c = absurd h
keeps_consumes (Some t) (Some u) None x h c = absurd c
keeps_consumes (Some t) (Some u) (Some v) x h c = sym h ∙ c

pub excused_kept : {grows buffers : Bool} (old mid new : Reading) (e : Error) → Stays old mid → Excused grows buffers mid new e → Excused grows buffers old new e
excused_kept old mid new e s (no_memory p q) = no_memory p q
excused_kept old mid new e s (faulted i p q) = faulted i (let f = s.steady.faults in omega (arith, f, p)) q
excused_kept old mid new e s (uncounted p q o) = uncounted p q (keeps_overfull old.taken old.to_come mid.to_come s.to_come (rw s.taken at o))

-- the next item stands under the same
pub same_place : (old mid : Decoding) (x : EncodingCodes) → Looks old mid x → stands_under mid ≡ stands_under old
same_place old mid x l = rw (l.inherited, l.described) refl

pub takes_behind : (n : ℕ) (old mid new : Reading) (x : List ℕ) → Looked n old mid → n ≤ length x → Takes mid new x → Takes old new x
takes_behind n old mid new x l h t = record {
  to_come = keeps_consumes old.to_come mid.to_come new.to_come x l.stays.to_come t.to_come;
  taken = omega (arith, t.taken, l.stays.taken);
  received = t.received ∙ left_behind n (length x) old.received mid.received l.stays.received l.received h;
  agrees = agree_front old.received mid.received x l.stays.received t.agrees;
  steady = steady_then old mid new l.stays.steady t.steady;
}

spent_behind : (old mid new : Decoding) (x : EncodingCodes) (n : ℕ) → Looks old mid x → Spent n mid new → Spent n old new
spent_behind old mid new x n l s = record { most = omega (arith, s.most, l.begun, l.looked.stays.taken) }

pub found_behind : (takes : Item → Bool) (means : Item → Type 0) (old mid new : Decoding) (x : EncodingCodes) → Looks old mid x → Found takes means mid new → Found takes means old new
found_behind takes means old mid new x l f = record {
  front = λ a.
      let o = f.front l.not_ended in
      let same = same_place old mid x l in
      let w : Wire lenient (stands_under old) o.text o.item = rw same at (o.spelled) in
      record {
        item = o.item;
        text = o.text;
        spelled = w;
        taken = o.taken;
        value = o.value;
        step = takes_behind (looked_at (stands_under old)) old.reading mid.reading new.reading o.text l.looked (own_byte (stands_under old) o.text o.item w) o.step;
        not_ended = o.not_ended;
        inherited = o.inherited ∙ l.inherited;
        described = o.described;
        begun = rw (← same, ← l.begun) o.begun;
      };
  spent = λ a. let same = same_place old mid x l in let s = f.spent l.not_ended in spent_behind old mid new x _ l (rw same at s);
  steady = advances_then old.reading mid.reading new.reading (stayed l.looked.stays) f.steady;
}

pub missed_of_kind : (takes some : Item → Bool) (more grows buffers : Bool) (old mid new : Decoding) (x : EncodingCodes) (e : Error) → (IsTrue more → IsTrue grows) → ((i : Item) → (row x).kind ≡ item_kind i → IsTrue (some i) → IsTrue (takes i)) → Looks old mid x → Missed takes more buffers mid new e
    → Missed some grows buffers old new e
missed_of_kind takes some more grows buffers old mid new x e g h l m = record {
  why = λ a i t rest w q at f.
      let same = same_place old mid x l in
      let v : Wire lenient (stands_under mid) t i = rw same w in
      let known = keeps_known old.reading.to_come mid.reading.to_come (t ++ rest) l.looked.stays.to_come at in
      excused_kept old.reading mid.reading new.reading e l.looked.stays (excused_more mid.reading new.reading e g (m.why l.not_ended i t rest v (h i (l.kind i t w (may_known mid.reading t rest known)) q) known (l.looked.stays.steady.honest ∙ f)));
  spent = λ a. let same = same_place old mid x l in let s = m.spent l.not_ended in spent_behind old mid new x _ l (rw same at s);
  steady = advances_then old.reading mid.reading new.reading (stayed l.looked.stays) m.steady;
  device = λ d. let f = l.looked.stays.steady.faults in let n = m.device d in omega (arith, f, n);
  memory = λ n. g (m.memory n);
}

pub missed_behind : (takes some : Item → Bool) (more grows buffers : Bool) (old mid new : Decoding) (x : EncodingCodes) (e : Error) → (IsTrue more → IsTrue grows) → ((i : Item) → IsTrue (some i) → IsTrue (takes i)) → Looks old mid x → Missed takes more buffers mid new e
    → Missed some grows buffers old new e
missed_behind takes some more grows buffers old mid new x e g h l m = missed_of_kind takes some more grows buffers old mid new x e g (λ i k q. h i q) l m

kind_is : (k : Kind) (i : Item) → IsTrue (is_of k i) → item_kind i ≡ k
kind_is k i q = let p = of_kind_is k i q in ap item_kind p.1 ∙ p.2

pub none_spent : (old new : Decoding) → new.begun ≡ old.begun → Stays old.reading new.reading → Spent (refused_free (stands_under old)) old new
none_spent old new b s = record { most = omega (arith, b, s.taken) }

-- no code stands there
pub missed_unseen : (takes : Item → Bool) (grows buffers : Bool) (old new : Decoding) (e : Error) → (IsTrue buffers → IsTrue grows) → LooksNot buffers old new e → Missed takes grows buffers old new e
missed_unseen takes grows buffers old new e g n = record {
  why = λ a i t rest w q at h.
      let s = code_stands (stands_under old) t rest i w in
      let r = n.rejects a in
      excused_more old.reading new.reading e g (not_refused old.reading new.reading _ s.0 e s.1 (r.why (t ++ rest) at h));
  spent = λ a. none_spent old new n.begun n.stays;
  steady = (stayed n.stays);
  device = n.device;
  memory = λ m. g (n.memory m);
}

pub missed_look : (k : Kind) (buffers : Bool) (old new : Decoding) (e : Error) → LooksNot buffers old new e → Missed (is_of k) true buffers old new e
missed_look k buffers old new e n = missed_unseen (is_of k) true buffers old new e (λ b. refl) n

-- a code of another kind stands there
pub missed_custom : (k : Kind) (buffers : Bool) (old new : Decoding) (x : EncodingCodes) (text : List ℕ) (e : Error) → Looks old new x → ((row x).kind ≡ k → ⊥) → IsCustom text e → Missed (is_of k) true buffers old new e
missed_custom k buffers old new x text e l n c = record {
  why = λ a i t rest w q at h. absurd (n (l.kind i t w (may_known new.reading t rest (keeps_known old.reading.to_come new.reading.to_come (t ++ rest) l.looked.stays.to_come at)) ∙ kind_is k i q));
  spent = λ a. none_spent old new l.begun l.looked.stays;
  steady = (stayed l.looked.stays);
  device = λ d. absurd (custom_device text e c d);
  memory = λ _. refl;
}
