-- How a transcript grows by a line.
use Rattle.std.proofs.Common.{◌≡◌, ℕ, suc, ◌+◌, ◌≤◌, true, false, Bool, List, [], ◌∷◌, ◌++◌, length, take, Option, Some, None, sym, ap, ◌∙◌, arith, append_assoc, append-nil, add-one}
use Rattle.std.proofs.lemmas.List.{take_all, length-take}
use Rattle.std.specs.Prelude.{IfSome}
use Rattle.std.specs.Io.KnownBytes.{Appends, Keeps, append_known}
use Rattle.amqp_probe.specs.Answer.{Answers, IsBad}
use Rattle.amqp_probe.specs.Lines.{first_line, behind, IsNext, Weighs}
use Rattle.amqp_probe.specs.Transcript.{Transcript, bad_line, ended, answered, bad, Prints, Puts, Transcribes, AnsweredIfKnown}
use Rattle.amqp_probe.specs.declared.why.BadLine.{BadLine}
use Rattle.amqp_probe.proofs.Writes.{appends_more}

pub weighs_more : (a b c : Option (List ℕ)) (k m n : ℕ) → Weighs a k b m → Weighs b m c n → Weighs a k c n
weighs_more None b c k m n h j = tt
weighs_more (Some xs) None c k m n h j = absurd h
weighs_more (Some xs) (Some ys) None k m n h j = absurd j
weighs_more (Some xs) (Some ys) (Some zs) k m n h j = h ∙ j

whole : (line first : List ℕ) → line ≡ take 65537 first → length line ≤ 65536 → line ≡ first
whole line first e short =
    let len = length-take 65537 first in
    let same : length line ≡ length (take 65537 first) = ap length e in
    e ∙ take_all 65537 first (omega arith)

still_bad : (line first : List ℕ) → line ≡ take 65537 first → IsBad line → IsBad first
still_bad line first e h kind bytes s =
    let short = s.short in
    let same : line ≡ first = e ∙ take_all 65537 first (omega arith) in
    h kind bytes (rw same s)

-- the same is held: what was to be written has gone out
appends_kept : (a b c : Option (List ℕ)) (xs : List ℕ) → Appends a b xs → Keeps b c → Appends a c xs
appends_kept None b c xs h k = tt
appends_kept (Some old) None c xs h k = absurd h
appends_kept (Some old) (Some mid) None xs h k = absurd k
appends_kept (Some old) (Some mid) (Some new) xs h k = k ∙ h

pub answered_kept : (x0 x c0 c d : Option (List ℕ)) (n : ℕ) → AnsweredIfKnown x0 x n c0 c → Keeps c d → AnsweredIfKnown x0 x n c0 d
answered_kept None x c0 c d n h k = tt
answered_kept (Some input) x c0 c d n h k = record {
  rest = h.rest;
  known = h.known;
  place = h.place;
  printed = h.printed;
  appended = appends_kept c0 c d h.printed h.appended k;
  goes_on = h.goes_on;
}

-- a text behind those that are held
held_more : (held : Option (List ℕ)) (texts more text : List ℕ) → more ≡ texts ++ text → Appends (append_known held texts) (append_known held more) text
held_more None texts more text e = tt
held_more (Some xs) texts more text e = rw e (sym (append_assoc xs texts text))

-- nothing is left to be written
keeps_all : (out held : Option (List ℕ)) (texts : List ℕ) → texts ≡ [] → Keeps held (append_known out texts) → Keeps held out
keeps_all out None texts e k = tt
keeps_all None (Some xs) texts e k = absurd k
keeps_all (Some ys) (Some xs) texts e k = sym (append-nil ys) ∙ rw e at k

answered_next : (x0 x y c0 c d : Option (List ℕ)) (n : ℕ) (line text : List ℕ) → AnsweredIfKnown x0 x n c0 c → IfSome x (λ input. IsNext input line y)
    → Answers line text → Appends c d (text ++ 10 ∷ []) → AnsweredIfKnown x0 y (n + 1) c0 d
answered_next None x y c0 c d n line text h next is more = tt
answered_next (Some input) x y c0 c d n line text h next is more =
    let here : IsNext h.rest line y = rw h.known at next in
    let first : line ≡ first_line h.rest = whole line (first_line h.rest) here.1 is.spells.short in
    record {
      rest = behind h.rest;
      known = here.2 is.spells.short;
      place = rw (add-one n) (ap behind h.place);
      printed = h.printed ++ (text ++ 10 ∷ []);
      appended = appends_more c0 c d h.printed (text ++ 10 ∷ []) h.appended more;
      goes_on = λ texts good t.
          let one : Transcript (suc n) h.rest (text ++ 10 ∷ texts) good =
          answered (suc n) h.rest text texts good here.0 (rw (← first) is) (rw add-one at t) in
          let grouped : h.printed ++ (text ++ 10 ∷ texts) ≡ (h.printed ++ (text ++ 10 ∷ [])) ++ texts = simp append_assoc in
          rw grouped at (h.goes_on (text ++ 10 ∷ texts) good one);
    }

pub answered_more : (x0 x y c0 held out : Option (List ℕ)) (n : ℕ) (line texts more left : List ℕ) → AnsweredIfKnown x0 x n c0 (append_known held texts)
    → IfSome x (λ input. IsNext input line y) → Puts line (n + 1) None texts more → Keeps (append_known held more) (append_known out left)
    → AnsweredIfKnown x0 y (n + 1) c0 (append_known out left)
answered_more x0 x y c0 held out n line texts more left h next puts k =
    answered_kept x0 y c0 (append_known held more) (append_known out left) (n + 1)
    (answered_next x0 x y c0 (append_known held texts) (append_known held more) n line puts.0 h next puts.1 (held_more held texts more (puts.0 ++ 10 ∷ []) puts.2)) k

prints_kept : (input : List ℕ) (good : Bool) (c0 c d : Option (List ℕ)) → Prints input good c0 c → Keeps c d → Prints input good c0 d
prints_kept input good c0 c d p k = record { text = p.text; transcript = p.transcript; appended = appends_kept c0 c d p.text p.appended k }

pub bad_prints : (x0 x y c0 held out : Option (List ℕ)) (n : ℕ) (line texts more left : List ℕ) (b : BadLine) → AnsweredIfKnown x0 x n c0 (append_known held texts)
    → IfSome x (λ input. IsNext input line y) → b.number ≡ n + 1 → Puts line (n + 1) (Some b.why) texts more
    → Keeps (append_known held more) (append_known out left) → left ≡ [] → IfSome x0 (λ input. Transcribes input (Some b) c0 out)
bad_prints None x y c0 held out n line texts more left b h next number puts k none = tt
bad_prints (Some input) x y c0 held out n line texts more left b h next number puts k none =
    let here : IsNext h.rest line y = rw h.known at next in
    let text : List ℕ = bad_line (n + 1) in
    let last : Transcript (suc n) h.rest (bad_line (suc n)) false =
    bad (suc n) h.rest here.0 (still_bad line (first_line h.rest) here.1 puts.0) in
    let with_texts = append_known held texts in
    let with_more = append_known held more in (
      prints_kept input false c0 with_more out (record {
        text = h.printed ++ text;
        transcript = h.goes_on text false (rw (add-one n) last);
        appended = appends_more c0 with_texts with_more h.printed text h.appended (held_more held texts more text puts.2);
      }) (keeps_all out with_more left none k),
      record { before = n; number = number; why = rw (here.1, h.place) at puts.1 },
    )

pub end_prints : (x0 x c0 held out : Option (List ℕ)) (n : ℕ) (texts left : List ℕ) → AnsweredIfKnown x0 x n c0 (append_known held texts)
    → IfSome x (λ input. input ≡ []) → Keeps (append_known held texts) (append_known out left) → left ≡ [] → IfSome x0 (λ input. Transcribes input None c0 out)
end_prints None x c0 held out n texts left h e k none = tt
end_prints (Some input) x c0 held out n texts left h e k none =
    let end : h.rest ≡ [] = rw h.known at e in
    prints_kept input true c0 (append_known held texts) out (record {
      text = h.printed;
      transcript = rw (append-nil h.printed) at (h.goes_on [] true (rw end (ended (suc n))));
      appended = h.appended;
    }) (keeps_all out (append_known held texts) left none k)
