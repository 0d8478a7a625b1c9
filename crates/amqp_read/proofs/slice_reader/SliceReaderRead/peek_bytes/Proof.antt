-- `shown` is passed on inside an `Ok`: the loan, its end and the bytes are the callee's.
use Rattle.std.proofs.Common.{◌≡◌, ℕ, ◌&&◌, Bool, true, false, List, [], ◌∷◌, length, refl, lit<, w64, Option, Some, None, Ok, Bor, MutBor}
use Rattle.std.proofs.raw_atomic.Walks.{proved, leaves}
use base.Logic.{ent, emp, id⊢}
use base.Fml.{Lft, ftrue, flft}
use mir.Syntax.{named}
use mir.Val.{Val, of_list}
use lib.Dec.{T}
use seplogic.Ra.Ura.{Ura}
use contract.Monad.{fact_i}
use contract.Running.{tables}
use types.Logic.{Logic, sem}
use types.Match.{live}
use types.Part.{agg}
use types.Kit.{‵, raw, ◌⊛◌, some, later, ◌$◌, ◌∵◌, !, qed, done, move, by, drop, use0, use1, split, join, fjoin, fpack, feq_i, pick, await}
use types.Run.{enter, lit, addr, stop, no_more, and_then, returns}
use types.ByLocal.{alloc_all, pass_all, free_all, look_at, get, through, sets, lands_as}
use denote.Builtin.{usize}
use denote.Enum.Declared.{shape}
use denote.Enum.Enum.{form_of, in_a_row}
use denote.Enum.Loose.{loose_lawful}
use denote.Enum.Row.{tagged_with}
use denote.Laws.{Lawful, shows}
use denote.Param.Laws.{of_field}
use denote.Param.Shared.{copy_shared}
use denote.Plain.{uint_vals, uint_Tells}
use denote.RattleType.{RattleType, Valss, owns}
use denote.Ref.{mut_vals, mut_Tells, gone}
use denote.Signature.{plain, named_lft, mut_ref_to}
use denote.Steps.{nothing, heard, peeks}
use denote.Struct.Field.{Field, shr_slice_field, u8-field}
use denote.Struct.Laws.{shr_slice_laws, shr_slice_copy, u8-laws, u8-copy}
use denote.MutBor.{Gone}
use denote.Triple.Both.{Both}
use denote.Triple.Call.{calls_at}
use denote.Triple.Clauses.{lasts}
use denote.Triple.Spec.{triple_of}
use denote.Triple.Table.{framed}
use denote.Triple.Walked.{Stays, stay_dropped, Goes-dropped, Goes-spent_ref}
use denote.Exit.{yes, no}
use Rattle.std.specs.Option.{MatchOption}
use Rattle.std.specs.contracts.option.Option as OP
use Rattle.std.specs.contracts.result.Result as RS
use Rattle.std.proofs.option.Option.TheLaws.{the_loose}
use Rattle.amqp_base.specs.contracts.error.Error as E
use Rattle.amqp_read.specs.Reading.{Reading}
use Rattle.amqp_read.specs.Steps.{IsShort, MayCome}
use Rattle.amqp_read.specs.contracts.slice_reader.SliceReader.{the_row}
use Rattle.amqp_read.specs.contracts.slice_reader.SliceReaderRead.peek_bytes as f
use Rattle.amqp_read.proofs.slice_reader.SliceReaderRead.peek_bytes.Statement.{statement}
use Rattle.amqp_read.proofs.slice_reader.SliceReaderRead.peek_bytes.Code as code
use Rattle.amqp_read.specs.contracts.slice_reader.SliceReader.shown as g
use Rattle.amqp_read.proofs.slice_reader.SliceReader.shown.Met.{met}

abbrev stayed : Stays f.ended.signature.params f.ended.kept
stayed = (stay_dropped (mut_ref_to (0 ∷ []) tt (plain (λ κs. the_row (named_lft 2 1 tt κs)))) no, (stay_dropped (plain (λ _. usize)) yes, tt))

module _ (κ : Lft) where
  abbrev Bytes : Field
  Bytes = shr_slice_field (record { mir = named 0; lft = κ }) u8-field.row tt

  abbrev Seen : RattleType
  Seen = OP.the_row Bytes.row

  seen_lawful : {M : Type 1} {𝓤 : Ura M} (𝓛 : Logic 𝓤) → Lawful 𝓛 Seen
  seen_lawful 𝓛 = loose_lawful (OP.the_type Bytes.row) (the_loose Bytes.row (of_field Bytes (shr_slice_laws (record { mir = named 0; lft = κ }) u8-field.row tt) refl
      (copy_shared Bytes (shr_slice_copy (record { mir = named 0; lft = κ }) u8-field.row tt (of_field u8-field u8-laws refl (copy_shared u8-field u8-copy)).shr_laws)))) tt 𝓛

and_tt : (b : Bool) → T b → T (b && true)
and_tt true t = tt
and_tt false t = absurd t

short_looks : {A : Type 0} (h S : Type 0) (P : A → Type 0) (o : Option A) → MatchOption o S P → MatchOption o (h → S) P
short_looks h S P None s = λ _. s
short_looks h S P (Some x) p = p

module _ {M : Type 1} {𝓤 : Ura M} (𝓛 : Logic 𝓤) (R R' : RattleType) where
  ok_of : (x : R.Denot) (v : Val) → ent 𝓤 (sem 𝓛 (R.own_val x (v ∷ []))) (sem 𝓛 ((RS.the_row R R').own_val (Ok x) (live 0 (of_list (v ∷ [])) ∷ [])))
  ok_of x v =
      qed 𝓛 (‵ (R.own_val x (v ∷ [])) ∷ []) ∵ nothing ! $ move ! (1 ∷ 0 ∷ []) $ fjoin ! $ feq_i ! (List Val) (v ∷ []) (v ∷ []) refl $ fjoin ! $
      fpack ! (Valss (R ∷ [])) (in_a_row (R ∷ []) (owns (R ∷ []) (x, tt)) (v ∷ [])) (v ∷ [], tt) $
      feq_i ! (List Val) (live 0 (of_list (v ∷ [])) ∷ []) (live 0 (of_list (v ∷ [])) ∷ []) refl $ fjoin ! $
      fpack ! (List Val) (tagged_with (form_of (shape (RS.the_type R R'))) (form_of (shape (RS.the_type R R'))).payload ((RS.the_type R R').to (Ok x)) (live 0 (of_list (v ∷ [])) ∷ [])) (v ∷ []) $ done !

pub peek_bytes_spec : {M : Type 1} → statement M
peek_bytes_spec 𝓤 𝓛 𝓜 𝓡 wired =
    let c = f.clauses 𝓛 𝓜.mem 𝓡.returns in
    proved 𝓛 f.ended stayed c 𝓜 𝓡 (Goes-spent_ref 𝓛 2 (0 ∷ []) tt (plain (λ κs. the_row (named_lft 2 1 tt κs))), (Goes-dropped 𝓛 2 (plain (λ _. usize)) yes (λ κs x w. refl), tt))
    f.Key.name code.function (code.unfolded 𝓤 𝓛.H 𝓜 𝓡 wired)
    (λ κs. (mut_vals, (uint_vals w64, tt))) (λ κs. (mut_Tells (named 0) κs.0 (the_row (named_lft 2 1 tt κs)), (uint_Tells w64, tt))) (λ κs qs bounds a _ are.
    let G = triple_of 𝓛 g.signature (g.spec 𝓛 𝓜.mem 𝓡.returns) in
    let z : G.Ghost = ((κs, qs, bounds, a, (mut_vals a.0, (uint_vals w64 a.1.0, tt))), tt) in
    let self : Both (MutBor Reading) Gone = record { entry = a.0; exit = gone a.0 } in let n : Both ℕ ℕ = record { entry = a.1.0; exit = a.1.0 } in
    qed 𝓛 (raw (G.pre z) ∷ []) ∵ enter ! _ _ _ _ _ $
    alloc_all ! (λ l. pass_all ! refl ((tt, tt), ((tt, record { fits = are.1.0.1 }), tt)) $
    sets ! (addr ! (through ! refl (stop !))) refl (tt, tt) $
    calls_at ! (framed 𝓤 𝓛.H 𝓜 (tables 𝓤 𝓛.H 𝓜 𝓡 𝓡.env)) G (met 𝓤 𝓛 𝓜 𝓡 (code.calls-amqp_read::slice_reader::SliceReader::shown 𝓡.env wired)) z
    (and_then ! (get ! refl) (and_then ! (get ! refl) (no_more !))) (λ v.
    use1 𝓛 (later (some (λ (r : Option (Bor (List ℕ))). ((‵ (flft κs.0 qs.0) ⊛ ‵ (flft κs.1.0 qs.1.0) ⊛ ‵ ftrue) ⊛ ‵ ((Seen κs.0).own_val r (v ∷ []))) ⊛
    some (λ (ws : Unit {0} × (Unit {0} × Unit {0})). ‵ (lasts g.ended κs a ws) ⊛
    (raw (g.ensures-bytes 𝓛 κs 𝓜.mem 𝓡.returns a.0 a.1.0 self n r) ⊛ raw (g.ensures-lent 𝓛 κs 𝓜.mem 𝓡.returns a.0 a.1.0 self n r)))))) (id⊢ 𝓤 _) $
    await ! tt $ pick ! (λ r. split ! $ split ! $ move ! (1 ∷ []) $ peeks ! (Seen κs.0) _ (shows 𝓛 (Seen κs.0)) r (v ∷ []) (λ is.
    let good = ((seen_lawful κs.0 𝓛).typed r (v ∷ []) is).0 in
    move ! (2 ∷ []) $ pick ! (λ ws. split ! $ drop ! $ split ! $ heard ! _ (λ bytes.
    lands_as ! refl refl good $
    sets ! (agg ! (and_then ! (lit ! tt) (and_then ! (get ! refl) (no_more !)))) refl (and_tt _ good.0, (record { fits = lit< tt }, (good.1, tt))) $
    let Shows : Type 0 → Type 0 = λ short. MatchOption r short (λ b. (length b.now ≡ a.1.0) × MayCome a.0.now b.now) in
    returns ! (look_at ! 0 refl) $ free_all ! refl $ move ! (1 ∷ []) $
    use1 𝓛 (‵ ((RS.the_row (Seen κs.0) E.the_row).own_val (Ok r) (live 0 (of_list (v ∷ [])) ∷ []))) (ok_of 𝓛 (Seen κs.0) E.the_row r v) $ move ! (1 ∷ []) $
    use0 𝓛 (raw (f.ensures-why 𝓛 κs 𝓜.mem 𝓡.returns a.0 a.1.0 self n (Ok r))) (fact_i 𝓤 (Unit {0}) (emp 𝓤) tt) $ join ! $
    use0 𝓛 (raw (f.ensures-ok 𝓛 κs 𝓜.mem 𝓡.returns a.0 a.1.0 self n (Ok r))) (fact_i 𝓤 (Shows (IsShort a.1.0 a.0.now)) (emp 𝓤) (short_looks _ _ _ r bytes)) $ join ! $
    nothing ! $ nothing ! $ fjoin ! $ nothing ! $ fjoin ! $ move ! (3 ∷ 0 ∷ 2 ∷ 1 ∷ []) $
    by ! (leaves 𝓛 f.ended stayed c z (live 0 (of_list (v ∷ []))) (Ok r) (tt, (tt, tt)) (tt, (tt, tt))))))))))
