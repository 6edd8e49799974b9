-- What `new` returns is written into the room at the pointer.
use Rattle.std.proofs.Common.{◌≡◌, List, [], ◌∷◌, ◌++◌, refl, sym, ap, ◌∙◌}
use Rattle.std.proofs.raw_atomic.Walks.{proved_at}
use Rattle.std.proofs.alloc.Calls.{handle_tells}
use base.Fraction.{full_share}
use base.Logic.{id⊢, sep}
use types.Logic.{sem}
use base.Fml.{ftrue}
use mir.Val.{Val, vunit, vptr}
use contract.Monad.{fact}
use contract.Running.{tables}
use types.Kit.{‵, raw, prop, at_ret, ◌⊛◌, some, later, ◌$◌, ◌∵◌, !, qed, done, drop, move, use1, use2, split, join, fsplit, feq_i, feq_l, pick, await, rewrite, regoal, suffices, frame, group, show}
use types.Run.{enter, of_opd, unit_lit, stop, init, first, blocks, assigns_last, exec, no_more, and_then, returns}
use types.ByLocal.{env, alloc_all, pass_all, free_all, look_at, get, through, sets, lands_as}
use denote.Exit.{yes}
use denote.Laws.{shows, Is}
use denote.RawPtr.{Ptr, RawPtr, block_ptr, ptr_val, lies_at, room_at, in_a_block}
use denote.RattleType.{owns}
use borrow.Table.OneValue.{part_in}
use denote.Signature.{plain}
use denote.Steps.{nothing, heard, peeks}
use denote.Triple.Call.{calls_at}
use denote.Triple.Clauses.{lasts, Lasts}
use denote.Triple.Spec.{triple_of}
use denote.Triple.Walked.{Stays, walk_of, says, stay_dropped, Goes-dropped, ends_at}
use denote.Triple.Table.{framed}
use prog.Wp.{WpFn}
use Rattle.std.specs.contracts.alloc.Global.{the_row as A}
use Rattle.std.proofs.alloc.Global.TheLaws as alloc_laws
use Rattle.std.specs.contracts.impls.GlobalAllocator.TheImpl as I
use Rattle.p2p_session_c.specs.declared.keys48_96.Session.{Session}
use Rattle.p2p_session_c.specs.contracts.keys48_96.Session.{the_row as R}
use Rattle.p2p_session_c.proofs.keys48_96.Session.TheLaws as laws
use Rattle.p2p_session.specs.Sessions.{IsFresh}
use Rattle.p2p_session_c.specs.contracts.keys48_96.Session.new as g
use Rattle.p2p_session_c.proofs.keys48_96.Session.new.Met.{met}
use Rattle.p2p_session_c.specs.contracts.keys48_96.p2p_session_48_96_new as f
use Rattle.p2p_session_c.proofs.keys48_96.p2p_session_48_96_new.Statement.{statement}
use Rattle.p2p_session_c.proofs.keys48_96.p2p_session_48_96_new.Code as code

abbrev stayed : Stays f.ended.signature.params f.ended.kept
stayed = (stay_dropped _ yes, (stay_dropped _ yes, tt))

pub p2p_session_48_96_new_spec : {M : Type 1} → statement M
p2p_session_48_96_new_spec 𝓤 𝓛 𝓜 𝓡 wired =
    let c = f.clauses 𝓛 𝓜.mem 𝓡.returns in let W = walk_of 𝓛 f.ended stayed c in let 𝓣 = tables 𝓤 𝓛.H 𝓜 𝓡 𝓡.env in
    proved_at 𝓛 f.ended stayed c 𝓜 𝓡 (Goes-dropped 𝓛 0 (plain (λ _. A)) yes (λ κs x w. refl), (Goes-dropped 𝓛 0 (plain (λ _. RawPtr)) yes (λ κs x w. refl), tt))
    f.Key.name code.function (code.unfolded 𝓤 𝓛.H 𝓜 𝓡 wired) (λ z are.
    let alloc = z.0.3.0 in let p = z.0.3.1.0 in let us = z.0.4.0 in let vs = z.0.4.1.0 in
    qed 𝓛 ((‵ ftrue ⊛ ‵ (owns (A ∷ RawPtr ∷ []) (alloc, (p, tt)) (us, (vs, tt)))) ∷ ‵ (room_at R p) ∷ []) ∵ split ! $ drop ! $ fsplit ! $
    handle_tells (record { row = A; laws = alloc_laws.the_row_laws; g = I.ghosts; d = I.dict; drops = I.dict }) ! alloc us (λ u eu fu. move ! (1 ∷ []) $ fsplit ! $ feq_l ! (λ ev. drop ! $ move ! (1 ∷ []) $
    in_a_block ! p (λ q. room_at R q) (id⊢ 𝓤 _) (λ b o e.
    let is : vs ≡ vptr b o ∷ [] = ev ∙ ap (λ (q : Ptr). ptr_val q ∷ []) e in
    regoal ! (λ (ws : List Val). prop (WpFn 𝓤 𝓛.H 𝓣.C 𝓣.Λ code.function (ws ++ (vs ++ [])) (W.post z))) eu refl $
    regoal ! (λ (ws : List Val). prop (WpFn 𝓤 𝓛.H 𝓣.C 𝓣.Λ code.function (u ∷ (ws ++ [])) (W.post z))) is refl $
    -- [the room; the allocator]
    enter ! _ _ _ _ _ $ alloc_all ! (λ l. pass_all ! refl (fu, ((tt, tt), tt)) $
    let G = triple_of 𝓛 g.signature (g.spec 𝓛 𝓜.mem 𝓡.returns) in
    let y : G.Ghost = ((tt, tt, tt, (alloc, tt), (u ∷ [], tt)), tt) in
    move ! (1 ∷ []) $ nothing ! $ move ! (1 ∷ 0 ∷ []) $ join ! $ nothing ! $ join ! $ nothing ! $ move ! (1 ∷ 0 ∷ []) $ use2 𝓛 (raw (G.pre y)) (id⊢ 𝓤 _) $
    calls_at ! (framed 𝓤 𝓛.H 𝓜 (tables 𝓤 𝓛.H 𝓜 𝓡 𝓡.env)) G (met 𝓤 𝓛 𝓜 𝓡 (code.calls-p2p_session_c::keys48_96::Session::new 𝓡.env wired)) y (and_then ! (get ! refl) (no_more !)) (λ v.
    use1 𝓛 (later (some (λ (r : Session). (‵ ftrue ⊛ ‵ (R.own_val r (v ∷ []))) ⊛
    some (λ (ws : Lasts g.ended tt (alloc, tt)). ‵ (lasts g.ended tt (alloc, tt) ws) ⊛ raw (fact 𝓤 (IsFresh r.session)))))) (id⊢ 𝓤 _) $
    await ! tt $ pick ! (λ r. split ! $ split ! $ drop ! $ move ! (1 ∷ []) $ pick ! (λ ws. split ! $ drop ! $ heard ! _ (λ empty.
    -- [the value; the room; the locals]
    peeks ! R (Is R) (shows 𝓛 R) r (v ∷ []) (λ fits. let t = ((laws.the_row_laws.lawful 𝓛).typed r (v ∷ []) fits).0 in
    lands_as ! refl refl t $ sets ! (of_opd ! (get ! refl)) refl (tt, tt) $
    first ! $ blocks ! $ sets ! (of_opd ! (get ! refl)) refl t $ assigns_last ! (of_opd ! (get ! refl)) (through ! refl (stop !)) (init ! 1 refl t) $
    exec ! 𝓣.C 𝓣.Λ (env code.Mir.locals l) code.Mir.t-4 (at_ret _ (W.post z)) $
    sets ! (of_opd ! (unit_lit !)) refl (tt, tt) $ returns ! (look_at ! 0 refl) $ free_all ! refl $
    move ! (1 ∷ 0 ∷ []) $ use2 𝓛 (‵ (lies_at R full_share (block_ptr b o) r)) (part_in 𝓛 R refl full_share r b o v) $
    rewrite ! 0 (λ (q : Ptr). ‵ (lies_at R full_share q r)) (sym e) refl $
    suffices ! _ (ends_at 𝓛 f.ended stayed c z vunit tt (tt, (tt, tt)) (tt, (tt, tt))) $
    feq_i ! _ (vunit ∷ []) _ refl $ nothing ! $ nothing ! $ join ! $ nothing ! $ join ! $ nothing ! $ group ! 3 $ frame ! $
    show ! (λ (made : Session). sep 𝓤 (sem 𝓛 (lies_at R full_share p made)) (fact 𝓤 (IsFresh made.session))) r $ says ! empty $ done !))))))))))
