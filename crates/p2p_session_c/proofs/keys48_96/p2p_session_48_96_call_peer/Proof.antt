-- The session at the pointer is lent for `call_peer`, and comes back.
use Rattle.std.proofs.Common.{◌≡◌, ℕ, List, [], ◌∷◌, ◌++◌, refl, sym, ap, ◌∙◌, w64, MutBor}
use Rattle.std.proofs.raw_atomic.Walks.{proved_at}
use Rattle.std.proofs.alloc.Calls.{handle_tells}
use base.Fraction.{full_share}
use base.Logic.{id⊢, sep}
use types.Logic.{sem}
use base.Fml.{ftrue, flft, flent}
use mir.Syntax.{named}
use mir.Val.{Val, vptr}
use contract.Monad.{fact}
use contract.Running.{tables}
use types.Kit.{‵, raw, prop, at_ret, ◌⊛◌, some, later, ◌$◌, ◌∵◌, !, qed, done, drop, move, keep, use1, use2, use3, split, join, fsplit, pick, await, rewrite, regoal, suffices, frame, group, show}
use types.Run.{enter, of_opd, addr, stop, first, blocks, exec, no_more, and_then, returns}
use types.ByLocal.{env, alloc_all, pass_all, free_all, look_at, get, through, sets, sets_last, lands_as}
use denote.Builtin.{u8, u64, SliceRefOf}
use denote.Exit.{yes}
use denote.Laws.{shows, Is}
use denote.Plain.{uint_Lawful, uint_vals, uint_Tells}
use denote.RawPtr.{Ptr, RawPtr, block_ptr, ptr_val, lies_at, in_a_block, rawptr_Tells}
use denote.Ref.{MutRef}
use denote.Slice.{ShrSlice, shr_slice_vals, shr_slice_Tells}
use denote.Signature.{plain, types_at}
use denote.RattleType.{owns}
use denote.Steps.{nothing, heard, peeks}
use denote.Triple.Call.{calls_at}
use denote.Triple.Clauses.{lasts, Lasts}
use denote.Triple.Spec.{triple_of}
use denote.Triple.Walked.{Stays, walk_of, says, stay_dropped, Goes-dropped, ends_at}
use denote.Triple.Table.{framed}
use types.Tokens.{lft_new, lft_end}
use denote.Lend.{lends_ref, ref_back}
use types.SemTy.{Body}
use denote.Memory.{mem}
use prog.Wp.{WpFn}
use Rattle.std.specs.contracts.alloc.Global.{the_row as A}
use Rattle.std.proofs.alloc.Global.TheLaws as alloc_laws
use Rattle.std.specs.contracts.impls.GlobalAllocator.TheImpl as I
use Rattle.p2p_session_c.specs.declared.keys48_96.Session.{Session}
use Rattle.p2p_session_c.specs.contracts.keys48_96.Session.{the_row as R}
use Rattle.p2p_session.specs.Requests.{ServesCall}
use Rattle.p2p_session_c.specs.Keys48_96.{keys48_96}
use Rattle.p2p_session_c.specs.contracts.keys48_96.Session.call_peer as g
use Rattle.p2p_session_c.proofs.keys48_96.Session.call_peer.Met.{met}
use Rattle.p2p_session_c.specs.contracts.keys48_96.p2p_session_48_96_call_peer as f
use Rattle.p2p_session_c.proofs.keys48_96.p2p_session_48_96_call_peer.Statement.{statement}
use Rattle.p2p_session_c.proofs.keys48_96.p2p_session_48_96_call_peer.Code as code

abbrev stayed : Stays f.ended.signature.params f.ended.kept
stayed = (stay_dropped _ yes, (stay_dropped _ yes, (stay_dropped _ yes, (stay_dropped _ yes, (stay_dropped _ yes, tt)))))

pub p2p_session_48_96_call_peer_spec : {M : Type 1} → statement M
p2p_session_48_96_call_peer_spec 𝓤 𝓛 𝓜 𝓡 wired =
    let c = f.clauses 𝓛 𝓜.mem 𝓡.returns in let W = walk_of 𝓛 f.ended stayed c in let 𝓣 = tables 𝓤 𝓛.H 𝓜 𝓡 𝓡.env in
    proved_at 𝓛 f.ended stayed c 𝓜 𝓡 (Goes-dropped 𝓛 2 (plain (λ _. A)) yes (λ κs x w. refl), (Goes-dropped 𝓛 2 (plain (λ _. RawPtr)) yes (λ κs x w. refl), (Goes-dropped 𝓛 2 (plain (λ _. u64)) yes (λ κs x w. refl), (Goes-dropped 𝓛 2 (SliceRefOf (0 ∷ []) tt (plain (λ _. u64)) (λ _. tt)) yes (λ κs x w. refl), (Goes-dropped 𝓛 2 (SliceRefOf (1 ∷ []) tt (plain (λ _. u8)) (λ _. tt)) yes (λ κs x w. refl), tt)))))
    f.Key.name code.function (code.unfolded 𝓤 𝓛.H 𝓜 𝓡 wired) (λ z are.
    let κ0 = z.0.0.0 in let q0 = z.0.1.0 in
    let κ1 = z.0.0.1.0 in let q1 = z.0.1.1.0 in
    let before = z.1 in
    let arg-alloc = z.0.3.0 in let arg-alloc_vs = z.0.4.0 in
    let arg-at = z.0.3.1.0 in let arg-at_vs = z.0.4.1.0 in
    let arg-number = z.0.3.1.1.0 in let arg-number_vs = z.0.4.1.1.0 in
    let arg-number_is = uint_Tells w64 arg-number arg-number_vs are.1.1.0 in let arg-number_fits = are.1.1.0.1 in
    let arg-numbers = z.0.3.1.1.1.0 in let arg-numbers_vs = z.0.4.1.1.1.0 in
    let arg-numbers_is = shr_slice_Tells (named 0) κ0 u64 arg-numbers arg-numbers_vs are.1.1.1.0 in let arg-numbers_fits = are.1.1.1.0.0.1.0 in
    let arg-peer = z.0.3.1.1.1.1.0 in let arg-peer_vs = z.0.4.1.1.1.1.0 in
    let arg-peer_is = shr_slice_Tells (named 1) κ1 u8 arg-peer arg-peer_vs are.1.1.1.1.0 in let arg-peer_fits = are.1.1.1.1.0.0.1.0 in
    qed 𝓛 (((‵ (flft κ0 q0) ⊛ ‵ (flft κ1 q1) ⊛ ‵ ftrue) ⊛ ‵ (owns (types_at f.ended.signature.params z.0.0) z.0.3 z.0.4)) ∷ ‵ (lies_at R full_share arg-at before) ∷ []) ∵ split ! $ move ! (2 ∷ []) $
    in_a_block ! arg-at (λ s. lies_at R full_share s before) (id⊢ 𝓤 _) (λ b o e.
    let arg-at_is : arg-at_vs ≡ vptr b o ∷ [] = rawptr_Tells arg-at arg-at_vs are.1.0 ∙ ap (λ (s : Ptr). ptr_val s ∷ []) e in
    move ! (2 ∷ []) $
    fsplit ! $ handle_tells (record { row = A; laws = alloc_laws.the_row_laws; g = I.ghosts; d = I.dict; drops = I.dict }) ! arg-alloc arg-alloc_vs (λ u arg-alloc_is u_fits. move ! (1 ∷ []) $
    fsplit ! $ drop ! $
    fsplit ! $ rewrite ! 0 (λ (vs : List Val). ‵ (u64.own_val arg-number vs)) arg-number_is refl $ move ! (1 ∷ []) $
    fsplit ! $ rewrite ! 0 (λ (vs : List Val). ‵ ((ShrSlice (named 0) κ0 u64).own_val arg-numbers vs)) arg-numbers_is refl $ move ! (1 ∷ []) $
    fsplit ! $ rewrite ! 0 (λ (vs : List Val). ‵ ((ShrSlice (named 1) κ1 u8).own_val arg-peer vs)) arg-peer_is refl $ move ! (1 ∷ []) $
    -- [nothing; what the parameters own, from the last; the value; the tokens]
    regoal ! (λ (vs : List Val × (List Val × (List Val × (List Val × (List Val))))). prop (WpFn 𝓤 𝓛.H 𝓣.C 𝓣.Λ code.function (vs.0 ++ (vs.1.0 ++ (vs.1.1.0 ++ (vs.1.1.1.0 ++ (vs.1.1.1.1 ++ []))))) (W.post z))) (λ i. (arg-alloc_is i, (arg-at_is i, (arg-number_is i, (arg-numbers_is i, arg-peer_is i))))) refl $
    enter ! _ _ _ _ _ $ alloc_all ! (λ l. pass_all ! refl (u_fits, ((tt, tt), ((tt, record { fits = arg-number_fits }), ((tt, (tt, (record { fits = arg-numbers_fits }, tt))), ((tt, (tt, (record { fits = arg-peer_fits }, tt))), tt))))) $
    lft_new ! tt (λ α. let κ : List ℕ = α ∷ [] in
    let r : ℕ → MutBor Session = λ γ. record { ref_ptr = (b, o); ghost_name = γ; now = before } in
    move ! (6 ∷ []) $
    use1 𝓛 (later (some (λ (γ : ℕ). ‵ ((MutRef (named 0) κ R).own_val (r γ) (vptr b o ∷ [])) ⊛ ‵ (flent κ (Body (mem R) b o γ))))) (lends_ref 𝓛 R (named 0) κ before b o) $
    await ! tt $ pick ! (λ γ. split ! $
    -- [the loan; the lender's part; the token of α; nothing; what the parameters own, from the last; the tokens; the locals]
    first ! $ blocks ! $ sets ! (of_opd ! (get ! refl)) refl (tt, tt) $ sets_last ! (addr ! (through ! refl (stop !))) refl (tt, tt) $
    exec ! 𝓣.C 𝓣.Λ (env code.Mir.locals l) code.Mir.t-2 (at_ret _ (W.post z)) $
    sets ! (of_opd ! (get ! refl)) refl (tt, tt) $ sets ! (addr ! (through ! refl (stop !))) refl (tt, tt) $
    let G = triple_of 𝓛 g.signature (g.spec 𝓛 𝓜.mem 𝓡.returns) in
    let y : G.Ghost = (((κ, (κ0, (κ1, tt))), (full_share, (q0, (q1, tt))), tt, (r γ, (arg-alloc, (arg-number, (arg-numbers, (arg-peer, tt))))), (vptr b o ∷ [], (u ∷ [], (uint_vals w64 arg-number, (shr_slice_vals arg-numbers, (shr_slice_vals arg-peer, tt)))))), tt) in
    move ! (4 ∷ 3 ∷ []) $ join ! $ move ! (4 ∷ 0 ∷ []) $ join ! $ move ! (4 ∷ 0 ∷ []) $ join ! $ move ! (4 ∷ 0 ∷ []) $ join ! $
    move ! (1 ∷ 0 ∷ []) $ join ! $ move ! (2 ∷ 3 ∷ []) $ join ! $ join ! $ nothing ! $ move ! (1 ∷ 0 ∷ []) $ use2 𝓛 (raw (G.pre y)) (id⊢ 𝓤 _) $
    calls_at ! (framed 𝓤 𝓛.H 𝓜 (tables 𝓤 𝓛.H 𝓜 𝓡 𝓡.env)) G (met 𝓤 𝓛 𝓜 𝓡 (code.calls-p2p_session_c::keys48_96::Session::call_peer 𝓡.env wired)) y
    (and_then ! (get ! refl) (and_then ! (get ! refl) (and_then ! (get ! refl) (and_then ! (get ! refl) (and_then ! (get ! refl) (no_more !)))))) (λ v.
    use1 𝓛 (later (some (λ (t : ℕ). ((‵ (flft κ full_share) ⊛ ‵ (flft κ0 q0) ⊛ ‵ (flft κ1 q1) ⊛ ‵ ftrue) ⊛ ‵ (u64.own_val t (v ∷ []))) ⊛
    some (λ (xs : Lasts g.ended y.0.0 y.0.3). ‵ (lasts g.ended y.0.0 y.0.3 xs) ⊛ raw (fact 𝓤 (ServesCall keys48_96 arg-number arg-numbers.now arg-peer.now [] [] [] [] before.session xs.0.session t)))))) (id⊢ 𝓤 _) $
    await ! tt $ pick ! (λ t. split ! $ split ! $ split ! $ lft_end ! tt $
    move ! (3 ∷ []) $ pick ! (λ xs. split ! $ move ! (1 ∷ []) $ heard ! _ (λ says_so. fsplit ! $ fsplit ! $
    -- [the loan's last value; its borrow; what else is left of the arguments; α is over; the tokens; the answer; the lender's part; the locals]
    move ! (3 ∷ 6 ∷ 0 ∷ []) $ use3 𝓛 (later (‵ (lies_at R full_share (block_ptr b o) xs.0))) (ref_back 𝓛 R κ γ xs.0 b o) $ await ! tt $
    move ! (2 ∷ []) $
    fsplit ! $ drop ! $
    fsplit ! $ drop ! $
    fsplit ! $ drop ! $
    fsplit ! $ drop ! $
    drop ! $
    -- [what is left of each `&mut`, from the last; the value; its borrow; the tokens; the answer; the locals]
    move ! (3 ∷ []) $ peeks ! u64 (Is u64) (shows 𝓛 u64) t (v ∷ []) (λ is. lands_as ! refl refl ((uint_Lawful 𝓛 w64).typed t _ is).0 $
    returns ! (look_at ! 0 refl) $ free_all ! refl $ keep ! (0 ∷ 1 ∷ 3 ∷ []) $
    rewrite ! 1 (λ (s : Ptr). ‵ (lies_at R full_share s xs.0)) (sym e) refl $
    suffices ! _ (ends_at 𝓛 f.ended stayed c z v t (tt, (tt, (tt, (tt, (tt, tt))))) (tt, (tt, (tt, (tt, (tt, tt)))))) $
    nothing ! $ nothing ! $ join ! $ nothing ! $ join ! $ nothing ! $ join ! $ nothing ! $ join ! $ nothing ! $ join ! $ move ! (3 ∷ []) $ group ! 3 $ frame ! $
    show ! (λ (after : Session). sep 𝓤 (sem 𝓛 (lies_at R full_share arg-at after)) (fact 𝓤 (ServesCall keys48_96 arg-number arg-numbers.now arg-peer.now [] [] [] [] before.session after.session t))) xs.0 $
    says ! says_so $ done !)))))))))))
