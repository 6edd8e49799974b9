-- What concerns others leaves p as it was.
use Rattle.std.proofs.Common.{◌≡◌, ℕ, suc, ◌+◌, ◌≤◌, Bool, true, false, cond, not, ◌&&◌, List, [], ◌∷◌, Option, Some, None, inl, inr, refl, sym, ◌∙◌, ap, subst}
use Rattle.std.specs.Prelude.{if◌then◌else◌, filter, nat_lt}
use Rattle.std.proofs.lemmas.Bool.{not-true, not-false}
use Rattle.p2p_tracker.specs.Status.{is_inert, is_reserved}
use Rattle.p2p_tracker.specs.Blocks.{is_blocked}
use Rattle.p2p_tracker.specs.Cooldowns.{dialable_from}
use Rattle.p2p_tracker.specs.declared.record.Status.{Status}
use Rattle.p2p_tracker.specs.Calls.{Settings, Question, Call, SetAt, Grant, Cooldown, Event, single_peer_of}
use Rattle.p2p_tracker.specs.Calls.Call.{Track, Dial, Listen, Connect, Release, Update, Block, Ask}
use Rattle.p2p_tracker.specs.declared.record.Status.TheVariants.{Inert, Reserved}
use Rattle.p2p_tracker.specs.Calls.Event.{Nothing, SetTaken, Granted, Connected, Released, Updated, Blocked, Expired, Forgot}
use Rattle.p2p_tracker.specs.Moments.{cap}
use Rattle.p2p_tracker.specs.History
use Rattle.p2p_tracker.specs.World
use Rattle.p2p_tracker.specs.World.{Known, World}
use Rattle.p2p_tracker.specs.Answers
use Rattle.p2p_directory.specs.Laws.Isolation.{SameFor, AnswersAlike, is_on_another, narrowed, left_for, is_on, torn_after, IsListedAfter, KeepAlone}
use Rattle.p2p_tracker.proofs.Definitions.Knowledge
use Rattle.p2p_directory.proofs.Definitions.Law
use Rattle.p2p_directory.proofs.Definitions.Steps.{Makes, makes}
use Rattle.std.specs.Option.{option_map, option_map_or, IsSomeAnd}
use Rattle.p2p_discovery.specs.Ingress.{takes_none}
use Rattle.p2p_tracker.specs.Calls.Question.{StatusOf, InfoOf, IngressOf, IsEligible, IsAcceptable, MayListen, DialableAt}
use Rattle.p2p_tracker.specs.declared.record.dialing.Dialable.{Dialable}
use Rattle.p2p_tracker.specs.Answers.{was_granted, was_blocked, was_taken, is_torn_down, is_dialable}
use Rattle.p2p_directory.specs.Run
use Rattle.p2p_directory.specs.declared.run.commands.Reply.{Reply}
use Rattle.p2p_directory.specs.declared.run.commands.Reply.TheVariants as reply
use Rattle.p2p_directory.proofs.LawsOfRuns.GrantRuns.{answered}

filter_again : {A : Type 0} (test : A → Bool) (xs : List A) → filter test (filter test xs) ≡ filter test xs
filter_again test [] = refl
filter_again test (x ∷ xs) = go (filter_again test xs) (test x) refl
  where
    go : filter test (filter test xs) ≡ filter test xs → (b : Bool) → test x ≡ b →
        filter test (cond b (x ∷ filter test xs) (filter test xs)) ≡ cond b (x ∷ filter test xs) (filter test xs)
    go again true e = ap (λ b. cond b (x ∷ filter test (filter test xs)) (filter test (filter test xs))) e ∙ ap (λ ys. x ∷ ys) again
    go again false e = again

module _ {C S : Type 0} (s : Settings C S) where
  -- where p is absent, all is forgotten
  pub forgotten : (p : C) (h : List (Event C S)) →
      (if History.is_present s p h then World.known_in s p (History.life s p h) else World.new_known s p)
      ≡ World.known_in s p (History.life s p h)
  unfolding History.life
  forgotten p [] =
      elim (History.is_present s p []) as
      (λ b. (if b then World.known_in s p [] else World.new_known s p) ≡ World.known_in s p [])
      [ true ↦ refl | false ↦ sym (Knowledge.known_nothing s p) ]
  forgotten p (e ∷ h) = go (History.is_present s p (e ∷ h))
    where
      go : (b : Bool) →
          (if b then World.known_in s p (if b then e ∷ History.life s p h else []) else World.new_known s p)
          ≡ World.known_in s p (if b then e ∷ History.life s p h else [])
      go true = refl
      go false = sym (Knowledge.known_nothing s p)

  -- an event on another peer
  abbrev is_quiet : C → Event C S → Bool
  is_quiet p Nothing = true
  is_quiet p (Granted q grant) = not (History.same s q p)
  is_quiet p (Connected q dialer) = not (History.same s q p)
  is_quiet p (Released q direction) = not (History.same s q p)
  is_quiet p (Blocked q t) = not (History.same s q p)
  is_quiet p _ = false

  -- it leaves p as it was
  sets_quiet : (p : C) (e : Event C S) (sets : List (SetAt C)) → is_quiet p e ≡ true → World.sets_after s e sets ≡ sets
  sets_quiet p (SetTaken taken) sets quiet = absurd (cc)
  sets_quiet p e sets quiet = refl

  status_quiet : (p : C) (e : Event C S) (status : Status) → is_quiet p e ≡ true → World.status_after s p e status ≡ status
  status_quiet p (Granted q grant) status quiet = ap (λ b. if b then Reserved else status) (not-true (History.same s q p) quiet)
  status_quiet p (Connected q dialer) status quiet = ap (λ b. if b then World.status_connected s status else status) (not-true (History.same s q p) quiet)
  status_quiet p (Released q direction) status quiet = ap (λ b. if b then Inert else status) (not-true (History.same s q p) quiet)
  status_quiet p e status quiet = refl

  held_quiet : (p : C) (e : Event C S) (held : Option Grant) → is_quiet p e ≡ true → World.held_after s p e held ≡ held
  held_quiet p (Granted q grant) held quiet = ap (λ b. if b then Some grant else held) (not-true (History.same s q p) quiet)
  held_quiet p (Released q direction) held quiet = ap (λ b. if b then None else held) (not-true (History.same s q p) quiet)
  held_quiet p e held quiet = refl

  known_quiet : (p : C) (e : Event C S) (k : Known C S) → is_quiet p e ≡ true → World.known_after s p e k ≡ k
  known_quiet p (Connected q dialer) k quiet = ap (λ b. if b && dialer then record k { fails = 0 } else k) (not-true (History.same s q p) quiet)
  known_quiet p (Released q direction) k quiet =
      ap (λ b. if b && World.is_failed_dial s k.info direction then record k { fails = suc k.fails } else k)
      (not-true (History.same s q p) quiet)
  known_quiet p (Updated infos) k quiet = absurd (cc)
  known_quiet p e k quiet = refl

  unblock_quiet : (p : C) (e : Event C S) (moment : Option ℕ) → is_quiet p e ≡ true → World.unblock_after s p e moment ≡ moment
  unblock_quiet p (Blocked q t) moment quiet = ap (λ b. if b then Some (cap (t + s.block_duration)) else moment) (not-true (History.same s q p) quiet)
  unblock_quiet p (Expired t) moment quiet = absurd (cc)
  unblock_quiet p e moment quiet = refl

  cooldown_quiet : (p : C) (e : Event C S) (cooldown : Option Cooldown) → is_quiet p e ≡ true → World.cooldown_after s p e cooldown ≡ cooldown
  cooldown_quiet p (Granted q grant) cooldown quiet = ap (λ b. if b then Some (History.moments_of s grant) else cooldown) (not-true (History.same s q p) quiet)
  cooldown_quiet p (Forgot t) cooldown quiet = absurd (cc)
  cooldown_quiet p e cooldown quiet = refl

  quiet_world : (p : C) (e : Event C S) (h : List (Event C S)) → is_quiet p e ≡ true → SameFor p (World.world_with s e (World.world_at s h)) (World.world_at s h)
  quiet_world p e h quiet = record {
    sets = sets_quiet p e (History.retained_sets s h) quiet;
    peer = λ i. record {
      status = status_quiet p e (History.status_at s p h) quiet i;
      known = ((λ j. if History.is_present_with s p (sets_quiet p e (History.retained_sets s h) quiet j) (status_quiet p e (History.status_at s p h) quiet j)
          then known_quiet p e (World.known_in s p (History.life s p h)) quiet j else World.new_known s p) ∙ forgotten p h) i;
    };
    unblock = unblock_quiet p e (History.unblock_at s p h) quiet;
    cooldown = cooldown_quiet p e (History.cooldown_at s p h) quiet;
    held = held_quiet p e (History.held_at s p h) quiet;
  }

  -- a question leaves each peer as it was
  pub asked_alike : (p : C) (question : Question C) (cs : List (Call C S)) →
      SameFor p (World.world_at s (World.past s (Ask question ∷ cs))) (World.world_at s (World.past s cs))
  asked_alike p question cs =
      subst (λ u. SameFor p u (World.world_at s (World.past s cs)))
      (sym (Law.world_step s Nothing (World.past s cs))) (quiet_world p Nothing (World.past s cs) refl)

  another_quiet : (p : C) (c : Call C S) (e : Event C S) → Makes c e → is_on_another s p c ≡ true → is_quiet p e ≡ true
  another_quiet p c Nothing m other = refl
  another_quiet p c (SetTaken taken) m other = absurd (let no = sym (ap (is_on_another s p) m.3) ∙ other in cc)
  another_quiet p c (Granted q grant) (inl m) other = sym (ap (is_on_another s p) m) ∙ other
  another_quiet p c (Granted q grant) (inr m) other = sym (ap (is_on_another s p) m) ∙ other
  another_quiet p c e m other = sym (ap (is_on_another s p) m) ∙ other

  -- WHAT CONCERNS p

  after_alike : (p : C) (e : Event C S) (w v : World C S) → SameFor p w v → SameFor p (World.world_with s e w) (World.world_with s e v)
  after_alike p e w v alike = record {
    sets = ap (World.sets_after s e) alike.sets;
    peer = λ i. World.peer_after s p e (World.sets_after s e (alike.sets i)) (alike.peer i);
    unblock = ap (World.unblock_after s p e) alike.unblock;
    cooldown = ap (World.cooldown_after s p e) alike.cooldown;
    held = ap (World.held_after s p e) alike.held;
  }

  at_key : (p q : C) (w v : World C S) → History.IsExact s → not (History.same s q p) ≡ false → SameFor p w v → SameFor q w v
  at_key p q w v exact e alike = subst (λ x. SameFor x w v) (sym (exact q p (not-false (History.same s q p) e))) alike

  pub does_alike : (p : C) (w v : World C S) (c : Call C S) → History.IsExact s → SameFor p w v →
      is_on_another s p c ≡ false → World.event_in s w.sets w c ≡ World.event_in s v.sets v c
  does_alike p w v (Track index primary secondary) exact alike mine = ap (λ sets. World.track_event s sets index primary secondary) alike.sets
  does_alike p w v (Dial q t draw) exact alike mine =
      let a = at_key p q w v exact mine alike in
      λ i. World.dial_event s q t draw (World.may_dial s q t (a.sets i) (a.peer i) (a.unblock i) (a.cooldown i)) (World.address_with s q (a.peer i).known.info)
  does_alike p w v (Listen q t draw) exact alike mine =
      let a = at_key p q w v exact mine alike in
      λ i. World.listen_event s q t draw (World.may_listen s q t (a.sets i) (a.peer i) (a.unblock i) (a.cooldown i))
  does_alike p w v (Connect q dialer) exact alike mine =
      let a = at_key p q w v exact mine alike in λ i. World.connect_event s q dialer (a.peer i).status
  does_alike p w v (Release q) exact alike mine =
      let a = at_key p q w v exact mine alike in λ i. World.release_event s q (a.held i)
  does_alike p w v (Block q t) exact alike mine =
      let a = at_key p q w v exact mine alike in λ i. if not (History.is_own s q) && not (is_blocked (a.unblock i) t) then Blocked q t else Nothing
  does_alike p w v c exact alike mine = refl

  -- an update changes p by p's infos alone
  pub narrowed_alike : (p : C) (w : World C S) (c : Call C S) → SameFor p (World.step s w c) (World.step s w (narrowed s p c))
  narrowed_alike p w (Update infos) = record {
    sets = refl;
    peer = ap (λ is. record (World.peer_after s p (Updated infos) w.sets (w.peer p)) {
      known = if History.is_present_with s p w.sets (w.peer p).status
          then (if History.is_own s p then (w.peer p).known else World.known_with_infos s (w.peer p).known is)
          else World.new_known s p;
    })
        (sym (filter_again (λ i. History.same s i.public_key p) infos));
    unblock = refl;
    cooldown = refl;
    held = refl;
  }
  narrowed_alike p w c = record { sets = refl; peer = refl; unblock = refl; cooldown = refl; held = refl }

  pub joined : (p : C) (u v w : World C S) → SameFor p u v → SameFor p v w → SameFor p u w
  joined p u v w a b =
      record {
        sets = a.sets ∙ b.sets;
        peer = a.peer ∙ b.peer;
        unblock = a.unblock ∙ b.unblock;
        cooldown =
            a.cooldown ∙ b.cooldown;
        held = a.held ∙ b.held;
      }

  -- a call that isn't on another peer, with other infos left out
  step_alike : (p : C) (w v : World C S) (c : Call C S) → History.IsExact s → SameFor p w v →
      is_on_another s p c ≡ false → SameFor p (World.step s w c) (World.step s v (narrowed s p c))
  step_alike p w v c exact alike mine =
      joined p (World.step s w c) (World.step s v c) (World.step s v (narrowed s p c))
      (subst (λ e. SameFor p (World.step s w c) (World.world_with s e v)) (does_alike p w v c exact alike mine)
      (after_alike p (World.event_in s w.sets w c) w v alike))
      (narrowed_alike p v c)

  -- a call on another peer leaves p as it was
  pub another_alike : 1 ≤ s.max_sets → (p : C) (c : Call C S) (cs : List (Call C S)) → is_on_another s p c ≡ true →
      SameFor p (World.world_at s (World.past s (c ∷ cs))) (World.world_at s (World.past s cs))
  another_alike some p c cs e =
      let w = World.world_at s (World.past s cs) in
      subst (λ u. SameFor p u w) (sym (Law.recomputed_is_one_step s some cs c))
      (quiet_world p (World.event_in s w.sets w c) (World.past s cs) (another_quiet p c (World.event_in s w.sets w c) (makes s w.sets w c) e))

  isolated_step : 1 ≤ s.max_sets → History.IsExact s → (p : C) (c : Call C S) (cs ds : List (Call C S)) →
      SameFor p (World.world_at s (World.past s cs)) (World.world_at s (World.past s ds)) →
      (b : Bool) → is_on_another s p c ≡ b →
      SameFor p (World.world_at s (World.past s (c ∷ cs)))
      (World.world_at s (World.past s (if b then ds else narrowed s p c ∷ ds)))
  isolated_step some exact p c cs ds alike true e =
      joined p (World.world_at s (World.past s (c ∷ cs))) (World.world_at s (World.past s cs)) (World.world_at s (World.past s ds))
      (another_alike some p c cs e) alike
  isolated_step some exact p c cs ds alike false e =
      subst (λ u. SameFor p u (World.world_at s (World.past s (narrowed s p c ∷ ds)))) (sym (Law.recomputed_is_one_step s some cs c))
      (subst (λ v. SameFor p (World.step s (World.world_at s (World.past s cs)) c) v) (sym (Law.recomputed_is_one_step s some ds (narrowed s p c)))
      (step_alike p (World.world_at s (World.past s cs)) (World.world_at s (World.past s ds)) c exact alike e))

  pub isolated : 1 ≤ s.max_sets → History.IsExact s → (p : C) (cs : List (Call C S)) →
      SameFor p (World.world_at s (World.past s cs)) (World.world_at s (World.past s (left_for s p cs)))
  isolated some exact p [] = record { sets = refl; peer = refl; unblock = refl; cooldown = refl; held = refl }
  isolated some exact p (c ∷ cs) = isolated_step some exact p c cs (left_for s p cs) (isolated some exact p cs) (is_on_another s p c) refl

  pub answers_alike : History.IsExact s → (p : C) (w v : World C S) → SameFor p w v → AnswersAlike s p w v
  answers_alike exact p w v a = record {
    present = λ i. History.is_present_with s p (a.sets i) (a.peer i).status;
    status = λ i. if History.is_present_with s p (a.sets i) (a.peer i).status then Some (a.peer i).status else None;
    info = λ i. Answers.sharable_of s p (a.peer i);
    ingress = λ i. if History.is_present_with s p (a.sets i) (a.peer i).status then Answers.ingress_with s p (a.peer i) else None;
    wanted = λ i. Answers.wants s p (a.peer i);
    blocked = λ t i. is_blocked (a.unblock i) t;
    cooled = λ t i. Answers.is_cooled_by t (a.cooldown i);
    eligible = λ t i. History.is_entitled s p (a.sets i) && not (is_blocked (a.unblock i) t);
    acceptable = λ t i. History.is_entitled s p (a.sets i) && not (is_blocked (a.unblock i) t) && is_inert (a.peer i).status;
    may_listen = λ t i. World.may_listen s p t (a.sets i) (a.peer i) (a.unblock i) (a.cooldown i);
    dialable = λ t i. Answers.is_dialable_with s p t (a.sets i) (a.peer i) (a.unblock i) (a.cooldown i);
    query = λ t i. if is_blocked (a.unblock i) t then (if History.is_present_with s p (a.sets i) (a.peer i).status then a.unblock i else None)
        else if World.is_target s p (a.sets i) (a.peer i) && nat_lt t (dialable_from (a.cooldown i)) then Some (dialable_from (a.cooldown i))
        else None;
    does = λ c mine. does_alike p w v c exact a mine;
  }

  pub torn_down_alike : (p : C) (w v w2 v2 : World C S) → SameFor p w w2 → SameFor p v v2 → Answers.is_torn_down s w v p ≡ Answers.is_torn_down s w2 v2 p
  torn_down_alike p w v w2 v2 a b = λ i. not (is_inert (a.peer i).status) && History.is_entitled s p
      (a.sets i) && not (History.is_entitled s p (b.sets i))

-- .. by the replies to a run

module _ {C S : Type 0} (s : Settings C S) where
  -- a reply is an answer elsewhere, too, where want of memory and the reply are
  moved : (e f : Event C S) (w v w2 v2 : World C S) (c : Call C S) (r : Reply C S) →
      (Run.MayWantMemory s e w c → Run.MayWantMemory s f w2 c) →
      (Run.Replies s e w v c r → Run.Replies s f w2 v2 c r) →
      Run.MayReply s e w v c r → Run.MayReply s f w2 v2 c r
  moved e f w v w2 v2 c r want more (inl (refused, may)) = inl (refused, want may)
  moved e f w v w2 v2 c r want more (inr a) = inr (more a)

  -- a question about a peer that stands alike
  question_alike : (e : Event C S) (q : C) (w v w2 v2 : World C S) (question : Question C) (r : Reply C S) →
      SameFor q w v → is_on s q (Ask question) ≡ true → History.IsExact s →
      Run.MayReply s e w w2 (Ask question) r → Run.MayReply s e v v2 (Ask question) r
  question_alike e q w v w2 v2 (StatusOf p) r alike mine exact a =
      let b = subst (λ x. SameFor x w v) (sym (exact p q mine)) alike in
      moved e e w w2 v v2 (Ask (StatusOf p)) r (λ x. x) (λ x. x ∙ ap reply.Status ((answers_alike s exact p w v b).status)) a
  question_alike e q w v w2 v2 (InfoOf p) r alike mine exact a =
      let b = subst (λ x. SameFor x w v) (sym (exact p q mine)) alike in
      let info = (answers_alike s exact p w v b).info in
      moved e e w w2 v v2 (Ask (InfoOf p)) r (λ x. subst (λ o. IsSomeAnd o (λ i. takes_none i.ingress ≡ false)) info x) (λ x. x ∙ ap reply.Info info) a
  question_alike e q w v w2 v2 (IngressOf p) r alike mine exact a =
      let b = subst (λ x. SameFor x w v) (sym (exact p q mine)) alike in
      let ingress = (answers_alike s exact p w v b).ingress in
      moved e e w w2 v v2 (Ask (IngressOf p)) r (λ x. subst (λ o. IsSomeAnd o (λ a. takes_none a ≡ false)) ingress x) (λ x. x ∙ ap reply.Ingress ingress) a
  question_alike e q w v w2 v2 (IsEligible p t) r alike mine exact a =
      let b = subst (λ x. SameFor x w v) (sym (exact p q mine)) alike in
      moved e e w w2 v v2 (Ask (IsEligible p t)) r (λ x. x) (λ x. x ∙ ap reply.Eligible ((answers_alike s exact p w v b).eligible t)) a
  question_alike e q w v w2 v2 (IsAcceptable p t) r alike mine exact a =
      let b = subst (λ x. SameFor x w v) (sym (exact p q mine)) alike in
      moved e e w w2 v v2 (Ask (IsAcceptable p t)) r (λ x. x) (λ x. x ∙ ap reply.Acceptable ((answers_alike s exact p w v b).acceptable t)) a
  question_alike e q w v w2 v2 (MayListen p t) r alike mine exact a =
      let b = subst (λ x. SameFor x w v) (sym (exact p q mine)) alike in
      moved e e w w2 v v2 (Ask (MayListen p t)) r (λ x. x) (λ x. x ∙ ap reply.MayListen ((answers_alike s exact p w v b).may_listen t)) a
  question_alike e q w v w2 v2 question r alike mine exact a = absurd (cc)

  -- a call on a single peer that stands alike, where it does the same
  on_alike : (e f : Event C S) (p : C) (w v w2 v2 : World C S) (c : Call C S) (r : Reply C S) → SameFor p w v → is_on s p c ≡ true → History.IsExact s → e ≡ f →
      Run.MayReply s e w w2 c r → Run.MayReply s f v v2 c r
  on_alike e f p w v w2 v2 (Dial q t draw) r alike mine exact same a =
      moved e f w w2 v v2 (Dial q t draw) r (λ x. ap was_granted (sym same) ∙ x) (λ x. x ∙ ap (λ y. reply.Dial (was_granted y)) same) a
  on_alike e f p w v w2 v2 (Listen q t draw) r alike mine exact same a =
      moved e f w w2 v v2 (Listen q t draw) r (λ x. ap was_granted (sym same) ∙ x) (λ x. x ∙ ap (λ y. reply.Listen (was_granted y)) same) a
  on_alike e f p w v w2 v2 (Connect q dialer) r alike mine exact same a =
      let b = subst (λ x. SameFor x w v) (sym (exact q p mine)) alike in
      moved e f w w2 v v2 (Connect q dialer) r (λ x. x)
      (λ x. x ∙ ap (λ peer. if is_reserved peer.status then reply.Connect else reply.NotReserved)
      b.peer) a
  on_alike e f p w v w2 v2 (Release q) r alike mine exact same a =
      let b = subst (λ x. SameFor x w v) (sym (exact q p mine)) alike in
      moved e f w w2 v v2 (Release q) r (λ x. x) (λ x. x ∙ ap (λ peer. if not (is_inert peer.status) then reply.Release else reply.NotHeld) b.peer) a
  on_alike e f p w v w2 v2 (Block q t) r alike mine exact same a =
      moved e f w w2 v v2 (Block q t) r (λ x. ap was_blocked (sym same) ∙ x) (λ x. x ∙ ap (λ y. reply.Block (was_blocked y)) same) a
  on_alike e f p w v w2 v2 (Ask question) r alike mine exact same a =
      moved e f v v2 v v2 (Ask question) r (λ x. x) (λ x. x) (question_alike e p w v w2 v2 question r alike mine exact a)
  on_alike e f p w v w2 v2 c r alike mine exact same a = absurd (cc)

  -- such a call is on no other peer
  on_it : (p : C) (c : Call C S) → is_on s p c ≡ true → is_on_another s p c ≡ false
  on_it p c mine = go (single_peer_of c) mine
    where
      go : (o : Option C) → option_map_or (λ q. History.same s q p) o false ≡ true →
          option_map_or (λ q. not (History.same s q p)) o false ≡ false
      go (Some q) mine = ap not mine
      go None mine = absurd (cc)

  module _ (least : 1 ≤ s.max_sets) (exact : History.IsExact s) where
    does_alone : (p : C) (before : List (Call C S)) (c : Call C S) → is_on_another s p c ≡ false →
        Run.event_of s before c ≡ Run.event_of s (left_for s p before) c
    does_alone p before c mine =
        let w = Run.world_after s before in
        let v = Run.world_after s (left_for s p before) in
        Law.does_same s before c least ∙ does_alike s p w v c exact
        (isolated s least exact p before) mine ∙ sym (Law.does_same s (left_for s p before) c least)

    answer_alone : (p : C) (before : List (Call C S)) (c : Call C S) (r : Reply C S) → is_on s p c ≡ true →
        Run.IsAnswer s before c r → Run.IsAnswer s (left_for s p before) c r
    answer_alone p before c r mine a =
        on_alike (Run.event_of s before c) (Run.event_of s (left_for s p before) c) p (Run.world_after s before) (Run.world_after s (left_for s p before))
        (Run.world_after s (c ∷ before)) (Run.world_after s (c ∷ left_for s p before)) c r (isolated s least exact p before) mine exact
        (does_alone p before c (on_it p c mine)) a

    -- whom a track lists, by what it did
    torn_by : (p : C) (e : Event C S) (w v : World C S) (torn : Option (List C)) → Run.Replies s e w v (Track 0 [] []) (reply.Track torn) →
        option_map (λ peers. History.is_in s p peers) torn ≡ (if was_taken e then Some (is_torn_down s w v p) else None)
    torn_by p e w v None a = ap (λ b. if b then Some (is_torn_down s w v p) else None) (sym a)
    torn_by p e w v (Some peers) a = ap Some (a.1.members p) ∙ ap (λ b. if b then Some (is_torn_down s w v p) else None) (sym a.0)

    track_alone : (p : C) (before : List (Call C S)) (index : ℕ) (primary secondary : List C) →
        torn_after s p before (Track index primary secondary) ≡ torn_after s p (left_for s p before) (Track index primary secondary)
    track_alone p before index primary secondary = λ i.
        if was_taken (does_alone p before (Track index primary secondary) refl i)
        then Some (torn_down_alike s p _ _ _ _ (isolated s least exact p before)
        (isolated s least exact p (Track index primary secondary ∷ before)) i)
        else None

    torn_alone : (p : C) (before : List (Call C S)) (index : ℕ) (primary secondary : List C)
        (torn : Option (List C)) →
        Run.IsAnswer s before (Track index primary secondary) (reply.Track torn) →
        option_map (λ peers. History.is_in s p peers) torn
        ≡ torn_after s p (left_for s p before) (Track index primary secondary)
    torn_alone p before index primary secondary torn a =
        torn_by p (Run.event_of s before (Track index primary secondary)) (Run.world_after s before)
        (Run.world_after s (Track index primary secondary ∷ before)) torn
        (answered s before (Track index primary secondary) (reply.Track torn) refl a)
        ∙ track_alone p before index primary secondary

    dialable_alone : (p : C) (before : List (Call C S)) (t : ℕ) (answer : Dialable C S) →
        Run.IsAnswer s before (Ask (DialableAt t)) (reply.Dialable answer) →
        History.is_in s p answer.peers.items
        ≡ is_dialable s (Run.world_after s (left_for s p before)) t p
    dialable_alone p before t answer a =
        (answered s before (Ask (DialableAt t)) (reply.Dialable answer) refl a).0.members p
        ∙ (answers_alike s exact p _ _ (isolated s least exact p before)).dialable t

    listed_alone : (p : C) (before : List (Call C S)) (c : Call C S) (r : Reply C S) →
        Run.IsAnswer s before c r → IsListedAfter s p (left_for s p before) c r
    listed_alone p before c r a = record {
      torn = λ index primary secondary torn called told.
          torn_alone p before index primary secondary torn
          (subst (λ c. Run.IsAnswer s before c (reply.Track torn)) called
          (subst (Run.IsAnswer s before c) told a))
          ∙ ap (torn_after s p (left_for s p before)) (sym called);
      dialable = λ t answer called told.
          dialable_alone p before t answer
          (subst (λ c. Run.IsAnswer s before c (reply.Dialable answer)) called
          (subst (Run.IsAnswer s before c) told a));
    }

    keep_alone_from : (p : C) (before cs : List (Call C S)) (rs : List (Reply C S)) → Run.AreAnswers s before cs rs → KeepAlone s p before cs rs
    keep_alone_from p before (c ∷ cs) (r ∷ rs) answers = (
      record {
        stands = isolated s least exact p before;
        answer = λ mine. answer_alone p before c r mine answers.0;
        listed = listed_alone p before c r answers.0;
      },
      keep_alone_from p (Run.next s before c r) cs rs answers.1,
    )
    keep_alone_from p before cs rs answers = isolated s least exact p before

    -- by the replies to a whole run, p stands alone, and is answered and listed so
    pub keep_alone : (p : C) (cs : List (Call C S)) (rs : List (Reply C S)) → Run.AreAnswers s [] cs rs → KeepAlone s p [] cs rs
    keep_alone p cs rs answers = keep_alone_from p [] cs rs answers
