-- Connections that are entitled no more, by the replies to a run: a track has listed each.
use Rattle.std.proofs.Common.{◌≡◌, ℕ, Bool, true, false, not, ◌&&◌, ◌||◌, List, [], ◌∷◌, Option}
use Rattle.std.proofs.Common.{Some, None, inl, inr, refl, sym, ◌∙◌, ap, subst}
use Rattle.std.specs.Prelude.{◌⊎◌, if◌then◌else◌, is_some}
use Rattle.std.specs.List.{list_any}
use Rattle.std.specs.Option.{option_map}
use Rattle.std.proofs.lemmas.Bool.{and_parts, and_from, not-true, or_left, or_right, or_from}
use Rattle.std.proofs.lemmas.Bool.{false_from_ne_true}
use Rattle.p2p_discovery.specs.declared.types.ingress.Ingress.{Ingress}
use Rattle.p2p_tracker.specs.declared.record.Status.{Status}
use Rattle.p2p_tracker.specs.declared.record.Status.TheVariants.{Inert, Reserved, Active}
use Rattle.p2p_tracker.specs.Status.{is_inert}
use Rattle.p2p_tracker.specs.Calls.{Settings, Call, SetAt, Grant, Event}
use Rattle.p2p_tracker.specs.Calls.Call.{Track, Dial, Listen, Release}
use Rattle.p2p_tracker.specs.Calls.Event.{SetTaken, Granted, Connected, Released}
use Rattle.p2p_tracker.specs.History
use Rattle.p2p_tracker.specs.History.{last_with}
use Rattle.p2p_tracker.specs.World
use Rattle.p2p_tracker.specs.World.{World}
use Rattle.p2p_tracker.specs.Answers.{was_taken, is_torn_down}
use Rattle.p2p_directory.specs.Run
use Rattle.p2p_directory.specs.declared.run.commands.Reply.{Reply}
use Rattle.p2p_directory.specs.declared.run.commands.Reply.TheVariants as reply
use Rattle.p2p_directory.specs.Laws.GrantRuns.{granted_by}
use Rattle.p2p_directory.specs.Laws.Lingering.{is_lingering, is_listed_by, is_released_by}
use Rattle.p2p_directory.specs.Laws.Lingering.{is_listed_after}
use Rattle.p2p_directory.specs.Laws.Lingering.{IsListedWhereLingering, KeepListed}
use Rattle.p2p_directory.proofs.Definitions.Law
use Rattle.p2p_directory.proofs.Definitions.Steps.{Makes, makes, at_call}
use Rattle.p2p_directory.proofs.LawsOfRuns.GrantRuns.{answered, told_after, made, if_accepted}
use Rattle.p2p_directory.proofs.LawsOfRuns.GrantRuns.{moment_by}

module _ {C S : Type 0} (s : Settings C S) where
  -- GRANTS ARE OF ENTITLED PEERS

  abbrev IsEntitled : World C S → Event C S → Type 0
  IsEntitled w (Granted q grant) = History.is_entitled s q w.sets ≡ true
  IsEntitled w _ = Unit {0}

  dial_entitled : (sets : List (SetAt C)) (w : World C S) (q : C) (t draw : ℕ) →
      IsEntitled w (World.event_in s sets w (Dial q t draw))
  dial_entitled sets w q t draw =
      go (World.may_dial s q t w.sets (w.peer q) (w.unblock q) (w.cooldown q))
      (World.address_with s q (w.peer q).known.info) refl
    where
      go : (granted : Bool) (address : Option Ingress) →
          World.may_dial s q t w.sets (w.peer q) (w.unblock q) (w.cooldown q) ≡ granted →
          IsEntitled w (World.dial_event s q t draw granted address)
      go granted None e = tt
      go false (Some a) e = tt
      go true (Some a) e =
          let target = (and_parts _ _ (and_parts _ _ e).0).0 in
          (and_parts _ _ (and_parts _ _ (and_parts _ _ target).0).0).0

  listen_entitled : (sets : List (SetAt C)) (w : World C S) (q : C) (t draw : ℕ) →
      IsEntitled w (World.event_in s sets w (Listen q t draw))
  listen_entitled sets w q t draw =
      go (World.may_listen s q t w.sets (w.peer q) (w.unblock q) (w.cooldown q)) refl
    where
      go : (granted : Bool) →
          World.may_listen s q t w.sets (w.peer q) (w.unblock q) (w.cooldown q) ≡ granted →
          IsEntitled w (World.listen_event s q t draw granted)
      go true e = (and_parts _ _ (and_parts _ _ (and_parts _ _ e).0).0).0
      go false e = tt

  entitled : (sets : List (SetAt C)) (w : World C S) (c : Call C S) →
      IsEntitled w (World.event_in s sets w c)
  entitled sets w c = go (World.event_in s sets w c) refl (makes s sets w c)
    where
      go : (e : Event C S) → World.event_in s sets w c ≡ e → Makes c e → IsEntitled w e
      go (Granted q grant) is (inl m) =
          at_call s sets w (λ c e. IsEntitled w e) m is (dial_entitled sets w q grant.t grant.draw)
      go (Granted q grant) is (inr m) =
          at_call s sets w (λ c e. IsEntitled w e) m is
          (listen_entitled sets w q grant.t grant.draw)
      go e is m = tt

  -- WHAT AN EVENT MAKES OF A PEER THAT LINGERS

  -- a peer that lingers after an event was neither granted nor released by it, and did so before
  -- or was torn down
  abbrev LingersBy : C → World C S → Event C S → Type 0
  LingersBy p w e =
      (is_some (History.grant_by s p e) ≡ false) × (History.is_release s p e ≡ false)
      × ((is_lingering s w p ≡ true)
      ⊎ ((was_taken e ≡ true) × (is_torn_down s w (World.world_with s e w) p ≡ true)))

  -- connecting makes nothing inert, nor the other way round
  connected_inert : (b : Bool) (status : Status) →
      is_inert (if b then World.status_connected s status else status) ≡ is_inert status
  connected_inert false status = refl
  connected_inert true Inert = refl
  connected_inert true Reserved = refl
  connected_inert true Active = refl

  lingers_by : History.IsExact s → (p : C) (w : World C S) (e : Event C S) → IsEntitled w e →
      is_lingering s (World.world_with s e w) p ≡ true → LingersBy p w e
  lingers_by exact p w (SetTaken taken) may lingers =
      (refl, refl, go (History.is_entitled s p w.sets) refl)
    where
      parts : (not (is_inert (w.peer p).status) ≡ true)
          × (not (History.is_entitled s p (World.sets_after s (SetTaken taken) w.sets)) ≡ true)
      parts = and_parts (not (is_inert (w.peer p).status))
          (not (History.is_entitled s p (World.sets_after s (SetTaken taken) w.sets))) lingers

      go : (b : Bool) → History.is_entitled s p w.sets ≡ b →
          (is_lingering s w p ≡ true)
          ⊎ ((true ≡ true) × (is_torn_down s w (World.world_with s (SetTaken taken) w) p ≡ true))
      go true e = inr (refl, and_from _ _ (and_from _ _ parts.0 e) parts.1)
      go false e = inl (and_from _ _ parts.0 (ap not e))
  lingers_by exact p w (Granted q grant) may lingers = go (History.same s q p) refl lingers
    where
      go : (b : Bool) → History.same s q p ≡ b →
          (not (is_inert (if b then Reserved else (w.peer p).status)) && not
          (History.is_entitled s p w.sets)) ≡ true →
          (is_some (if b then Some grant else None) ≡ false) × (false ≡ false)
          × ((is_lingering s w p ≡ true)
          ⊎ ((false ≡ true)
          × (is_torn_down s w (World.world_with s (Granted q grant) w) p ≡ true)))
      go true same lingers = absurd (
          let is : History.is_entitled s p w.sets ≡ true =
          subst (λ x. History.is_entitled s x w.sets ≡ true) (exact q p same) may in
          let isnt : History.is_entitled s p w.sets ≡ false =
          not-true (History.is_entitled s p w.sets)
          (and_parts true (not (History.is_entitled s p w.sets)) lingers).1 in
          let e = sym is ∙ isnt in cc)
      go false same lingers = (refl, refl, inl lingers)
  lingers_by exact p w (Released q direction) may lingers = go (History.same s q p) lingers
    where
      go : (b : Bool) →
          (not (is_inert (if b then Inert else (w.peer p).status)) && not
          (History.is_entitled s p w.sets)) ≡ true →
          (false ≡ false) × (b ≡ false)
          × ((is_lingering s w p ≡ true)
          ⊎ ((false ≡ true)
          × (is_torn_down s w (World.world_with s (Released q direction) w) p ≡ true)))
      go true lingers = absurd cc
      go false lingers = (refl, refl, inl lingers)
  lingers_by exact p w (Connected q dialer) may lingers =
      let same = connected_inert (History.same s q p) (w.peer p).status in (
        refl,
        refl,
        inl (ap (λ b. not b && not (History.is_entitled s p w.sets)) (sym same)
            ∙ lingers),
      )
  lingers_by exact p w e may lingers = (refl, refl, inl lingers)

  -- WHAT A REPLY TELLS

  -- where no grant is held, the peer is inert
  held_or_inert : (p : C) (h : List (Event C S)) → History.held_at s p h ≡ None →
      is_inert (History.status_at s p h) ≡ true
  held_or_inert p h none = go (last_with (History.grant_by s p) h) none
    where
      go : (found : Option (Grant × List (Event C S))) →
          History.unless_ended (λ grant. History.is_release s p) found ≡ None →
          is_inert (History.status_since s p found) ≡ true
      go None e = refl
      go (Some found) e = ended (list_any (History.is_release s p) found.1) e
        where
          ended : (b : Bool) → (if b then None else Some found.0) ≡ None →
              is_inert (if b then Inert else if list_any (History.is_connect s p) found.1
              then Active else Reserved) ≡ true
          ended true e = refl
          ended false e = absurd cc

  -- a reply that p was released is one to a call that did so
  abbrev IsReleased : C → List (Call C S) → Call C S → Reply C S → Type 0
  IsReleased p before c r = is_released_by s p c r ≡ true → (Run.was_made r ≡ true)
      × (History.is_release s p (Run.event_of s before c) ≡ true)

  released_told : (p : C) (before : List (Call C S)) (c : Call C S) (r : Reply C S) →
      Run.IsAnswer s before c r → IsReleased p before c r
  released_told p before (Release q) reply.Release (inl (refused, may)) = absurd may
  released_told p before (Release q) reply.Release (inr a) =
      λ same. (refl, go (History.held_at s q (World.past s before)) refl same)
    where
      done : (b : Bool) →
          ◌≡◌ {A = Reply C S} reply.Release (if b then reply.Release else reply.NotHeld) → b ≡ true
      done true e = refl
      done false e = absurd cc

      go : (held : Option Grant) → History.held_at s q (World.past s before) ≡ held →
          History.same s q p ≡ true →
          History.is_release s p (World.release_event s q held) ≡ true
      go None e same = absurd (
          let inert = held_or_inert q (World.past s before) e in
          let other = not-true _ (done _ a) in
          let both = sym inert ∙ other in cc)
      go (Some grant) e same = same
  released_told p before c r a = λ said. absurd cc

  -- the reply to a track that is taken lists whom it tears down
  listed_told : (p : C) (before : List (Call C S)) (c : Call C S) (r : Reply C S) (e : Event C S)
      (v : World C S) →
      Makes c e → Run.Replies s e (Run.world_after s before) v c r → was_taken e ≡ true →
      is_torn_down s (Run.world_after s before) v p ≡ true → is_listed_by s p c r ≡ true
  listed_told p before c r (SetTaken taken) v (index, primary, secondary, m) a was torn =
      subst (λ c. is_listed_by s p c r ≡ true) (sym m)
      (go r (subst (λ c. Run.Replies s (SetTaken taken) w v c r) m a))
    where
      w : World C S
      w = Run.world_after s before

      go : (r : Reply C S) → Run.Replies s (SetTaken taken) w v (Track index primary secondary) r →
          is_listed_by s p (Track index primary secondary) r ≡ true
      go (reply.Track None) a = absurd cc
      go (reply.Track (Some ps)) a = a.1.members p ∙ torn
      go r a = absurd a
  listed_told p before c r e v m a was torn = absurd cc

  -- EACH POINT OF A RUN

  step : History.IsExact s →
      (p : C) (listed : Bool) (before : List (Call C S)) (c : Call C S) (r : Reply C S) →
      Run.IsAnswer s before c r →
      IsListedWhereLingering s p listed before →
      IsListedWhereLingering s p (is_listed_after s p c r listed) (Run.next s before c r)
  step exact p listed before c r a was = go (Run.was_made r) refl
    where
      w : World C S
      w = Run.world_after s before

      does : Event C S
      does = Run.event_of s before c

      still : is_some (granted_by s p c r) ≡ false → is_released_by s p c r ≡ false →
          (listed || is_listed_by s p c r) ≡ true →
          is_listed_after s p c r listed ≡ true
      still granted released is =
          ap (λ b. if b then false else listed || is_listed_by s p c r)
          (or_from _ _ granted released) ∙ is

      not_released : (Run.was_made r ≡ true → History.is_release s p does ≡ true → ⊥) →
          is_released_by s p c r ≡ false
      not_released never =
          false_from_ne_true _
          (λ said. let is = released_told p before c r a said in never is.0 is.1)

      none_granted : (accepted : Bool) →
          (accepted ≡ true → is_some (History.grant_by s p does) ≡ false) →
          is_some (if_accepted s accepted (moment_by s p does)) ≡ false
      none_granted false none = refl
      none_granted true none = mapped (History.grant_by s p does) (none refl)
        where
          mapped : (o : Option Grant) → is_some o ≡ false → is_some (option_map (made s) o) ≡ false
          mapped None f = refl
          mapped (Some grant) f = absurd cc

      not_granted : (Run.was_made r ≡ true → is_some (History.grant_by s p does) ≡ false) →
          is_some (granted_by s p c r) ≡ false
      not_granted none =
          ap is_some (told_after s p before c r a).granted ∙ none_granted (Run.was_made r) none

      either : LingersBy p w does → Run.was_made r ≡ true → is_listed_after s p c r listed ≡ true
      either (granted, released, inl lingers) accepted =
          still (not_granted (λ m. granted))
          (not_released (λ m is. let x = sym is ∙ released in absurd cc))
          (or_left _ _ (was lingers))
      either (granted, released, inr (taken, torn)) accepted =
          still (not_granted (λ m. granted))
          (not_released (λ m is. let x = sym is ∙ released in absurd cc))
          (or_right _ _ (listed_told p before c r does (Run.world_after s (c ∷ before))
          (makes s (History.taken_sets s (World.past s before)) w c)
          (answered s before c r accepted a) taken
          (subst (λ v. is_torn_down s w v p ≡ true)
          (sym (Law.world_step s does (World.past s before))) torn)))

      go : (accepted : Bool) → Run.was_made r ≡ accepted →
          is_lingering s (Run.world_after s (if accepted then c ∷ before else before)) p ≡ true →
          is_listed_after s p c r listed ≡ true
      go true accepted lingers =
          either (lingers_by exact p w does
          (entitled (History.taken_sets s (World.past s before)) w c)
          (subst (λ v. is_lingering s v p ≡ true) (Law.world_step s does (World.past s before))
          lingers)) accepted
      go false refused lingers =
          still (not_granted (λ m. let x = sym m ∙ refused in absurd cc))
          (not_released (λ m is. let x = sym m ∙ refused in absurd cc))
          (or_left _ _ (was lingers))

  keep_listed_from : History.IsExact s →
      (p : C) (listed : Bool) (before cs : List (Call C S)) (rs : List (Reply C S)) →
      IsListedWhereLingering s p listed before → Run.AreAnswers s before cs rs →
      KeepListed s p listed before cs rs
  keep_listed_from exact p listed before (c ∷ cs) (r ∷ rs) was answers = (
    was,
    keep_listed_from exact p (is_listed_after s p c r listed) (Run.next s before c r) cs rs
        (step exact p listed before c r answers.0 was) answers.1,
  )
  keep_listed_from exact p listed before cs rs was answers = was

  -- by the replies to a whole run, a track has listed each connection that is entitled no more
  pub keep_listed : History.IsExact s → (p : C) (cs : List (Call C S)) (rs : List (Reply C S)) →
      Run.AreAnswers s [] cs rs → KeepListed s p false [] cs rs
  keep_listed exact p cs rs answers =
      keep_listed_from exact p false [] cs rs (λ lingers. absurd cc) answers
