-- What exchanges brought is held as long as its peers stay present.
use Rattle.std.proofs.Common.{◌≡◌, ℕ, Bool, true, false, List, [], ◌∷◌, ◌++◌, Option, Some, None}
use Rattle.std.proofs.Common.{inl, inr, refl, sym, ◌∙◌, ap, subst, is_some, arith, ◌&&◌, ◌||◌}
use Rattle.std.specs.Prelude.{◌⊎◌, IfSome, filter_map, not, if◌then◌else◌}
use Rattle.std.specs.List.{AllByRecursion, cons_option, list_any}
use Rattle.std.specs.Cmp.{IsTotalOrder}
use Rattle.std.specs.Duration.{as_nanos}
use Rattle.std.specs.declared.cmp.Ordering.{Ordering}
use Rattle.std.specs.declared.cmp.Ordering.TheVariants.{Equal}
use Rattle.std.specs.declared.time.Duration.{Duration}
use Rattle.p2p_discovery.specs.declared.discovery.Info.{Info}
use Rattle.p2p_directory.specs.declared.node.exchanged.Exchanged.{Exchanged}
use Rattle.p2p_directory.specs.declared.node.exchanged.Exchanged.TheVariants as exchanged
use Rattle.p2p_tracker.specs.Calls.{SetAt}
use Rattle.p2p_directory.specs.declared.node.network.commands.NetworkCommand.TheVariants as command_of
use Rattle.p2p_directory.specs.declared.node.network.commands.NetworkReply.TheVariants as reply_of
use Rattle.p2p_tracker.specs.Calls.Call.{Update}
use Rattle.p2p_tracker.specs.History
use Rattle.p2p_tracker.specs.World.{Peer}
use Rattle.p2p_directory.specs.Run.{world_after}
use Rattle.p2p_directory.specs.Nodes.{calls_with, Made}
use Rattle.p2p_tracker.specs.Answers.{wants, wants_with, is_present_in, sharable_info}
use Rattle.p2p_tracker.specs.Moments.{epoch_millis}
use Rattle.p2p_directory.specs.Received.{Wire}
use Rattle.p2p_directory.specs.Exchange.{infos_applied}
use Rattle.p2p_directory.specs.Network.{Done, world_at_node, calls_at}
use Rattle.p2p_directory.specs.Laws.Gossip.{IsSince, IsUpToDate, unless_above}
use Rattle.p2p_directory.specs.Laws.Network.{AreMade, MayBring, info_to_bring, infos_to_bring}
use Rattle.p2p_directory.specs.Laws.Network.{StaysPresent, HoldsSince, Reach, Acquaint}
use Rattle.p2p_directory.proofs.Definitions.Law
use Rattle.p2p_directory.proofs.LawsOfGossip.Wanted
use Rattle.p2p_directory.proofs.LawsOfGossip.Lists.{all_weaker, Member, at_member}
use Rattle.p2p_directory.proofs.LawsOfGossip.Exchanges as one_exchange
use Rattle.p2p_directory.proofs.LawsOfNetworks.Provenance
use Rattle.p2p_directory.proofs.LawsOfNetworks.Newer
use Rattle.p2p_directory.proofs.LawsOfNetworks.Exchanges

-- what holds of each that a map keeps
all_kept : {A B : Type 0} (P : B → Type 0) (f : A → Option B) (xs : List A) →
    AllByRecursion P (filter_map f xs) → AllByRecursion (λ x. IfSome (f x) P) xs
all_kept P f [] h = tt
all_kept {A} {B} P f (x ∷ xs) h = go (all_kept P f xs) (f x) h
  where
    go : (AllByRecursion P (filter_map f xs) → AllByRecursion (λ y. IfSome (f y) P) xs) →
        (o : Option B) → AllByRecursion P (cons_option o (filter_map f xs)) →
        IfSome o P × AllByRecursion (λ y. IfSome (f y) P) xs
    go rest None k = (tt, rest k)
    go rest (Some b) k = (k.0, rest k.1)

if_weaker : {B : Type 0} (P Q : B → Type 0) (o : Option B) → ((b : B) → o ≡ Some b → P b → Q b) →
    IfSome o P → IfSome o Q
if_weaker P Q None h k = tt
if_weaker P Q (Some b) h k = h b refl k

-- what holds of what there is
at_some : {B : Type 0} (P : B → Type 0) (o : Option B) (b : B) → o ≡ Some b → IfSome o P → P b
at_some P o b e h = subst (λ p. IfSome p P) e h

-- which member passes
found_named : {A : Type 0} (test : A → Bool) (xs : List A) → list_any test xs ≡ true →
    (x : A) × Member xs x × (test x ≡ true)
found_named test [] e = absurd (cc)
found_named {A} test (x ∷ xs) e = go (test x) refl e (found_named test xs)
  where
    go : (b : Bool) → test x ≡ b → (b || list_any test xs) ≡ true →
        (list_any test xs ≡ true → (y : A) × Member xs y × (test y ≡ true)) →
        (y : A) × Member (x ∷ xs) y × (test y ≡ true)
    go true f g rest = (x, inl refl, f)
    go false f g rest = let found = rest g in (found.0, inr found.1, found.2)

module _ {C S : Type 0} where
  since_none : (n : ℕ) (o : Option (Info C S)) → IsSince n o → IsSince 0 o
  since_none n None h = absurd h
  since_none n (Some i) h = omega arith

  -- where an exchange applied infos, memory wasn't refused
  was_applied : (r : Exchanged C S) (infos : List (Info C S)) → is_some (infos_applied r) ≡ true →
      (infos_applied r ≡ Some infos) ⊎ (r ≡ exchanged.Memory) → infos_applied r ≡ Some infos
  was_applied r infos some (inl e) = e
  was_applied r infos some (inr e) =
      absurd (let f : false ≡ true = sym (ap (λ z. is_some (infos_applied z)) e) ∙ some in cc)

module _ {C S : Type 0} (wire : Wire C S) (size : ℕ) (node : ℕ → Made C S)
    (cmp : C → C → Ordering) (total : IsTotalOrder cmp)
    (exact_keys : (q p : C) → cmp q p ≡ Equal → q ≡ p)
    (made : AreMade wire size node cmp) where
  module _ (done : Done C S) (asker replier place : ℕ) (asker_now replier_now : Duration)
      (r : Exchanged C S) (x : SetAt C)
      (answered : Provenance.AreAnswered wire size node
      (Exchanges.after wire size node done asker replier place asker_now replier_now r))
      (may : MayBring wire size node done asker replier place asker_now replier_now x)
      (some : is_some (infos_applied r) ≡ true) where
    abbrev once : Done C S
    once = Exchanges.after wire size node done asker replier place asker_now replier_now r

    two : Exchanges.AreTwo wire size node asker replier
    two = Exchanges.are_two wire size node asker replier answered.0.0

    abbrev infos : List (Info C S)
    infos = infos_to_bring wire size node done asker replier (as_nanos replier_now) x

    known : AllByRecursion (IsUpToDate (world_at_node wire size node once asker)) infos
    known =
        let brings = Exchanges.brings_wanted wire size node cmp total exact_keys made done
        asker replier two place asker_now replier_now x may r answered.0 in
        brings.known (was_applied r infos some brings.answer)

    -- what is brought for a peer is of its key
    key : (p : C) (i : Info C S) →
        info_to_bring wire size node done asker replier (as_nanos replier_now) p ≡ Some i →
        i.public_key ≡ p
    key p i e = one_exchange.brought_key wire (node asker) (node replier) (as_nanos asker_now)
        (as_nanos replier_now) (calls_at wire size node done replier)
        (Exchanges.exact wire size node cmp total exact_keys made replier two.replies)
        (Exchanges.signed wire size node cmp total exact_keys made done asker replier two
        place asker_now replier_now x may)
        (made asker two.asks).me may.fits.moments (world_at_node wire size node done asker) p i e

    -- later
    pub held : (later : Done C S) →
        AllByRecursion (λ p.
        IfSome (info_to_bring wire size node done asker replier (as_nanos replier_now) p) (λ i.
        StaysPresent wire size node asker p later once →
        HoldsSince wire size node asker p i.timestamp (later ++ once))) x.primary
    held later = all_weaker _ _ (λ p h.
        if_weaker (IsUpToDate (world_at_node wire size node once asker)) _
        (info_to_bring wire size node done asker replier (as_nanos replier_now) p)
        (λ i e up stays.
        Newer.newer wire size node asker (made asker two.asks).sets p i.timestamp later once
        (subst (λ q. IsSince i.timestamp
        ((world_at_node wire size node once asker).peer q).known.info) (key p i e) up)
        stays) h)
        x.primary
        (all_kept (IsUpToDate (world_at_node wire size node once asker))
        (info_to_bring wire size node done asker replier (as_nanos replier_now)) x.primary known)

    -- WHETHER WANTED OR NOT

    -- where an info isn't wanted of another peer, one is held
    held_unless_wanted : (p : C) → History.is_own (node asker).directory p ≡ false →
        wants (node asker).directory p ((world_at_node wire size node done asker).peer p) ≡ false →
        HoldsSince wire size node asker p 0 done
    held_unless_wanted p other e = go peer.known.info
        (subst (λ b. (not b && wants_with (node asker).directory peer.status peer.known.fails
        peer.known.info) ≡ false) other e)
      where
        peer : Peer C S
        peer = (world_at_node wire size node done asker).peer p

        go : (o : Option (Info C S)) →
            wants_with (node asker).directory peer.status peer.known.fails o ≡ false → IsSince 0 o
        go None f = absurd (cc)
        go (Some i) f = omega arith

    -- the peers of the list are present, also directly after the exchange
    present_once : (p : C) → History.is_in (node asker).directory p x.primary ≡ true →
        is_present_in (node asker).directory (world_at_node wire size node once asker) p ≡ true
    present_once p m = subst (λ cs. is_present_in (node asker).directory
        (world_after (node asker).directory cs) p ≡ true) (sym calls_once)
        (subst (λ w. is_present_in (node asker).directory w p ≡ true)
        (sym (Law.recomputed_is_one_step (node asker).directory (made asker two.asks).sets
        (calls_at wire size node done asker) (Update infos))) before)
      where
        applied : infos_applied r ≡ Some infos
        applied = was_applied r infos some (Exchanges.brings_wanted wire size node cmp total
            exact_keys made done asker replier two place asker_now replier_now x may r
            answered.0).answer

        calls_once : calls_at wire size node once asker
            ≡ Update infos ∷ calls_at wire size node done asker
        calls_once = Exchanges.calls_after wire size node asker replier place asker_now replier_now
            done r
            ∙ ap (λ o. calls_with o (calls_at wire size node done asker)) applied

        before : is_present_in (node asker).directory (world_at_node wire size node done asker) p
            ≡ true
        before = Wanted.named_at_place (node asker).directory
            (world_at_node wire size node done asker) place x p may.one.at_place m

    pub acquainted : (later : Done C S) (p : C) (i : Info C S) →
        History.is_in (node asker).directory p x.primary ≡ true →
        History.is_own (node asker).directory p ≡ false →
        unless_above (epoch_millis (as_nanos replier_now))
        (sharable_info (node replier).directory (world_at_node wire size node done replier) p)
        ≡ Some i →
        StaysPresent wire size node asker p later once →
        HoldsSince wire size node asker p 0 (later ++ once)
    acquainted later p i m other shared stays =
        Newer.newer wire size node asker (made asker two.asks).sets p 0 later once
        (go (wants (node asker).directory p
        ((world_at_node wire size node done asker).peer p)) refl) stays
      where
        named : (q : C) × Member x.primary q × (History.same (node asker).directory q p ≡ true)
        named = found_named (λ q. History.same (node asker).directory q p) x.primary m

        exactly : named.0 ≡ p
        exactly = Exchanges.exact wire size node cmp total exact_keys made asker two.asks named.0 p
            named.2

        go : (b : Bool) → wants (node asker).directory p
            ((world_at_node wire size node done asker).peer p) ≡ b →
            HoldsSince wire size node asker p 0 once
        go false e = Newer.newer wire size node asker (made asker two.asks).sets p 0
            ((command_of.Exchange asker replier place asker_now replier_now, reply_of.Exchange r)
            ∷ []) done (held_unless_wanted p other e) (present_once p m, tt)
        go true e =
            let brought : info_to_bring wire size node done asker replier (as_nanos replier_now) p
            ≡ Some i = ap (λ b. if b then unless_above (epoch_millis (as_nanos replier_now))
            (sharable_info (node replier).directory (world_at_node wire size node done replier) p)
            else None) e ∙ shared in
            since_none (i.timestamp)
            ((world_at_node wire size node once asker).peer p).known.info
            (at_some (λ j. StaysPresent wire size node asker p [] once →
            HoldsSince wire size node asker p j.timestamp once)
            (info_to_bring wire size node done asker replier (as_nanos replier_now) p) i brought
            (at_member (λ q.
            IfSome (info_to_bring wire size node done asker replier (as_nanos replier_now) q) (λ j.
            StaysPresent wire size node asker q [] once →
            HoldsSince wire size node asker q j.timestamp once)) x.primary (held []) p
            (subst (Member x.primary) exactly named.1)) tt)

  pub acquaint : (all : Done C S) → Provenance.AreAnswered wire size node all →
      Acquaint wire size node all
  acquaint all answered later done asker replier place asker_now replier_now r x is may some p i m
      other shared stays =
      let once = Exchanges.after wire size node done asker replier place asker_now replier_now r in
      subst (HoldsSince wire size node asker p 0) (sym is)
      (acquainted done asker replier place asker_now replier_now r x
      (Provenance.answered_before wire size node later once
      (subst (Provenance.AreAnswered wire size node) is answered)) may some later p i m other shared
      stays)

  pub reach : (all : Done C S) → Provenance.AreAnswered wire size node all →
      Reach wire size node all
  reach all answered later done asker replier place asker_now replier_now r x is may some =
      let once = Exchanges.after wire size node done asker replier place asker_now replier_now r in
      subst (λ end. AllByRecursion (λ p.
      IfSome (info_to_bring wire size node done asker replier (as_nanos replier_now) p) (λ i.
      StaysPresent wire size node asker p later once →
      HoldsSince wire size node asker p i.timestamp end)) x.primary) (sym is)
      (held done asker replier place asker_now replier_now r x
      (Provenance.answered_before wire size node later once
      (subst (Provenance.AreAnswered wire size node) is answered)) may some later)
