-- What each call does to a directory leads to the world with it, and what is held then are the grants of that world.
use Rattle.std.proofs.Common.{◌≡◌, ℕ, ◌≤◌, ◌+◌, Bool, true, false, not, ◌||◌, List, [], ◌∷◌, Option, Some, None, refl, sym, ◌∙◌, ap, subst}
use Rattle.std.specs.Prelude.{if◌then◌else◌, is_some, IfSome, IfNone}
use Rattle.std.specs.Option.{option_map}
use Rattle.std.specs.BTreeMap.{is_at}
use Rattle.std.specs.declared.cmp.Ordering.TheVariants.{Equal}
use Rattle.std.proofs.lemmas.Map.Views.{tells_apart}
use Rattle.p2p_discovery.specs.declared.discovery.Info.{Info}
use Rattle.p2p_discovery.specs.declared.types.ingress.Ingress.{Ingress}
use Rattle.p2p_tracker.specs.declared.directory.Metadata.{Metadata}
use Rattle.p2p_tracker.specs.declared.directory.Metadata.TheVariants as metadata
use Rattle.p2p_tracker.specs.declared.record.Status.{Status}
use Rattle.p2p_tracker.specs.declared.record.Status.TheVariants.{Inert, Reserved, Active}
use Rattle.p2p_tracker.specs.Calls.{Settings, Call, Event, Direction, Grant}
use Rattle.p2p_tracker.specs.Calls.Call.{Track, Dial, Listen, Connect, Release, Update, Block, UnblockExpired, ForgetCooled}
use Rattle.p2p_tracker.specs.Calls.Direction.{Listener, Dialer}
use Rattle.p2p_tracker.specs.Calls.Event.{Nothing, SetTaken, Granted, Connected, Released, Updated, Blocked, Expired, Forgot}
use Rattle.p2p_tracker.specs.History
use Rattle.p2p_tracker.specs.Status.{is_inert, is_reserved}
use Rattle.p2p_tracker.specs.World
use Rattle.p2p_tracker.specs.World.{World, event_in, world_with, new_known, status_connected}
use Rattle.p2p_tracker.specs.Moments.{cap}
use Rattle.p2p_tracker.specs.Answers.{is_present_in, was_taken, was_blocked, granted_direction, IsTrackAnswer}
use Rattle.p2p_tracker.specs.PeerSets.{set_of, latest_index, is_above}
use Rattle.p2p_tracker.specs.Seen.{RecordView, DirectoryView, record_of}
use Rattle.p2p_tracker.specs.Directory.{is_busy, first_record, kept_after_release, may_block, may_listen_in, may_dial_in, ingress_in, ChangesRecord, Reserves, Connects, Updates, TakesSet, AreTornDown, BlocksUntil, EndsBlocks, ForgetsCooled}
use Rattle.p2p_directory.specs.Held.{AreHeld, AddsHeld, DropsHeld}
use Rattle.p2p_directory.specs.Refinement.{Refines, config_of, record_in, metadata_of}
use Rattle.p2p_directory.specs.Run.{world_after, event_of, Holds}
use Rattle.p2p_directory.specs.Laws.Effects.{HoldsNone, DirectoryStandsAt, granted_after}
use Rattle.p2p_directory.proofs.Definitions.Targets.{dialled_is_target, dialled_may_listen}
use Rattle.p2p_directory.proofs.Definitions.Law
use Rattle.p2p_directory.proofs.LawsOfRuns.Forgotten
use Rattle.p2p_directory.proofs.Refinement.CallsRefine
use Rattle.p2p_directory.proofs.Refinement.DialsRefine
use Rattle.p2p_directory.proofs.Refinement.BlocksRefine
use Rattle.p2p_directory.proofs.Refinement.KnowledgeRefines

module _ {C S : Type 0} (s : Settings C S) where
  -- a reservation is held exactly of the peers that are reserved or connected
  pub are_held : (w : World C S) (d : DirectoryView C S) (h : C → Option (Metadata C S)) → Refines s w d → Holds s w h → AreHeld s.cmp d h
  are_held w d h stands holds q =
      holds.peers q ∙ sym (ap is_busy (stands.records q) ∙ go (History.is_persistent s q || History.is_named s q w.sets) (w.peer q).status refl)
    where
      shown : Status → RecordView C S
      shown status = record (record_in s w q) { status = status }

      go : (wanted : Bool) (status : Status) → (w.peer q).status ≡ status →
          is_busy (if wanted || not (is_inert status) then Some (shown status) else None) ≡ not (is_inert status)
      go true Inert e = refl
      go true Reserved e = refl
      go true Active e = refl
      go false Inert e = refl
      go false Reserved e = refl
      go false Active e = refl

  -- before any call nothing is held
  pub stands_at_start : (d : DirectoryView C S) (h : C → Option (Metadata C S)) → d.config ≡ config_of s → d.sets ≡ [] → d.blocks ≡ [] →
      d.cooldowns ≡ [] → ((q : C) → record_of s.cmp d q ≡ first_record s.cmp s.bootstrappers s.own q) → HoldsNone h → DirectoryStandsAt s [] d h
  stands_at_start d h config sets blocks cooldowns records none = record {
    refines = CallsRefine.tie_start s d config sets blocks cooldowns records;
    holds = record { peers = λ q. ap is_some (none q); metadata = none };
  }

  -- what does nothing changes nothing, where all of an absent peer is forgotten
  nothing_changes : (w : World C S) → ((p : C) → is_present_in s w p ≡ false → (w.peer p).known ≡ new_known s p) → world_with s Nothing w ≡ w
  nothing_changes w forgotten = λ i. record {
    state = record {
      sets = w.sets;
      peer = λ p. record { status = (w.peer p).status; known = go p (is_present_in s w p) refl i };
      unblock = w.unblock;
      cooldown = w.cooldown;
    };
    held = w.held;
  }
    where
      go : (p : C) (b : Bool) → is_present_in s w p ≡ b → (if b then (w.peer p).known else new_known s p) ≡ (w.peer p).known
      go p true e = refl
      go p false e = sym (forgotten p e)

  module _ (some : 1 ≤ s.max_sets) (exact : (p q : C) → s.cmp p q ≡ Equal → p ≡ q) where
    -- what a further call does, held against the retained sets
    pub event : (cs : List (Call C S)) (c : Call C S) (e : Event C S) → event_in s (world_after s cs).sets (world_after s cs) c ≡ e → event_of s cs c ≡ e
    event cs c e is = Law.does_same s cs c some ∙ is

    -- the world with it
    world_of_call : (cs : List (Call C S)) (c : Call C S) (e : Event C S) →
        event_in s (world_after s cs).sets (world_after s cs) c ≡ e →
        world_after s (c ∷ cs) ≡ world_with s e (world_after s cs)
    world_of_call cs c e is = Law.recomputed_is_one_step s some cs c ∙ ap (λ e. world_with s e (world_after s cs)) is

    stands_with : (cs : List (Call C S)) (c : Call C S) (e : Event C S) (d : DirectoryView C S) (h : C → Option (Metadata C S)) →
        event_in s (world_after s cs).sets (world_after s cs) c ≡ e → Refines s (world_with s e (world_after s cs)) d →
        Holds s (world_with s e (world_after s cs)) h → DirectoryStandsAt s (c ∷ cs) d h
    stands_with cs c e d h is stands holds =
        let back = sym (world_of_call cs c e is) in
        record { refines = subst (λ w. Refines s w d) back stands; holds = subst (λ w. Holds s w h) back holds }

    -- WHAT IS HELD

    one_key : (p q : C) → is_at (s.cmp p) q ≡ true → p ≡ q
    one_key p q e = tells_apart exact p q e

    -- where the same is held
    pub same_held : (w : World C S) (h h2 : C → Option (Metadata C S)) → ((q : C) → h2 q ≡ h q) → Holds s w h → Holds s w h2
    same_held w h h2 held holds = record { peers = λ q. ap is_some (held q) ∙ holds.peers q; metadata = λ q. held q ∙ holds.metadata q }

    granted_holds : (w : World C S) (p : C) (grant : Grant) (h h2 : C → Option (Metadata C S)) →
        AddsHeld s.cmp h h2 p (Some (metadata_of p grant.direction)) → Holds s w h → Holds s (world_with s (Granted p grant) w) h2
    granted_holds w p grant h h2 held holds = record {
      peers = λ q. ap is_some (held q) ∙ go q (is_at (s.cmp p) q);
      metadata = λ q. held q ∙ same q (is_at (s.cmp p) q) refl;
    }
      where
        go : (q : C) (b : Bool) → is_some (if b then Some (metadata_of p grant.direction) else h q) ≡ not (is_inert (if b then Reserved else (w.peer q).status))
        go q true = refl
        go q false = holds.peers q

        same : (q : C) (b : Bool) → is_at (s.cmp p) q ≡ b →
            (if b then Some (metadata_of p grant.direction) else h q) ≡ option_map (λ g. metadata_of q g.direction) (if b then Some grant else w.held q)
        same q true e = ap (λ k. Some (metadata_of k grant.direction)) (one_key p q e)
        same q false e = holds.metadata q

    released_holds : (w : World C S) (p : C) (direction : Direction) (h h2 : C → Option (Metadata C S)) →
        DropsHeld s.cmp h h2 p → Holds s w h → Holds s (world_with s (Released p direction) w) h2
    released_holds w p direction h h2 held holds = record {
      peers = λ q. ap is_some (held q) ∙ go q (is_at (s.cmp p) q);
      metadata = λ q. held q ∙ same q (is_at (s.cmp p) q);
    }
      where
        go : (q : C) (b : Bool) → is_some (if b then None else h q) ≡ not (is_inert (if b then Inert else (w.peer q).status))
        go q true = refl
        go q false = holds.peers q

        same : (q : C) (b : Bool) → (if b then None else h q) ≡ option_map (λ g. metadata_of q g.direction) (if b then None else w.held q)
        same q true = refl
        same q false = holds.metadata q

    connected_holds : (w : World C S) (p : C) (dialer : Bool) (h : C → Option (Metadata C S)) → Holds s w h → Holds s (world_with s (Connected p dialer) w) h
    connected_holds w p dialer h holds = record {
      peers = λ q. holds.peers q ∙ go (is_at (s.cmp p) q) (w.peer q).status;
      metadata = holds.metadata;
    }
      where
        go : (same : Bool) (status : Status) → not (is_inert status) ≡ not (is_inert (if same then status_connected s status else status))
        go true Inert = refl
        go true Reserved = refl
        go true Active = refl
        go false status = refl

    -- ONE CALL: d and h before it, d2 and h2 after it
    module _ (cs : List (Call C S)) (d d2 : DirectoryView C S) (h : C → Option (Metadata C S)) (at : DirectoryStandsAt s cs d h) where
      abbrev w : World C S
      w = world_after s cs

      -- a call that does nothing
      pub idle : (c : Call C S) (h2 : C → Option (Metadata C S)) → event_in s w.sets w c ≡ Nothing → d2 ≡ d → ((q : C) → h2 q ≡ h q) →
          DirectoryStandsAt s (c ∷ cs) d2 h2
      idle c h2 is directory held =
          let back = sym (world_of_call cs c Nothing is ∙ nothing_changes w (Forgotten.absent s cs)) in
          record {
            refines = subst (λ w. Refines s w d2) back (subst (Refines s w) (sym directory) at.refines);
            holds = subst (λ w. Holds s w h2) back (same_held w h h2 held at.holds);
          }

      -- TRACK

      pub track_is : (index : ℕ) (primary secondary : List C) (b : Bool) → is_above index (latest_index d.sets) ≡ b →
          event_in s w.sets w (Track index primary secondary) ≡ (if b then SetTaken (set_of s.cmp index primary secondary) else Nothing)
      track_is index primary secondary b e =
          ap (λ b. if b then SetTaken (set_of s.cmp index primary secondary) else Nothing)
          (sym (CallsRefine.tie_above s cs d index at.refines) ∙ e)

      untaken : (index : ℕ) (primary secondary : List C) → is_above index (latest_index d.sets) ≡ false → d2 ≡ d →
          let c = Track index primary secondary in
          DirectoryStandsAt s (c ∷ cs) d2 h × IsTrackAnswer s (event_of s cs c) w (world_after s (c ∷ cs)) None
      untaken index primary secondary old directory =
          let c : Call C S = Track index primary secondary in
          let is = track_is index primary secondary false old in
          (idle c h is directory (λ q. refl), ap was_taken (event cs c Nothing is))

      taken : (index : ℕ) (primary secondary torn : List C) → is_above index (latest_index d.sets) ≡ true →
          TakesSet s.cmp d d2 (set_of s.cmp index primary secondary) → AreTornDown s.cmp d d2 torn →
          let c = Track index primary secondary in
          DirectoryStandsAt s (c ∷ cs) d2 h × IsTrackAnswer s (event_of s cs c) w (world_after s (c ∷ cs)) (Some torn)
      taken index primary secondary torn next change down =
          let c : Call C S = Track index primary secondary in
          let set = set_of s.cmp index primary secondary in
          let is = track_is index primary secondary true next in
          let left : DirectoryStandsAt s (c ∷ cs) d2 h = stands_with cs c (SetTaken set) d2 h is
          (CallsRefine.tie_track s w d d2 set at.refines (Forgotten.absent s cs) change)
          (record { peers = at.holds.peers; metadata = at.holds.metadata })
          in
          (left, (ap was_taken (event cs c (SetTaken set) is), CallsRefine.tie_torn s w (world_after s (c ∷ cs)) d d2 torn at.refines left.refines down))

      -- whether the set was taken or not
      pub tracks : (index : ℕ) (primary secondary : List C) (torn : Option (List C)) →
          is_some torn ≡ is_above index (latest_index d.sets) → IfNone torn (d2 ≡ d) →
          IfSome torn (λ _. TakesSet s.cmp d d2 (set_of s.cmp index primary secondary)) →
          IfSome torn (AreTornDown s.cmp d d2) → let c = Track index primary secondary in
          DirectoryStandsAt s (c ∷ cs) d2 h × IsTrackAnswer s (event_of s cs c) w (world_after s (c ∷ cs)) torn
      tracks index primary secondary None answer same change down = untaken index primary secondary (sym answer) same
      tracks index primary secondary (Some torn) answer same change down = taken index primary secondary torn (sym answer) change down

      -- GRANTS

      -- in either direction: what is granted is held
      granted : (c : Call C S) (p : C) (now draw : ℕ) (direction : Direction) (h2 : C → Option (Metadata C S)) →
          World.may_listen s p now w.sets (w.peer p) (w.unblock p) (w.cooldown p) ≡ true →
          event_in s w.sets w c ≡ Granted p (record { t = now; draw = draw; direction = direction }) →
          Reserves s.cmp d d2 p now draw → AddsHeld s.cmp h h2 p (Some (metadata_of p direction)) → DirectoryStandsAt s (c ∷ cs) d2 h2
      granted c p now draw direction h2 may is change held =
          let grant : Grant = record { t = now; draw = draw; direction = direction } in
          stands_with cs c (Granted p grant) d2 h2 is
          (CallsRefine.tie_grant s exact w d d2 p now draw direction at.refines may change)
          (granted_holds w p grant h h2 held at.holds)

      pub listen_is : (p : C) (now draw : ℕ) (b : Bool) → may_listen_in s.cmp d now p ≡ b →
          event_in s w.sets w (Listen p now draw) ≡ World.listen_event s p now draw b
      listen_is p now draw b can =
          ap (World.listen_event s p now draw) (sym (DialsRefine.tie_may_listen s w d p now at.refines) ∙ can)

      -- what an event grants p
      abbrev grants : C → Event C S → Option (Metadata C S)
      grants p e = option_map (metadata_of p) (granted_direction e)

      pub listens : (p : C) (now draw : ℕ) (m : Option (Metadata C S)) (h2 : C → Option (Metadata C S)) →
          is_some m ≡ may_listen_in s.cmp d now p → IfNone m (d2 ≡ d) → IfSome m (λ m. m ≡ metadata.Listener p) →
          IfSome m (λ _. Reserves s.cmp d d2 p now draw) → AddsHeld s.cmp h h2 p m → let c = Listen p now draw in
          DirectoryStandsAt s (c ∷ cs) d2 h2 × (m ≡ granted_after s cs p c)
      listens p now draw None h2 answer same is_for change held =
          let c : Call C S = Listen p now draw in
          let is = listen_is p now draw false (sym answer) in
          (idle c h2 is same held, ap (grants p) (sym (event cs c Nothing is)))
      listens p now draw (Some m) h2 answer same is_for change held =
          let c : Call C S = Listen p now draw in
          let grant : Grant = record { t = now; draw = draw; direction = Listener } in
          let is = listen_is p now draw true (sym answer) in
          let may = sym (DialsRefine.tie_may_listen s w d p now at.refines) ∙ sym answer in (
            granted c p now draw Listener h2 may is change (subst (λ m. AddsHeld s.cmp h h2 p (Some m)) is_for held),
            ap Some is_for ∙ ap (grants p) (sym (event cs c (Granted p grant) is)),
          )

      -- a dial: where it is granted, there is an address
      pub dial_is : (p : C) (now draw : ℕ) → may_dial_in s.cmp d now p ≡ true → (a : Ingress) × (ingress_in s.cmp d p ≡ Some a)
          × (World.may_listen s p now w.sets (w.peer p) (w.unblock p) (w.cooldown p) ≡ true)
          × (event_in s w.sets w (Dial p now draw) ≡ Granted p (record { t = now; draw = draw; direction = Dialer a }))
      dial_is p now draw can = go (World.address_with s p (w.peer p).known.info) refl
        where
          may : World.may_dial s p now w.sets (w.peer p) (w.unblock p) (w.cooldown p) ≡ true
          may = sym (DialsRefine.tie_may_dial s w d p now at.refines) ∙ can

          go : (o : Option Ingress) → World.address_with s p (w.peer p).known.info ≡ o → (a : Ingress) × (ingress_in s.cmp d p ≡ Some a)
              × (World.may_listen s p now w.sets (w.peer p) (w.unblock p) (w.cooldown p) ≡ true)
              × (event_in s w.sets w (Dial p now draw) ≡ Granted p (record { t = now; draw = draw; direction = Dialer a }))
          go None e = absurd (let f = sym (ap (World.is_valid_address s) e)
              ∙ (dialled_is_target s p w.sets (w.peer p) now (w.unblock p) (w.cooldown p) may).valid_is in cc)
          go (Some a) e = (
            a,
            DialsRefine.tie_ingress s w d p now at.refines may ∙ e,
            dialled_may_listen s p w.sets (w.peer p) now (w.unblock p) (w.cooldown p) may,
            (λ i. World.dial_event s p now draw (may i) (e i)),
          )

      -- .. that is refused
      pub no_dial_is : (p : C) (now draw : ℕ) → may_dial_in s.cmp d now p ≡ false → event_in s w.sets w (Dial p now draw) ≡ Nothing
      no_dial_is p now draw can =
          ap (λ b. World.dial_event s p now draw b address) (sym (DialsRefine.tie_may_dial s w d p now at.refines) ∙ can) ∙ nothing address
        where
          address : Option Ingress
          address = World.address_with s p (w.peer p).known.info

          nothing : (o : Option Ingress) → World.dial_event s p now draw false o ≡ Nothing
          nothing None = refl
          nothing (Some a) = refl

      pub dials : (p : C) (now draw : ℕ) (m : Option (Metadata C S)) (h2 : C → Option (Metadata C S)) →
          is_some m ≡ may_dial_in s.cmp d now p → IfNone m (d2 ≡ d) →
          IfSome m (λ m. option_map (metadata.Dialer p) (ingress_in s.cmp d p) ≡ Some m) →
          IfSome m (λ _. Reserves s.cmp d d2 p now draw) → AddsHeld s.cmp h h2 p m → let c = Dial p now draw in
          DirectoryStandsAt s (c ∷ cs) d2 h2 × (m ≡ granted_after s cs p c)
      dials p now draw None h2 answer same is_for change held =
          let c : Call C S = Dial p now draw in
          let is = no_dial_is p now draw (sym answer) in
          (idle c h2 is same held, ap (grants p) (sym (event cs c Nothing is)))
      dials p now draw (Some m) h2 answer same is_for change held =
          let c : Call C S = Dial p now draw in
          let found = dial_is p now draw (sym answer) in
          let grant : Grant = record { t = now; draw = draw; direction = Dialer found.0 } in
          let given : Some m ≡ Some (metadata_of p (Dialer found.0)) = sym is_for ∙ ap (option_map (metadata.Dialer p)) found.1 in (
            granted c p now draw (Dialer found.0) h2 found.2 found.3 change
                (λ q. held q ∙ (λ i. if is_at (s.cmp p) q then given i else h q)),
            given ∙ ap (grants p) (sym (event cs c (Granted p grant) found.3)),
          )

      -- CONNECT AND RELEASE

      only_reserved : (status : Status) → is_reserved status ≡ true → status ≡ Reserved
      only_reserved Inert e = absurd (cc)
      only_reserved Reserved e = refl
      only_reserved Active e = absurd (cc)

      pub connects : (p : C) (dialer : Bool) → is_reserved (w.peer p).status ≡ true → Connects s.cmp d d2 p dialer →
          DirectoryStandsAt s (Connect p dialer ∷ cs) d2 h
      connects p dialer may change =
          let status = only_reserved (w.peer p).status may in
          stands_with cs (Connect p dialer) (Connected p dialer) d2 h (ap (World.connect_event s p dialer) status)
          (KnowledgeRefines.tie_connect s exact w d d2 p dialer at.refines status change)
          (connected_holds w p dialer h at.holds)

      -- what is held is a grant, and its metadata that of the grant
      held_grant : (p : C) (m : Metadata C S) → h p ≡ Some m → (grant : Grant) × (w.held p ≡ Some grant) × (metadata_of p grant.direction ≡ m)
      held_grant p m found = go (w.held p) refl
        where
          go : (o : Option Grant) → w.held p ≡ o → (grant : Grant) × (w.held p ≡ Some grant) × (metadata_of p grant.direction ≡ m)
          go None e = absurd (let f = sym (ap (option_map (λ g. metadata_of p g.direction)) e) ∙ sym (at.holds.metadata p) ∙ found in cc)
          go (Some grant) e = (grant, e, (let f = sym (ap (option_map (λ g. metadata_of p g.direction)) e) ∙ sym (at.holds.metadata p) ∙ found in cc))

      pub live : (p : C) (m : Metadata C S) → h p ≡ Some m → is_inert (w.peer p).status ≡ false
      live p m found = busy (is_inert (w.peer p).status) (is_some (h p)) (at.holds.peers p) (ap is_some found)
        where
          busy : (b held : Bool) → held ≡ not b → held ≡ true → b ≡ false
          busy true held e f = absurd (cc)
          busy false held e f = refl

      pub releases : (p : C) (m : Metadata C S) (h2 : C → Option (Metadata C S)) → h p ≡ Some m →
          ChangesRecord s.cmp d d2 p (kept_after_release m) → DropsHeld s.cmp h h2 p → DirectoryStandsAt s (Release p ∷ cs) d2 h2
      releases p m h2 found change held =
          let spent = held_grant p m found in
          let direction : Direction = spent.0.direction in
          let of_grant = subst (λ m. ChangesRecord s.cmp d d2 p (kept_after_release m)) (sym spent.2) change in
          stands_with cs (Release p) (Released p direction) d2 h2 (ap (World.release_event s p) spent.1)
          (CallsRefine.tie_release s exact w d d2 p direction at.refines (live p m found) of_grant)
          (released_holds w p direction h h2 held at.holds)

      -- INFOS, BLOCKS, COOLDOWNS

      pub updates : (infos : List (Info C S)) → Updates s.cmp d d2 infos → DirectoryStandsAt s (Update infos ∷ cs) d2 h
      updates infos change =
          stands_with cs (Update infos) (Updated infos) d2 h refl (KnowledgeRefines.tie_update s w d d2 infos at.refines change)
          (record { peers = at.holds.peers; metadata = at.holds.metadata })

      pub block_is : (p : C) (now : ℕ) (b : Bool) → may_block s.cmp d now p ≡ b →
          event_in s w.sets w (Block p now) ≡ (if b then Blocked p now else Nothing)
      block_is p now b can = ap (λ b. if b then Blocked p now else Nothing) (sym (BlocksRefine.tie_may_block s w d p now at.refines) ∙ can)

      -- whether it was taken or not
      pub blocks : (p : C) (now : ℕ) (taken : Bool) → taken ≡ may_block s.cmp d now p → (taken ≡ false → d2 ≡ d) →
          (taken ≡ true → BlocksUntil s.cmp d d2 p (cap (now + d.config.block_duration))) → let c = Block p now in
          DirectoryStandsAt s (c ∷ cs) d2 h × (taken ≡ was_blocked (event_of s cs c))
      blocks p now true answer same change =
          let c : Call C S = Block p now in
          let is = block_is p now true (sym answer) in (
            stands_with cs c (Blocked p now) d2 h is (BlocksRefine.tie_block s w d d2 p now at.refines (change refl))
                (record { peers = at.holds.peers; metadata = at.holds.metadata }),
            ap was_blocked (sym (event cs c (Blocked p now) is)),
          )
      blocks p now false answer same change =
          let c : Call C S = Block p now in
          let is = block_is p now false (sym answer) in
          (idle c h is (same refl) (λ q. refl), ap was_blocked (sym (event cs c Nothing is)))

      pub unblocks : (now : ℕ) → EndsBlocks s.cmp d d2 now → DirectoryStandsAt s (UnblockExpired now ∷ cs) d2 h
      unblocks now change =
          stands_with cs (UnblockExpired now) (Expired now) d2 h refl (BlocksRefine.tie_ended s w d d2 now at.refines change)
          (record { peers = at.holds.peers; metadata = at.holds.metadata })

      pub forgets : (now : ℕ) → ForgetsCooled s.cmp d d2 now → DirectoryStandsAt s (ForgetCooled now ∷ cs) d2 h
      forgets now change =
          stands_with cs (ForgetCooled now) (Forgot now) d2 h refl (CallsRefine.tie_forget s w d d2 now at.refines change)
          (record { peers = at.holds.peers; metadata = at.holds.metadata })
