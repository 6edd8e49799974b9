-- Serving one command answers by the calls accepted before, and leads to the world with it.
use Rattle.std.proofs.Common.{◌≡◌, ℕ, ◌≤◌, ◌<◌, ◌+◌, ◌^◌, Bool, true, false, not, List}
use Rattle.std.proofs.Common.{[], ◌∷◌, Option, Some, None, inl, inr, refl, sym, ◌∙◌, ap, subst}
use Rattle.std.specs.Prelude.{if◌then◌else◌, is_some, IfSome, IfNone}
use Rattle.std.specs.Option.{option_map, option_map_or}
use Rattle.std.specs.BTreeMap.{is_at}
use Rattle.std.specs.declared.cmp.Ordering.TheVariants.{Equal}
use Rattle.std.proofs.lemmas.Map.Views.{tells_apart}
use Rattle.p2p_discovery.specs.declared.discovery.Info.{Info}
use Rattle.p2p_tracker.specs.declared.directory.Metadata.{Metadata}
use Rattle.p2p_tracker.specs.declared.directory.Metadata.TheVariants as metadata
use Rattle.p2p_directory.specs.declared.run.commands.Reply.TheVariants as reply
use Rattle.p2p_tracker.specs.Calls.{Settings, Question, Call, Event}
use Rattle.p2p_tracker.specs.Calls.Call.{Track, Dial, Listen, Connect, Release, Update, Block, UnblockExpired, ForgetCooled, Ask}
use Rattle.p2p_tracker.specs.Calls.Direction.{Listener, Dialer}
use Rattle.p2p_tracker.specs.Calls.Event.{Nothing, SetTaken, Granted, Blocked}
use Rattle.p2p_tracker.specs.Status.{is_reserved}
use Rattle.p2p_tracker.specs.World.{event_in}
use Rattle.p2p_tracker.specs.Moments.{cap}
use Rattle.p2p_tracker.specs.Answers.{was_taken, was_granted, granted_direction, was_blocked}
use Rattle.p2p_tracker.specs.Blocks.{IsAnyUntil}
use Rattle.p2p_tracker.specs.PeerSets.{set_of, latest_index, is_above}
use Rattle.p2p_tracker.specs.Directory.{first_record, kept_after_release, may_block, BlocksUntil, EndsBlocks}
use Rattle.p2p_tracker.specs.Directory.{IsNumberCooledIn, ForgetsCooled, may_listen_in, may_dial_in, ingress_in}
use Rattle.p2p_tracker.specs.Directory.{ChangesRecord, Reserves, Connects, Updates, TakesSet, AreTornDown, has_status}
use Rattle.p2p_tracker.specs.Seen.{record_of, unblock_of, RecordView}
use Rattle.p2p_directory.specs.Held.{AddsHeld, DropsHeld}
use Rattle.p2p_directory.specs.Laws.Effects.{DirectoryStandsAt}
use Rattle.p2p_directory.specs.declared.run.commands.Reply.{Reply}
use Rattle.p2p_directory.specs.Private.Serving.{ServerView, StandsAt, IsCallServedAt, IsCallSteppedAt}
use Rattle.p2p_directory.specs.Private.Slots.{held_in}
use Rattle.p2p_directory.specs.Refinement.{Refines, config_of, metadata_of}
use Rattle.p2p_directory.specs.Run.{world_after, event_of, MayWantMemory, MayWantToTell, Informs, was_made}
use Rattle.p2p_directory.proofs.Refinement.CallsRefine
use Rattle.p2p_directory.proofs.Refinement.BlocksRefine
use Rattle.p2p_directory.proofs.Refinement.KnowledgeRefines
use Rattle.p2p_directory.proofs.Reservations.Effects
pub use Rattle.p2p_directory.proofs.Reservations.Effects.{are_held}

-- what is granted is some reservation
granted_is : {C S : Type 0} (p : C) (e : Event C S) → is_some (option_map (metadata_of {C = C} {S = S} p) (granted_direction e)) ≡ was_granted e
granted_is p (Granted q grant) = refl
granted_is p _ = refl

module _ {C S : Type 0} (s : Settings C S) where
  -- where its directory stands, and what is held in its slots, a server does
  stands : (cs : List (Call C S)) (v : ServerView C S) → s.dial_fail_limit < 2 ^ 64 → DirectoryStandsAt s cs v.directory (held_in s.cmp v.slots) → StandsAt s cs v
  stands cs v fits at = record { limit_fits = fits; refines = at.refines; holds = at.holds }

  -- .. with the same slots as before
  stands_with : (cs : List (Call C S)) (v v2 : ServerView C S) → s.dial_fail_limit < 2 ^ 64 → v2.slots ≡ v.slots →
      DirectoryStandsAt s cs v2.directory (held_in s.cmp v.slots) → StandsAt s cs v2
  stands_with cs v v2 fits slots at = stands cs v2 fits (subst (λ slots. DirectoryStandsAt s cs v2.directory (held_in s.cmp slots)) (sym slots) at)

  module _ (some : 1 ≤ s.max_sets) (exact : (p q : C) → s.cmp p q ≡ Equal → p ≡ q) where
    -- where nothing changes
    pub same_views : (cs : List (Call C S)) (v v2 : ServerView C S) → v2.directory ≡ v.directory →
        ((q : C) → held_in s.cmp v2.slots q ≡ held_in s.cmp v.slots q) → StandsAt s cs v → StandsAt s cs v2
    same_views cs v v2 directory held at = record {
      limit_fits = at.limit_fits;
      refines = subst (Refines s (world_after s cs)) (sym directory) at.refines;
      holds = Effects.same_held s some exact (world_after s cs) (held_in s.cmp v.slots) (held_in s.cmp v2.slots) held at.holds;
    }

    -- a call that does nothing
    pub idle : (cs : List (Call C S)) (c : Call C S) (v v2 : ServerView C S) → event_in s (world_after s cs).sets (world_after s cs) c ≡ Nothing →
        v2.directory ≡ v.directory → v2.slots ≡ v.slots → StandsAt s cs v → StandsAt s (c ∷ cs) v2
    idle cs c v v2 is directory slots at =
        stands (c ∷ cs) v2 at.limit_fits
        (Effects.idle s some exact cs v.directory v2.directory (held_in s.cmp v.slots) (record { refines = at.refines; holds = at.holds })
        c (held_in s.cmp v2.slots) is directory (λ q. ap (λ slots. held_in s.cmp slots q) slots))

    -- ONE QUESTION: v before it and after it
    module _ (cs : List (Call C S)) (v : ServerView C S) (at : StandsAt s cs v) where
      -- its reply
      pub informed : (question : Question C) (r : Reply C S) → was_made r ≡ true → Informs s (world_after s cs) question r → IsCallServedAt s cs (Ask question) r v
      informed question r made is = record {
        answer = inr is;
        left = subst (λ made. StandsAt s (if made then Ask question ∷ cs else cs) v) (sym made) (idle cs (Ask question) v v refl refl refl at);
      }

      -- .. or memory is refused
      pub uninformed : (question : Question C) → MayWantToTell s (world_after s cs) question → IsCallServedAt s cs (Ask question) reply.OutOfMemory v
      uninformed question may = record { answer = inl (refl, may); left = at }

    -- ONE COMMAND: v before it, v2 after it
    module _ (cs : List (Call C S)) (v v2 : ServerView C S) (at : StandsAt s cs v) where
      before : DirectoryStandsAt s cs v.directory (held_in s.cmp v.slots)
      before = record { refines = at.refines; holds = at.holds }

      -- where the slots are the same, what is held is
      same_slots : v2.slots ≡ v.slots → (q : C) → held_in s.cmp v2.slots q ≡ held_in s.cmp v.slots q
      same_slots slots q = ap (λ slots. held_in s.cmp slots q) slots

      -- what a call does, by what it does in the world, held against the retained sets
      event : (c : Call C S) (e : Event C S) → event_in s (world_after s cs).sets (world_after s cs) c ≡ e → event_of s cs c ≡ e
      event c e is = Effects.event s some exact cs c e is

      -- refused memory, where the call would take effect
      refused_memory : (c : Call C S) → MayWantMemory s (event_of s cs c) (world_after s cs) c →
          v2.directory ≡ v.directory → ((q : C) → held_in s.cmp v2.slots q ≡ held_in s.cmp v.slots q) → IsCallServedAt s cs c reply.OutOfMemory v2
      refused_memory c may directory held = record {
        answer = inl (refl, may);
        left = same_views cs v v2 directory held at;
      }

      -- TRACK

      pub served_no_memory : (index : ℕ) (primary secondary : List C) →
          is_above index (latest_index v.directory.sets) ≡ true → v2.directory ≡ v.directory → v2.slots ≡ v.slots
          → IsCallServedAt s cs (Track index primary secondary) reply.OutOfMemory v2
      served_no_memory index primary secondary next directory slots =
          let is = Effects.track_is s some exact cs v.directory v2.directory (held_in s.cmp v.slots) before index primary secondary true next in
          refused_memory (Track index primary secondary)
          (ap was_taken (event (Track index primary secondary) (SetTaken (set_of s.cmp index primary secondary)) is)) directory (same_slots slots)

      -- whether the set was taken or not
      pub served_track : (index : ℕ) (primary secondary : List C) (torn : Option (List C)) →
          is_some torn ≡ is_above index (latest_index v.directory.sets) → IfNone torn (v2.directory ≡ v.directory) →
          IfSome torn (λ _. TakesSet s.cmp v.directory v2.directory (set_of s.cmp index primary secondary)) →
          IfSome torn (AreTornDown s.cmp v.directory v2.directory) → v2.slots ≡ v.slots →
          IsCallServedAt s cs (Track index primary secondary) (reply.Track torn) v2
      served_track index primary secondary torn answer same taken down slots =
          let left = Effects.tracks s some exact cs v.directory v2.directory (held_in s.cmp v.slots) before index primary secondary torn answer same taken down in
          record { answer = inr left.1; left = stands_with (Track index primary secondary ∷ cs) v v2 at.limit_fits slots left.0 }

      -- LISTEN

      -- whether it was granted or not
      served_listen : (p : C) (now draw : ℕ) (m : Option (Metadata C S)) → is_some m ≡ may_listen_in s.cmp v.directory now p →
          IfNone m (v2.directory ≡ v.directory) → IfSome m (λ m. m ≡ metadata.Listener p) →
          IfSome m (λ _. Reserves s.cmp v.directory v2.directory p now draw) → AddsHeld s.cmp (held_in s.cmp v.slots) (held_in s.cmp v2.slots) p m →
          IsCallServedAt s cs (Listen p now draw) (reply.Listen (is_some m)) v2
      served_listen p now draw m answer same is_for change held =
          let c : Call C S = Listen p now draw in
          let left = Effects.listens s some exact cs v.directory v2.directory (held_in s.cmp v.slots) before p now draw m (held_in s.cmp v2.slots) answer same is_for change held in
          record { answer = inr (ap (λ m. reply.Listen (is_some m)) left.1 ∙ ap reply.Listen (granted_is p (event_of s cs c))); left = stands (c ∷ cs) v2 at.limit_fits left.0 }

      pub served_granted : (p : C) (now draw : ℕ) → may_listen_in s.cmp v.directory now p ≡ true → Reserves s.cmp v.directory v2.directory p now draw →
          AddsHeld s.cmp (held_in s.cmp v.slots) (held_in s.cmp v2.slots) p (Some (metadata.Listener p)) →
          IsCallServedAt s cs (Listen p now draw) (reply.Listen true) v2
      served_granted p now draw can change held = served_listen p now draw (Some (metadata.Listener p)) (sym can) tt refl change held

      pub served_refused : (p : C) (now draw : ℕ) → may_listen_in s.cmp v.directory now p ≡ false →
          v2.directory ≡ v.directory → ((q : C) → held_in s.cmp v2.slots q ≡ held_in s.cmp v.slots q) →
          IsCallServedAt s cs (Listen p now draw) (reply.Listen false) v2
      served_refused p now draw can directory held = served_listen p now draw None (sym can) directory tt tt held

      -- .. that is refused memory
      pub served_no_listen : (p : C) (now draw : ℕ) → may_listen_in s.cmp v.directory now p ≡ true →
          v2.directory ≡ v.directory → ((q : C) → held_in s.cmp v2.slots q ≡ held_in s.cmp v.slots q) → IsCallServedAt s cs (Listen p now draw) reply.OutOfMemory v2
      served_no_listen p now draw can directory held =
          let is = Effects.listen_is s some exact cs v.directory v2.directory (held_in s.cmp v.slots) before p now draw true can in
          refused_memory (Listen p now draw)
          (ap was_granted (event (Listen p now draw) (Granted p (record { t = now; draw = draw; direction = Listener })) is)) directory held

      -- DIAL

      -- whether it was granted or not
      served_dial : (p : C) (now draw : ℕ) (m : Option (Metadata C S)) → is_some m ≡ may_dial_in s.cmp v.directory now p →
          IfNone m (v2.directory ≡ v.directory) → IfSome m (λ m. option_map (metadata.Dialer p) (ingress_in s.cmp v.directory p) ≡ Some m) →
          IfSome m (λ _. Reserves s.cmp v.directory v2.directory p now draw) → AddsHeld s.cmp (held_in s.cmp v.slots) (held_in s.cmp v2.slots) p m →
          IsCallServedAt s cs (Dial p now draw) (reply.Dial (is_some m)) v2
      served_dial p now draw m answer same is_for change held =
          let c : Call C S = Dial p now draw in
          let left = Effects.dials s some exact cs v.directory v2.directory (held_in s.cmp v.slots) before p now draw m (held_in s.cmp v2.slots) answer same is_for change held in
          record { answer = inr (ap (λ m. reply.Dial (is_some m)) left.1 ∙ ap reply.Dial (granted_is p (event_of s cs c))); left = stands (c ∷ cs) v2 at.limit_fits left.0 }

      pub served_dialled : (p : C) (now draw : ℕ) (m : Metadata C S) → may_dial_in s.cmp v.directory now p ≡ true →
          option_map (metadata.Dialer p) (ingress_in s.cmp v.directory p) ≡ Some m →
          Reserves s.cmp v.directory v2.directory p now draw →
          AddsHeld s.cmp (held_in s.cmp v.slots) (held_in s.cmp v2.slots) p (Some m) →
          IsCallServedAt s cs (Dial p now draw) (reply.Dial true) v2
      served_dialled p now draw m can is_for change held = served_dial p now draw (Some m) (sym can) tt is_for change held

      pub served_not_dialled : (p : C) (now draw : ℕ) → may_dial_in s.cmp v.directory now p ≡ false →
          v2.directory ≡ v.directory → ((q : C) → held_in s.cmp v2.slots q ≡ held_in s.cmp v.slots q) → IsCallServedAt s cs (Dial p now draw) (reply.Dial false) v2
      served_not_dialled p now draw can directory held = served_dial p now draw None (sym can) directory tt tt held

      -- .. refused memory
      pub served_no_dial : (p : C) (now draw : ℕ) → may_dial_in s.cmp v.directory now p ≡ true →
          v2.directory ≡ v.directory → ((q : C) → held_in s.cmp v2.slots q ≡ held_in s.cmp v.slots q) → IsCallServedAt s cs (Dial p now draw) reply.OutOfMemory v2
      served_no_dial p now draw can directory held =
          let found = Effects.dial_is s some exact cs v.directory v2.directory (held_in s.cmp v.slots) before p now draw can in
          refused_memory (Dial p now draw)
          (ap was_granted (event (Dial p now draw) (Granted p (record { t = now; draw = draw; direction = Dialer found.0 })) found.3)) directory held

      -- BLOCKS

      -- whether it was taken or not
      pub served_block : (p : C) (now : ℕ) (taken : Bool) → taken ≡ may_block s.cmp v.directory now p → (taken ≡ false → v2.directory ≡ v.directory) →
          (taken ≡ true →
          BlocksUntil s.cmp v.directory v2.directory p (cap (now + v.directory.config.block_duration))) →
          v2.slots ≡ v.slots → IsCallServedAt s cs (Block p now) (reply.Block taken) v2
      served_block p now taken answer same change slots =
          let left = Effects.blocks s some exact cs v.directory v2.directory (held_in s.cmp v.slots) before p now taken answer same change in
          record { answer = inr (ap reply.Block left.1); left = stands_with (Block p now ∷ cs) v v2 at.limit_fits slots left.0 }

      -- .. refused memory
      pub served_no_block : (p : C) (now : ℕ) → may_block s.cmp v.directory now p ≡ true →
          v2.directory ≡ v.directory → v2.slots ≡ v.slots → IsCallServedAt s cs (Block p now) reply.OutOfMemory v2
      served_no_block p now can directory slots =
          let is = Effects.block_is s some exact cs v.directory v2.directory (held_in s.cmp v.slots) before p now true can in
          refused_memory (Block p now) (ap was_blocked (event (Block p now) (Blocked p now) is)) directory (same_slots slots)

      pub served_expired : (now : ℕ) (any : Bool) → IsAnyUntil (unblock_of s.cmp v.directory) now any →
          EndsBlocks s.cmp v.directory v2.directory now → v2.slots ≡ v.slots →
          IsCallServedAt s cs (UnblockExpired now) (reply.UnblockExpired any) v2
      served_expired now any told change slots = record {
        answer = inr (BlocksRefine.tie_any_expired s (world_after s cs) v.directory now any at.refines told);
        left =
            stands_with (UnblockExpired now ∷ cs) v v2 at.limit_fits slots
            (Effects.unblocks s some exact cs v.directory v2.directory (held_in s.cmp v.slots) before now change);
      }

      -- COOLDOWNS

      pub served_forgotten : (now count : ℕ) → IsNumberCooledIn s.cmp v.directory now count →
          ForgetsCooled s.cmp v.directory v2.directory now → v2.slots ≡ v.slots →
          IsCallServedAt s cs (ForgetCooled now) (reply.ForgetCooled count) v2
      served_forgotten now count told change slots = record {
        answer = inr (CallsRefine.tie_number_cooled s (world_after s cs) v.directory now count at.refines told);
        left =
            stands_with (ForgetCooled now ∷ cs) v v2 at.limit_fits slots
            (Effects.forgets s some exact cs v.directory v2.directory (held_in s.cmp v.slots) before now change);
      }

      -- CONNECTS, INFOS, RELEASES

      -- whether p is reserved in the directory, it is in the world
      reserved_is : (p : C) (b : Bool) → has_status is_reserved (record_of s.cmp v.directory p) ≡ b →
          is_reserved ((world_after s cs).peer p).status ≡ b
      reserved_is p b is =
          sym (KnowledgeRefines.tie_reserved s (world_after s cs) v.directory p at.refines) ∙ by_status (record_of s.cmp v.directory p) ∙ is
        where
          by_status : (o : Option (RecordView C S)) →
              option_map_or is_reserved (option_map (λ r. r.status) o) false ≡ has_status is_reserved o
          by_status None = refl
          by_status (Some r) = refl

      pub served_connected : (p : C) (dialer : Bool) → has_status is_reserved (record_of s.cmp v.directory p) ≡ true →
          Connects s.cmp v.directory v2.directory p dialer → v2.slots ≡ v.slots → IsCallServedAt s cs (Connect p dialer) reply.Connect v2
      served_connected p dialer reserved change slots =
          let may = reserved_is p true reserved in
          record {
            answer = inr (ap (λ b. if b then reply.Connect else reply.NotReserved) (sym may));
            left =
                stands_with (Connect p dialer ∷ cs) v v2 at.limit_fits slots
                (Effects.connects s some exact cs v.directory v2.directory (held_in s.cmp v.slots) before p dialer may change);
          }

      pub served_updated : (infos : List (Info C S)) → Updates s.cmp v.directory v2.directory infos →
          v2.slots ≡ v.slots → IsCallServedAt s cs (Update infos) reply.UpdatePeers v2
      served_updated infos change slots = record {
        answer = inr refl;
        left =
            stands_with (Update infos ∷ cs) v v2 at.limit_fits slots
            (Effects.updates s some exact cs v.directory v2.directory (held_in s.cmp v.slots) before infos change);
      }

      pub served_release : (p : C) (m : Metadata C S) → held_in s.cmp v.slots p ≡ Some m →
          ChangesRecord s.cmp v.directory v2.directory p (kept_after_release m) →
          DropsHeld s.cmp (held_in s.cmp v.slots) (held_in s.cmp v2.slots) p → IsCallServedAt s cs (Release p) reply.Release v2
      served_release p m found change held =
          let held_before = held_in s.cmp v.slots in
          record {
            answer = inr (ap (λ b. if not b then reply.Release else reply.NotHeld)
                (sym (Effects.live s some exact cs v.directory v2.directory held_before before p m found)));
            left =
                stands (Release p ∷ cs) v2 at.limit_fits
                (Effects.releases s some exact cs v.directory v2.directory held_before before p m (held_in s.cmp v2.slots) found change held);
          }

      pub served_not_held : (p : C) → held_in s.cmp v.slots p ≡ None → v2.directory ≡ v.directory →
          DropsHeld s.cmp (held_in s.cmp v.slots) (held_in s.cmp v2.slots) p → IsCallServedAt s cs (Release p) reply.NotHeld v2
      served_not_held p none directory held = record {
        answer = inr (ap (λ b. if b then reply.Release else reply.NotHeld) (sym (ap is_some none) ∙ at.holds.peers p));
        left = same_views cs v v2 directory (λ q. held q ∙ go q (is_at (s.cmp p) q) refl) at;
      }
        where
          go : (q : C) (b : Bool) → is_at (s.cmp p) q ≡ b → (if b then None else held_in s.cmp v.slots q) ≡ held_in s.cmp v.slots q
          go q true e = sym (ap (held_in s.cmp v.slots) (sym (tells_apart exact p q e)) ∙ none)
          go q false e = refl

  -- ALONE: a command for which a slot is made

  -- .. and that is served then
  pub alone : (cs : List (Call C S)) (c : Call C S) (r : Reply C S) (v : ServerView C S) → IsCallServedAt s cs c r v → IsCallSteppedAt s cs c r v
  alone cs c r v served = record { answer = inl served.answer; left = served.left }

  -- before any command nothing is held
  pub stands_at_start : (v : ServerView C S) → s.dial_fail_limit < 2 ^ 64 → v.directory.config ≡ config_of s →
      v.directory.sets ≡ [] → v.directory.blocks ≡ [] → v.directory.cooldowns ≡ [] →
      ((q : C) → record_of s.cmp v.directory q ≡ first_record s.cmp s.bootstrappers s.own q) → ((q : C) → held_in s.cmp v.slots q ≡ None) → StandsAt s [] v
  stands_at_start v fits config sets blocks cooldowns records none =
      stands [] v fits (Effects.stands_at_start s v.directory (held_in s.cmp v.slots) config sets blocks cooldowns records none)
