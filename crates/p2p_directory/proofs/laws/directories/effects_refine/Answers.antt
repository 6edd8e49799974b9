use Rattle.std.proofs.Common.{◌≡◌, ◌+◌, true, false, ◌∷◌, Option, Some, None, sym, ◌∙◌, subst, refl}
use Rattle.std.specs.Prelude.{is_some, IfSome, IfNone}
use Rattle.std.specs.Option.{option_map, option_map_or}
use Rattle.std.proofs.lemmas.Map.Lookups.{CmpEqualImpliesEq}
use Rattle.p2p_tracker.specs.declared.directory.Metadata.TheVariants as metadata
use Rattle.p2p_tracker.specs.Calls.Call.{Track, Dial, Listen, Connect, Release, Update, Block, UnblockExpired, ForgetCooled, Ask}
use Rattle.p2p_tracker.specs.Status.{is_reserved}
use Rattle.p2p_tracker.specs.Answers.{IsTrackAnswer, was_blocked}
use Rattle.p2p_tracker.specs.Moments.{cap}
use Rattle.p2p_tracker.specs.PeerSets.{set_of, latest_index, is_above}
use Rattle.p2p_tracker.specs.Seen.{RecordView, record_of, key_of}
use Rattle.p2p_tracker.specs.Directory.{first_record, may_block, may_listen_in, may_dial_in, ingress_in}
use Rattle.p2p_tracker.specs.Directory.{IsReserved, Reserves, Connects, Releases, Updates, TakesSet}
use Rattle.p2p_tracker.specs.Directory.{AreTornDown, BlocksUntil, EndsBlocks, ForgetsCooled}
use Rattle.p2p_directory.specs.Run.{world_after, event_of}
use Rattle.p2p_directory.specs.Held.{AddsHeld, DropsHeld}
use Rattle.p2p_directory.specs.Laws.Effects.{DirectoryStandsAt, granted_after}
use Rattle.p2p_directory.proofs.Refinement.KnowledgeRefines.{tie_reserved}
use Rattle.p2p_directory.proofs.Reservations.Effects
use Rattle.p2p_directory.proofs.laws.directories.effects_refine.Goals as goal

pub returns-clause-starts : goal.returns-clause-starts
returns-clause-starts g c = λ s order d held config sets blocks cooldowns records none.
    Effects.stands_at_start s d held config sets blocks cooldowns
    (subst (λ cmp. (q : g.row.C.Denot) → record_of cmp d q ≡ first_record cmp s.bootstrappers s.own q) (sym order) records) none

pub returns-clause-tracks : goal.returns-clause-tracks
returns-clause-tracks g c = λ s order some cs old new held index primary secondary torn at.
    subst (λ cmp. is_some torn ≡ is_above index (latest_index old.sets) → IfNone torn (new ≡ old) →
    IfSome torn (λ _. TakesSet cmp old new (set_of cmp index primary secondary)) → IfSome torn (AreTornDown cmp old new) →
    let c = Track index primary secondary in
    DirectoryStandsAt s (c ∷ cs) new held × IsTrackAnswer s (event_of s cs c) (world_after s cs) (world_after s (c ∷ cs)) torn) order
    (Effects.tracks s some (subst CmpEqualImpliesEq (sym order) g.met.C.PublicKey.exact) cs old new held at index primary secondary torn)

pub returns-clause-dials : goal.returns-clause-dials
returns-clause-dials g c = λ s order some cs old new held left p now draw reservation at.
    subst (λ cmp. is_some reservation ≡ may_dial_in cmp old now p → IfNone reservation (new ≡ old) →
    IfSome reservation (λ m. option_map (metadata.Dialer p) (ingress_in cmp old p) ≡ Some m) →
    IfSome reservation (λ _. Reserves cmp old new p now draw) → AddsHeld cmp held left p reservation →
    let c = Dial p now draw in
    DirectoryStandsAt s (c ∷ cs) new left × (reservation ≡ granted_after s cs p c)) order
    (Effects.dials s some (subst CmpEqualImpliesEq (sym order) g.met.C.PublicKey.exact) cs old new held at p now draw reservation left)

pub returns-clause-listens : goal.returns-clause-listens
returns-clause-listens g c = λ s order some cs old new held left p now draw reservation at.
    subst (λ cmp. is_some reservation ≡ may_listen_in cmp old now p → IfNone reservation (new ≡ old) →
    IfSome reservation (λ m. m ≡ metadata.Listener p) →
    IfSome reservation (λ _. Reserves cmp old new p now draw) → AddsHeld cmp held left p reservation →
    let c = Listen p now draw in
    DirectoryStandsAt s (c ∷ cs) new left × (reservation ≡ granted_after s cs p c)) order
    (Effects.listens s some (subst CmpEqualImpliesEq (sym order) g.met.C.PublicKey.exact) cs old new held at p now draw reservation left)

-- a record's status is reserved where that of its peer is
status_of : {C S : Type 0} (o : Option (RecordView C S)) →
    option_map_or is_reserved (option_map (λ r. r.status) o) false ≡ option_map_or (λ r. is_reserved r.status) o false
status_of None = refl
status_of (Some r) = refl

pub returns-clause-connects : goal.returns-clause-connects
returns-clause-connects g c = λ s order some cs old new held p dialer at.
    subst (λ cmp. IsReserved cmp old p → Connects cmp old new p dialer → DirectoryStandsAt s (Connect p dialer ∷ cs) new held) order
    (λ reserved. Effects.connects s some (subst CmpEqualImpliesEq (sym order) g.met.C.PublicKey.exact) cs old new held at p dialer
    (sym (tie_reserved s (world_after s cs) old p at.refines) ∙ status_of (record_of s.cmp old p) ∙ reserved))

pub returns-clause-releases : goal.returns-clause-releases
returns-clause-releases g c = λ s order some cs old new held left m at found.
    subst (λ cmp. Releases cmp old new m → DropsHeld cmp held left (key_of m) → DirectoryStandsAt s (Release (key_of m) ∷ cs) new left) order
    (Effects.releases s some (subst CmpEqualImpliesEq (sym order) g.met.C.PublicKey.exact) cs old new held at (key_of m) m left found)

pub returns-clause-updates : goal.returns-clause-updates
returns-clause-updates g c = λ s order some cs old new held infos at.
    subst (λ cmp. Updates cmp old new infos → DirectoryStandsAt s (Update infos ∷ cs) new held) order
    (Effects.updates s some (subst CmpEqualImpliesEq (sym order) g.met.C.PublicKey.exact) cs old new held at infos)

pub returns-clause-blocks : goal.returns-clause-blocks
returns-clause-blocks g c = λ s order some cs old new held p now taken at.
    subst (λ cmp. taken ≡ may_block cmp old now p → (taken ≡ false → new ≡ old) →
    (taken ≡ true → BlocksUntil cmp old new p (cap (now + old.config.block_duration))) →
    let c = Block p now in DirectoryStandsAt s (c ∷ cs) new held × (taken ≡ was_blocked (event_of s cs c))) order
    (Effects.blocks s some (subst CmpEqualImpliesEq (sym order) g.met.C.PublicKey.exact) cs old new held at p now taken)

pub returns-clause-unblocks : goal.returns-clause-unblocks
returns-clause-unblocks g c = λ s order some cs old new held now at.
    subst (λ cmp. EndsBlocks cmp old new now → DirectoryStandsAt s (UnblockExpired now ∷ cs) new held) order
    (Effects.unblocks s some (subst CmpEqualImpliesEq (sym order) g.met.C.PublicKey.exact) cs old new held at now)

pub returns-clause-forgets : goal.returns-clause-forgets
returns-clause-forgets g c = λ s order some cs old new held now at.
    subst (λ cmp. ForgetsCooled cmp old new now → DirectoryStandsAt s (ForgetCooled now ∷ cs) new held) order
    (Effects.forgets s some (subst CmpEqualImpliesEq (sym order) g.met.C.PublicKey.exact) cs old new held at now)

pub returns-clause-asks : goal.returns-clause-asks
returns-clause-asks g c = λ s order some cs d held question at.
    Effects.idle s some (subst CmpEqualImpliesEq (sym order) g.met.C.PublicKey.exact) cs d d held at (Ask question) held refl refl (λ q. refl)
