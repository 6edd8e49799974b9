use Rattle.std.proofs.Common.{ℕ, ◌≡◌, false, List, ◌∷◌, [], Some, None, if◌then◌else◌, refl, ◌∙◌, ap, subst, arith}
use Rattle.std.specs.BTreeMap.{is_at}
use Rattle.std.specs.Duration.{as_nanos}
use Rattle.std.specs.Ordering.{is_eq}
use Rattle.std.proofs.lemmas.Cmp.{tied_itself}
use Rattle.p2p_directory.specs.Calls.{Call}
use Rattle.p2p_directory.specs.Calls.Call.{Track, Listen, Connect, Release}
use Rattle.p2p_directory.specs.Directory.{first_record, IsReserved}
use Rattle.p2p_directory.specs.Seen.{record_of, key_of}
use Rattle.p2p_directory.specs.Laws.Effects.{DirectoryStandsAt}
use Rattle.p2p_directory.specs.Refinement.{Refines}
use Rattle.p2p_directory.specs.Run.{settings, world_after}
use Rattle.p2p_directory_tests.proofs.by_hand.visit.Goals as goal

-- the calls until the peer is connected, the newest first
abbrev calls : {C S : Type 0} → C → ℕ → ℕ → List C → List C → List (Call C S)
calls p now draw primary secondary = Connect p false ∷ Listen p now draw ∷ Track 0 primary secondary ∷ []

-- once the peer is connected, its reservation is held
connected : (g : _) (c : goal.After-drop-directory-inside-8 g) →
    DirectoryStandsAt (settings g.C.Ord.cmp [] c.args.myself c.args.cfg)
    (calls c.args.peer (as_nanos c.args.now) (as_nanos c.args.draw) c.args.peers.primary c.args.peers.secondary)
    c.connect.new.self (λ q. if is_at (g.C.Ord.cmp c.args.peer) q then Some c.in-Some.reservation else None)
connected g c =
    let cmp = g.C.Ord.cmp in
    let s = settings cmp [] c.args.myself c.args.cfg in
    let some = c.args.cfg.max_sets.ok in
    let p = c.args.peer in
    let law = c.effects_refine.ensures in
    let made = c.in_ok-directory.ensures in
    let first = law.starts s refl c.in_ok-directory.directory (λ q. None) made.config made.sets made.blocks made.cooldowns
    (subst (λ given. (q : g.row.C.Denot) → record_of cmp c.in_ok-directory.directory q ≡ first_record cmp given c.args.myself q)
    c.new.ensures.items made.records) (λ q. refl) in
    let set = c.in_ok-track.ensures in
    let tracked = law.tracks s refl some [] c.in_ok-directory.directory c.track.new.self (λ q. None) 0 c.args.peers.primary
    c.args.peers.secondary c.in_ok-track.field-0 first set.answer set.refused set.taken set.torn in
    let grant = rw c.in-Some.is at c.in_ok-reservation.ensures in
    let listened = law.listens s refl some (Track 0 c.args.peers.primary c.args.peers.secondary ∷ []) c.track.new.self
    c.listen.new.self (λ q. None) (λ q. if is_at (cmp p) q then Some c.in-Some.reservation else None) p (as_nanos c.args.now)
    (as_nanos c.args.draw) (Some c.in-Some.reservation) tracked.0
    grant.answer grant.refused grant.reservation grant.granted (λ q. refl) in
    law.connects s refl some
    (Listen p (as_nanos c.args.now) (as_nanos c.args.draw) ∷ Track 0 c.args.peers.primary c.args.peers.secondary ∷ [])
    c.listen.new.self c.connect.new.self (λ q. if is_at (cmp p) q then Some c.in-Some.reservation else None) p false listened.0
    (subst (IsReserved cmp c.listen.new.self) (ap key_of grant.reservation) grant.is_reserved) c.connect.ensures.connected

pub returns-clause-connected : goal.returns-clause-connected
returns-clause-connected g c =
    let s = settings g.C.Ord.cmp [] c.args.myself c.args.cfg in
    let answers = c.refined_answers.ensures s refl (omega (arith, c.well_formed))
    (calls c.args.peer (as_nanos c.args.now) (as_nanos c.args.draw) c.args.peers.primary c.args.peers.secondary)
    c.connect.new.self (connected g c).refines in
    c.status-connected.ensures ∙ answers.calls.status c.args.peer

pub returns-clause-afterwards : goal.returns-clause-afterwards
returns-clause-afterwards g c =
    let cmp = g.C.Ord.cmp in
    let s = settings cmp [] c.args.myself c.args.cfg in
    let p = c.args.peer in
    let m = c.in-Some.reservation in
    let grant = rw c.in-Some.is at c.in_ok-reservation.ensures in
    let of_peer : key_of m ≡ p = ap key_of grant.reservation in
    let before = calls p (as_nanos c.args.now) (as_nanos c.args.draw) c.args.peers.primary c.args.peers.secondary in
    let released = c.effects_refine.ensures.releases s refl c.args.cfg.max_sets.ok before c.connect.new.self c.release.new.self
    (λ q. if is_at (cmp p) q then Some m else None)
    (λ q. if is_at (cmp (key_of m)) q then None else (if is_at (cmp p) q then Some m else None)) m (connected g c)
    (ap (λ k. if is_at (cmp p) k then Some m else None) of_peer
    ∙ ap (λ o. if is_eq o then Some m else None) (tied_itself g.met.C.Ord.total p)) c.release.ensures.released (λ q. refl) in
    let answers = c.refined_answers.ensures s refl (omega (arith, c.well_formed)) (Release p ∷ before) c.release.new.self
    (subst (λ k. Refines s (world_after s (Release k ∷ before)) c.release.new.self) of_peer released.refines) in
    c.status-afterwards.ensures ∙ answers.calls.status p
