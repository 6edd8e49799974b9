-- Who is blocked, who may come, and what is told of the sets: a directory answers what the world that it refines says.
use Rattle.std.proofs.Common.{◌≡◌, ℕ, ◌+◌, Bool, true, false, ◌||◌, ◌&&◌, not, List, map, slice_get, Option, Some, None, sym, ap, subst, refl, ◌∙◌}
use Rattle.std.specs.Prelude.{if◌then◌else◌, nat_lt, nat_le}
use Rattle.std.specs.Option.{option_map, option_map_or}
use Rattle.std.specs.List.{last_or, list_any}
use Rattle.std.specs.BTreeMap.{is_at}
use Rattle.p2p_discovery.proofs.Truth.{nat_le-not_lt}
use Rattle.p2p_tracker.specs.Blocks.{is_blocked, IsAnyUntil}
use Rattle.p2p_tracker.specs.declared.directory.PeerSetUpdate.{PeerSetUpdate}
use Rattle.p2p_tracker.specs.declared.directory.TrackedPeers.{TrackedPeers}
use Rattle.p2p_tracker.specs.Calls.{Settings, SetAt}
use Rattle.p2p_tracker.specs.Calls.Event.{Blocked, Expired}
use Rattle.p2p_tracker.specs.Moments.{cap}
use Rattle.p2p_tracker.specs.History.{same, is_own, is_persistent, is_named, is_entitled}
use Rattle.p2p_tracker.specs.Status.{is_inert}
use Rattle.p2p_tracker.specs.World.{World, unblock_after, world_with}
use Rattle.p2p_tracker.specs.Answers.{is_present_in, AreAll, IsLatestUpdate, is_blocked_at, AreBlocked, IsNextUnblock, IsAnyExpired, is_eligible_at, is_acceptable_at}
use Rattle.p2p_tracker.specs.Lists.{Lists, IsLeastOf}
use Rattle.p2p_tracker.specs.Record.{is_myself, is_eligible, is_acceptable}
use Rattle.p2p_tracker.specs.Directory.{is_blocked_in, is_own_in, full_bit_vec_at, may_block, if_later, is_free_and, AreAllOf, IsUpdateOf, BlocksUntil, EndsBlocks}
use Rattle.p2p_tracker.specs.Seen.{DirectoryView, record_of, unblock_of}
use Rattle.p2p_directory.specs.Refinement.{Refines}
use Rattle.p2p_directory.specs.Run.{update_in, bit_vec_of, full_bit_vec_in}
use Rattle.p2p_tracker.proofs.Definitions.Listed
use Rattle.p2p_tracker.proofs.Definitions.Listed.{lists_alike, somebody_alike}
use Rattle.p2p_directory.proofs.Refinement.CallsRefine.{same_cooldowns, unchanged}
use Rattle.p2p_directory.proofs.Refinement.RecordOfPeer.{record_with, shown_entitled, eligible_is_entitled, absent_not_entitled, myself_is_own}
use Rattle.p2p_directory.specs.Laws.Refined.{BlocksAnswerAs}

swap : (a b : Bool) → (a && b) ≡ (b && a)
swap true true = refl
swap true false = refl
swap false true = refl
swap false false = refl

swapped : (a b c : Bool) → (a && (b && c)) ≡ ((b && a) && c)
swapped true true c = refl
swapped true false c = refl
swapped false true c = refl
swapped false false c = refl

module _ {C S : Type 0} (s : Settings C S) where
  -- BLOCKS

  blocked_alike : (w : World C S) (d : DirectoryView C S) (t : ℕ) → Refines s w d → (q : C) → is_blocked_in s.cmp d t q ≡ is_blocked_at s w t q
  blocked_alike w d t stands q = ap (λ o. is_blocked o t) (stands.blocks q)

  pub tie_blocked : (w : World C S) (d : DirectoryView C S) (t : ℕ) (ps : List C) → Refines s w d →
      Lists s.cmp (is_blocked_in s.cmp d t) ps → AreBlocked s w t ps
  tie_blocked w d t ps stands listed = lists_alike s.cmp (is_blocked_in s.cmp d t) (is_blocked_at s w t) ps (blocked_alike w d t stands) listed

  pub tie_next_unblock : (w : World C S) (d : DirectoryView C S) (moment : Option ℕ) → Refines s w d →
      IsLeastOf (unblock_of s.cmp d) moment → IsNextUnblock s w moment
  tie_next_unblock w d moment stands least = Listed.least_alike (unblock_of s.cmp d) w.unblock moment (λ q. sym (stands.blocks q)) least

  pub tie_any_expired : (w : World C S) (d : DirectoryView C S) (t : ℕ) (any : Bool) → Refines s w d →
      IsAnyUntil (unblock_of s.cmp d) t any → IsAnyExpired s w t any
  tie_any_expired w d t any stands told = (
    (λ h. let found = told.0 h in (found.0, found.1, sym (stands.blocks found.0) ∙ found.2, found.3)),
    (λ found. told.1 (found.0, found.1, stands.blocks found.0 ∙ found.2, found.3)),
  )

  -- whether p is the own key: its record has the own info, and is there
  pub tie_own : (w : World C S) (d : DirectoryView C S) (p : C) → Refines s w d → is_own_in s.cmp d p ≡ is_own s p
  tie_own w d p stands =
      ap (λ o. option_map_or (λ r. is_myself r.address) o false) (stands.records p)
      ∙ go (is_own s p) (is_present_in s w p) refl (myself_is_own s p (w.peer p).known)
    where
      go : (own b : Bool) → is_present_in s w p ≡ b →
          is_myself (record_with s p w.sets (w.cooldown p) (w.peer p)).address ≡ own →
          option_map_or (λ r. is_myself r.address)
          (if b then Some (record_with s p w.sets (w.cooldown p) (w.peer p)) else None) false ≡ own
      go own true e is = is
      go false false e is = refl
      go true false e is = absurd (own_absent e (sym (myself_is_own s p (w.peer p).known) ∙ is))
        where
          own_absent : is_present_in s w p ≡ false → is_own s p ≡ true → ⊥
          own_absent e own = let f =
              sym e ∙ ap (λ b.
              ((b || list_any (λ b. same s b.0 p) s.bootstrappers) || is_named s p w.sets)
              || not (is_inert (w.peer p).status)) own in cc

  -- whether a block of p may be taken
  pub tie_may_block : (w : World C S) (d : DirectoryView C S) (p : C) (t : ℕ) → Refines s w d →
      may_block s.cmp d t p ≡ (not (is_own s p) && not (is_blocked (w.unblock p) t))
  tie_may_block w d p t stands =
      (λ i. not (is_own_in s.cmp d p) && not (is_blocked (stands.blocks p i) t))
      ∙ ap (λ b. not b && not (is_blocked (w.unblock p) t)) (tie_own w d p stands)

  -- the bits of a full question
  pub tie_full_bits : (w : World C S) (d : DirectoryView C S) (place : ℕ) → Refines s w d →
      full_bit_vec_at s.cmp d place ≡ full_bit_vec_in s w place
  tie_full_bits w d place stands = λ i.
      option_map (λ (x : SetAt C). bit_vec_of (x.index, map (λ q. tie_own w d q stands i) x.primary)) (slice_get (stands.sets i) place)

  pub tie_block : (w : World C S) (d d' : DirectoryView C S) (p : C) (t : ℕ) → Refines s w d →
      BlocksUntil s.cmp d d' p (cap (t + d.config.block_duration)) → Refines s (world_with s (Blocked p t) w) d'
  tie_block w d d' p t stands change = record {
    config = change.config ∙ stands.config;
    sets = change.sets ∙ stands.sets;
    records = λ q. ap (λ records. record_of s.cmp (record d { records = records }) q) change.records
        ∙ stands.records q ∙ unchanged s q w.sets (w.cooldown q) (w.peer q);
    cooldowns = same_cooldowns s w d d' stands change.cooldowns;
    blocks = λ q. change.blocks q ∙ (λ i. if is_at (s.cmp p) q then Some (cap (t + (stands.config i).block_duration)) else stands.blocks q i);
  }

  pub tie_ended : (w : World C S) (d d' : DirectoryView C S) (t : ℕ) → Refines s w d → EndsBlocks s.cmp d d' t → Refines s (world_with s (Expired t) w) d'
  tie_ended w d d' t stands change = record {
    config = change.config ∙ stands.config;
    sets = change.sets ∙ stands.sets;
    records = λ q. ap (λ records. record_of s.cmp (record d { records = records }) q) change.records
        ∙ stands.records q ∙ unchanged s q w.sets (w.cooldown q) (w.peer q);
    cooldowns = same_cooldowns s w d d' stands change.cooldowns;
    blocks = λ q. change.blocks q ∙ ap (if_later t) (stands.blocks q) ∙ left q (w.unblock q);
  }
    where
      left : (q : C) (o : Option ℕ) → if_later t o ≡ unblock_after s q (Expired t) o
      left q None = refl
      left q (Some m) = ends (nat_lt t m) m (nat_le-not_lt m t)
        where
          ends : (b : Bool) (m : ℕ) → nat_le m t ≡ not b → (if b then Some m else None) ≡ (if nat_le m t then None else Some m)
          ends true m e = ap (λ b. if b then None else Some m) (sym e)
          ends false m e = ap (λ b. if b then None else Some m) (sym e)

  -- WHO MAY COME

  pub tie_eligible : (w : World C S) (d : DirectoryView C S) (p : C) (t : ℕ) → Refines s w d → is_free_and s.cmp is_eligible d t p ≡ is_eligible_at s w p t
  tie_eligible w d p t stands =
      (λ i. not (is_blocked (stands.blocks p i) t) && option_map_or is_eligible (stands.records p i) false)
      ∙ ap (λ b. not (is_blocked (w.unblock p) t) && b) (shown_entitled s p w.sets (w.cooldown p) (w.peer p))
      ∙ swap (not (is_blocked (w.unblock p) t)) (is_entitled s p w.sets)

  pub tie_acceptable : (w : World C S) (d : DirectoryView C S) (p : C) (t : ℕ) → Refines s w d →
      is_free_and s.cmp is_acceptable d t p ≡ is_acceptable_at s w p t
  tie_acceptable w d p t stands =
      (λ i. not (is_blocked (stands.blocks p i) t) && option_map_or is_acceptable (stands.records p i) false)
      ∙ ap (λ b. not (is_blocked (w.unblock p) t) && b) (shown_acceptable (is_present_in s w p) refl)
      ∙ swapped (not (is_blocked (w.unblock p) t)) (is_entitled s p w.sets) (is_inert (w.peer p).status)
    where
      shown_acceptable : (b : Bool) → is_present_in s w p ≡ b →
          option_map_or is_acceptable (if b then Some (record_with s p w.sets (w.cooldown p) (w.peer p)) else None)
          false ≡ (is_entitled s p w.sets && is_inert (w.peer p).status)
      shown_acceptable true e = ap (λ b. b && is_inert (w.peer p).status) (eligible_is_entitled s p w.sets (w.cooldown p) (w.peer p))
      shown_acceptable false e =
          ap (λ b. b && is_inert (w.peer p).status)
          (sym (absent_not_entitled s (is_own s p) (is_named s p w.sets) (is_persistent s p)
          (is_inert (w.peer p).status) e))

  -- ALL PEERS

  pub tie_all : (w : World C S) (d : DirectoryView C S) (all : TrackedPeers C S) → Refines s w d → AreAllOf s.cmp d all → AreAll s w all.primary all.secondary
  tie_all w d all stands told = subst (λ sets. AreAllOf s.cmp (record d { sets = sets }) all) stands.sets told

  pub tie_update : (w : World C S) (d : DirectoryView C S) (update : Option (PeerSetUpdate C S)) → Refines s w d →
      IsUpdateOf s.cmp d update → IsLatestUpdate s w (option_map update_in update)
  tie_update w d None stands told = sym (ap (last_or None) stands.sets) ∙ told
  tie_update w d (Some update) stands told = (sym (ap (last_or None) stands.sets) ∙ told.0, tie_all w d update.all stands told.1)

  -- all answers of this file
  pub answer : (w : World C S) (d : DirectoryView C S) → Refines s w d → BlocksAnswerAs s w d
  answer w d refines = record {
    next_unblock = λ moment. tie_next_unblock w d moment refines;
    any_expired = λ t any. tie_any_expired w d t any refines;
    blocked_peers = λ t ps. tie_blocked w d t ps refines;
    latest_update = λ update. tie_update w d update refines;
    all = λ all. tie_all w d all refines;
    eligible = λ p t. tie_eligible w d p t refines;
    acceptable = λ p t. tie_acceptable w d p t refines;
  }
