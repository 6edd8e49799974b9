-- What a directory answers by what it keeps is what a world answers.
use Rattle.std.specs.Prelude.{ℕ, ◌≡◌, Bool, List, Option, length}
use Rattle.std.specs.Option.{option_map}
use Rattle.std.specs.List.Sorted.{IsStrictlySortedBy}
use Rattle.std.specs.Map.{keys_of}
use Rattle.p2p_tracker.specs.declared.directory.PeerSetUpdate.{PeerSetUpdate}
use Rattle.p2p_tracker.specs.declared.directory.TrackedPeers.{TrackedPeers}
use Rattle.p2p_tracker.specs.Calls.{Settings}
use Rattle.p2p_tracker.specs.Calls.Call.{Listen}
use Rattle.p2p_tracker.specs.PeerSets.{latest_index}
use Rattle.p2p_tracker.specs.Lists.{Lists, IsLeastOf}
use Rattle.p2p_tracker.specs.Blocks.{IsAnyUntil}
use Rattle.p2p_tracker.specs.Record.{is_eligible, is_acceptable}
use Rattle.p2p_tracker.specs.World.{World, may_dial, event_in}
use Rattle.p2p_tracker.specs.Answers.{status_in, IsNumberTracked, AreBlocked, IsNextUnblock}
use Rattle.p2p_tracker.specs.Answers.{IsAnyExpired, IsNumberCooled, set_with_index, latest_index_in}
use Rattle.p2p_tracker.specs.Answers.{AreAll, IsLatestUpdate, sharable_info, infos_for}
use Rattle.p2p_tracker.specs.Answers.{held_ingress, may_listen_at, was_granted}
use Rattle.p2p_tracker.specs.Answers.{is_eligible_at, is_acceptable_at, IsDialable}
use Rattle.p2p_tracker.specs.Directory.{other_keys, is_blocked_in, peer_set_in, AreAllOf}
use Rattle.p2p_tracker.specs.Directory.{IsUpdateOf, sharable_in, infos_in, bit_vec_at, is_free_and}
use Rattle.p2p_tracker.specs.Directory.{IsNumberCooledIn, AreDialableIn, may_listen_in, may_dial_in}
use Rattle.p2p_tracker.specs.Directory.{ingress_in}
use Rattle.p2p_tracker.specs.Seen.{DirectoryView, record_of, unblock_of, peers_of}
use Rattle.p2p_directory.specs.Run.{bit_vec_in, update_in}

module _ {C S : Type 0} (s : Settings C S) (w : World C S) (d : DirectoryView C S) where
  -- each answer by what is kept, as the calls of a directory say it, is that of the world: of
  -- statuses, sets and cooldowns
  pub record CallsAnswerAs : Type 0 where
    pub status : (p : C) → option_map (λ r. r.status) (record_of s.cmp d p) ≡ status_in s w p
    pub peer_set : (index : ℕ) →
        peer_set_in d index ≡ option_map peers_of (set_with_index s w index)
    pub latest_set_index : latest_index d.sets ≡ latest_index_in s w
    pub number_cooled : (t n : ℕ) → IsNumberCooledIn s.cmp d t n → IsNumberCooled s w t n

  -- .. of blocks, of all peers and of who is eligible
  pub record BlocksAnswerAs : Type 0 where
    pub next_unblock : (moment : Option ℕ) → IsLeastOf (unblock_of s.cmp d) moment →
        IsNextUnblock s w moment
    pub any_expired : (t : ℕ) (any : Bool) → IsAnyUntil (unblock_of s.cmp d) t any →
        IsAnyExpired s w t any
    pub blocked_peers : (t : ℕ) (ps : List C) → Lists s.cmp (is_blocked_in s.cmp d t) ps →
        AreBlocked s w t ps
    pub latest_update : (update : Option (PeerSetUpdate C S)) → IsUpdateOf s.cmp d update →
        IsLatestUpdate s w (option_map update_in update)
    pub all : (all : TrackedPeers C S) → AreAllOf s.cmp d all →
        AreAll s w all.primary all.secondary
    pub eligible : (p : C) (t : ℕ) →
        is_free_and s.cmp is_eligible d t p ≡ is_eligible_at s w p t
    pub acceptable : (p : C) (t : ℕ) →
        is_free_and s.cmp is_acceptable d t p ≡ is_acceptable_at s w p t

  -- .. of infos, addresses, bits and the number of records
  pub record KnowledgeAnswersAs : Type 0 where
    pub tracked : IsStrictlySortedBy s.cmp (keys_of d.records) →
        IsNumberTracked s w (length (other_keys d.records))
    pub info : (p : C) → sharable_in s.cmp d p ≡ sharable_info s w p
    pub ingress : (p : C) → ingress_in s.cmp d p ≡ held_ingress s w p
    pub infos : (index : ℕ) (bits : List Bool) (t : ℕ) →
        infos_in s.cmp d index bits t ≡ infos_for s w index bits t
    pub bits : (place : ℕ) → bit_vec_at s.cmp d place ≡ bit_vec_in s w place

  -- .. of dials and listens, and `may_listen` tells what `listen` grants
  pub record DialsAnswerAs : Type 0 where
    pub dialable : (t : ℕ) (ps : List C) (next : Option ℕ) → AreDialableIn s.cmp d t ps next →
        IsDialable s w t ps next
    pub listens : (p : C) (t : ℕ) → may_listen_in s.cmp d t p ≡ may_listen_at s w p t
    pub grants : (p : C) (t draw : ℕ) →
        was_granted (event_in s w.sets w (Listen p t draw)) ≡ may_listen_at s w p t
    pub dials : (p : C) (t : ℕ) →
        may_dial_in s.cmp d t p ≡ may_dial s p t w.sets (w.peer p) (w.unblock p) (w.cooldown p)

  -- .. of all of these
  pub record AnswersAs : Type 0 where
    pub calls : CallsAnswerAs
    pub blocks : BlocksAnswerAs
    pub knowledge : KnowledgeAnswersAs
    pub dials : DialsAnswerAs
