-- What the calls on other single peers leave as it was.
use Rattle.std.specs.Prelude.{◌≡◌, ℕ, Bool, false, not, if◌then◌else◌, List, [], ◌∷◌, filter, true}
use Rattle.std.specs.Prelude.{Option, Some, None}
use Rattle.std.specs.Option.{option_map_or, option_map}
use Rattle.p2p_tracker.specs.Calls.{Settings, Call, single_peer_of}
use Rattle.p2p_tracker.specs.Calls.Call.{Update, Track, Ask}
use Rattle.p2p_tracker.specs.History.{same, is_in}
use Rattle.p2p_tracker.specs.World.{World, event_in}
use Rattle.p2p_tracker.specs.Answers.{is_present_in, status_in, sharable_info, wants, is_blocked_at}
use Rattle.p2p_tracker.specs.Answers.{is_eligible_at, is_acceptable_at, is_cooled_at, is_dialable}
use Rattle.p2p_tracker.specs.Answers.{query_moment, was_taken, is_torn_down}
use Rattle.p2p_tracker.specs.Answers.{held_ingress, may_listen_at}
use Rattle.p2p_tracker.specs.declared.record.dialing.Dialable.{Dialable}
use Rattle.p2p_tracker.specs.Calls.Question.{DialableAt}
use Rattle.p2p_directory.specs.declared.run.commands.Reply.{Reply}
use Rattle.p2p_directory.specs.declared.run.commands.Reply.TheVariants as reply
use Rattle.p2p_directory.specs.Run.{world_after, event_of, IsAnswer, next}

module _ {C S : Type 0} (s : Settings C S) where
  -- a call on the single peer p
  abbrev pub is_on : C → Call C S → Bool
  is_on p c = option_map_or (λ q. same s q p) (single_peer_of c) false

  -- a call on a single peer other than p
  abbrev pub is_on_another : C → Call C S → Bool
  is_on_another p c = option_map_or (λ q. not (same s q p)) (single_peer_of c) false

  -- an update with p's infos alone
  abbrev pub narrowed : C → Call C S → Call C S
  narrowed p (Update infos) = Update (filter (λ i. same s i.public_key p) infos)
  narrowed p c = c

  abbrev pub left_for : C → List (Call C S) → List (Call C S)
  left_for p [] = []
  left_for p (c ∷ cs) = if is_on_another p c then left_for p cs else narrowed p c ∷ left_for p cs

-- two worlds in which p stands alike
pub record SameFor {C S : Type 0} (p : C) (w v : World C S) : Type 0 where
  pub sets : w.sets ≡ v.sets
  pub peer : w.peer p ≡ v.peer p
  pub unblock : w.unblock p ≡ v.unblock p
  pub cooldown : w.cooldown p ≡ v.cooldown p
  pub held : w.held p ≡ v.held p

module _ {C S : Type 0} (s : Settings C S) where
  -- the answers that are on p are the same in both worlds, and so is whether it is listed
  pub record AnswersAlike (p : C) (w v : World C S) : Type 0 where
    pub present : is_present_in s w p ≡ is_present_in s v p
    pub status : status_in s w p ≡ status_in s v p
    pub info : sharable_info s w p ≡ sharable_info s v p
    pub ingress : held_ingress s w p ≡ held_ingress s v p
    pub wanted : wants s p (w.peer p) ≡ wants s p (v.peer p)
    pub blocked : (t : ℕ) → is_blocked_at s w t p ≡ is_blocked_at s v t p
    pub cooled : (t : ℕ) → is_cooled_at s w t p ≡ is_cooled_at s v t p
    pub eligible : (t : ℕ) → is_eligible_at s w p t ≡ is_eligible_at s v p t
    pub acceptable : (t : ℕ) → is_acceptable_at s w p t ≡ is_acceptable_at s v p t
    pub may_listen : (t : ℕ) → may_listen_at s w p t ≡ may_listen_at s v p t
    pub dialable : (t : ℕ) → is_dialable s w t p ≡ is_dialable s v t p
    pub query : (t : ℕ) → query_moment s w t p ≡ query_moment s v t p
    pub does : (c : Call C S) → is_on_another s p c ≡ false →
        event_in s w.sets w c ≡ event_in s v.sets v c

-- .. by the replies to a run: commands and replies are in order, the oldest first

module _ {C S : Type 0} (s : Settings C S) where
  -- whether a track after these calls tears p down, where its set is taken
  abbrev pub torn_after : C → List (Call C S) → Call C S → Option Bool
  torn_after p before c =
      if was_taken (event_of s before c)
      then Some (is_torn_down s (world_after s before) (world_after s (c ∷ before)) p)
      else None

  -- the reply to a track or to `dialable` lists p just where it is listed after these calls
  pub record IsListedAfter (p : C) (before : List (Call C S)) (c : Call C S)
      (r : Reply C S) : Type 0 where
    pub torn : (index : ℕ) (primary secondary : List C) (torn : Option (List C)) →
        c ≡ Track index primary secondary → r ≡ reply.Track torn →
        option_map (λ peers. is_in s p peers) torn ≡ torn_after p before c
    pub dialable : (t : ℕ) (answer : Dialable C S) →
        c ≡ Ask (DialableAt t) → r ≡ reply.Dialable answer →
        is_in s p answer.peers.items ≡ is_dialable s (world_after s before) t p

  -- p stands after these accepted calls as after those of them that are left for p
  abbrev pub StandsAlone : C → List (Call C S) → Type 0
  StandsAlone p before = SameFor p (world_after s before) (world_after s (left_for s p before))

  -- of a command and its reply, after the accepted calls `before`: with the calls that are left for
  -- p alone, p stands so, a call on p is answered so, and p is listed so
  pub record IsAlone (p : C) (before : List (Call C S)) (c : Call C S)
      (r : Reply C S) : Type 0 where
    pub stands : StandsAlone p before
    pub answer : is_on s p c ≡ true → IsAnswer s (left_for s p before) c r
    pub listed : IsListedAfter p (left_for s p before) c r

  -- .. at each point of a run, the last one too
  abbrev pub KeepAlone : C → List (Call C S) → List (Call C S) → List (Reply C S) → Type 0
  KeepAlone p before (c ∷ cs) (r ∷ rs) =
      IsAlone p before c r × KeepAlone p (next s before c r) cs rs
  KeepAlone p before _ _ = StandsAlone p before
