-- Serving one command: from wherever the calls accepted before led, the reply is the answer.
use Rattle.std.specs.Prelude.{◌≡◌, ◌⊎◌, ◌<◌, ◌^◌, Bool, true, false, List, Option, Result, Ok, Err}
use Rattle.std.specs.Option.{option_map_or}
use Rattle.std.specs.declared.cmp.Ordering.{Ordering}
use Rattle.std.specs.declared.time.Duration.{Duration}
use Rattle.p2p_discovery.specs.declared.discovery.Info.{Info}
use Rattle.p2p_discovery.specs.declared.discovery.PayloadConfig.{PayloadConfig}
use Rattle.p2p_discovery.specs.declared.types.ingress.Ingress.{Ingress}
use Rattle.p2p_discovery.specs.Judgement.{Verifier}
use Rattle.p2p_tracker.specs.declared.directory.Config.{Config}
use Rattle.p2p_tracker.specs.declared.directory.Metadata.{Metadata}
use Rattle.p2p_directory.specs.declared.run.commands.Command.{Command}
use Rattle.p2p_directory.specs.declared.run.commands.Command.TheVariants as command
use Rattle.p2p_directory.specs.declared.run.commands.Reply.{Reply}
use Rattle.p2p_directory.specs.declared.run.commands.Reply.TheVariants as reply
use Rattle.p2p_tracker.specs.Calls.{Settings, Call, may_reserve, reserved_by}
use Rattle.p2p_tracker.specs.Seen.{DirectoryView}
use Rattle.p2p_directory.specs.Refinement.{Refines}
use Rattle.p2p_directory.specs.Nodes.{NodeView}
use Rattle.std.specs.Map.{keys_of}
use Rattle.p2p_directory.specs.Private.Slots.{contents, has_slot, held_in}
use Rattle.p2p_directory.specs.Run.{settings, call_of, world_after, IsAnswer, next, Holds}

-- a directory, and slots for the reservations that it granted
pub record ServerView (C S : Type 0) : Type 0 where
  pub directory : DirectoryView C S
  pub slots : List (C × Option (Metadata C S))

-- the node of a server, with these limits and this verifier
abbrev pub node_at : {C S : Type 0} → PayloadConfig → Verifier C → ServerView C S → NodeView C S
node_at limits verifier v = record {
  directory = v.directory;
  held = contents v.slots;
  slots = keys_of v.slots;
  limits = limits;
  verifier = verifier;
}

-- the peer that the command may be granted a reservation of, if there is one
abbrev pub reserved_peer : {C S : Type 0} → Command C S → Option C
reserved_peer x = reserved_by (call_of x)

-- a dial of p, or a listen
abbrev pub reserving : {C S : Type 0} → Bool → C → Duration → Duration → Command C S
reserving true p now draw = command.Dial p now draw
reserving false p now draw = command.Listen p now draw

-- the reply to either, by whether it is granted
abbrev pub reserved_reply : {C S E : Type 0} → Bool → Result Bool E → Reply C S
reserved_reply true (Ok granted) = reply.Dial granted
reserved_reply false (Ok granted) = reply.Listen granted
reserved_reply _ (Err e) = reply.OutOfMemory

-- there is a slot for what the command may be granted
abbrev pub has_slot_for : {C S : Type 0} → (C → C → Ordering) →
    List (C × Option (Metadata C S)) → Command C S → Bool
has_slot_for cmp slots x = option_map_or (has_slot cmp slots) (reserved_peer x) true

-- the reply to a question of an address
abbrev pub ingress_reply : {C S E : Type 0} → Result (Option Ingress) E → Reply C S
ingress_reply (Ok ingress) = reply.Ingress ingress
ingress_reply (Err e) = reply.OutOfMemory

module _ {C S : Type 0} (s : Settings C S) where
  -- the directory and what is held stand at the point after these calls; the limit is a `usize`
  pub record StandsAt (calls : List (Call C S)) (v : ServerView C S) : Type 0 where
    pub limit_fits : s.dial_fail_limit < 2 ^ 64
    pub refines : Refines s (world_after s calls) v.directory
    pub holds : Holds s (world_after s calls) (held_in s.cmp v.slots)

  -- the reply to one more call answers at its point, and what is left stands at the next
  pub record IsCallServedAt
      (calls : List (Call C S)) (c : Call C S) (r : Reply C S) (v : ServerView C S) : Type 0 where
    pub answer : IsAnswer s calls c r
    pub left : StandsAt (next s calls c r) v

  -- .. or an allocation for its slot failed
  pub record IsCallSteppedAt
      (calls : List (Call C S)) (c : Call C S) (r : Reply C S) (v : ServerView C S) : Type 0 where
    pub answer : IsAnswer s calls c r ⊎ ((may_reserve c ≡ true) × (r ≡ reply.OutOfMemory))
    pub left : StandsAt (next s calls c r) v

-- .. of a command, whatever the setup and the calls accepted before: v before it, v2 after it
abbrev pub IsServed : {C S : Type 0} → (C → C → Ordering) →
    Command C S → Reply C S → ServerView C S → ServerView C S → Type 0
IsServed {C} {S} cmp x r v v2 =
    (bootstrappers : List (C × Ingress)) (myself : Info C S) (cfg : Config) →
    (calls : List (Call C S)) → let s = settings cmp bootstrappers myself cfg in
    StandsAt s calls v → IsCallServedAt s calls (call_of x) r v2

-- .. with a slot made for it
abbrev pub IsSteppedAlone : {C S : Type 0} → (C → C → Ordering) →
    Command C S → Reply C S → ServerView C S → ServerView C S → Type 0
IsSteppedAlone {C} {S} cmp x r v v2 =
    (bootstrappers : List (C × Ingress)) (myself : Info C S) (cfg : Config) →
    (calls : List (Call C S)) → let s = settings cmp bootstrappers myself cfg in
    StandsAt s calls v → IsCallSteppedAt s calls (call_of x) r v2
