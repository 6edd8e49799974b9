-- What gossip brings any number of nodes, by what was done to them and what was replied: commands
-- with their replies, the newest first.
use Rattle.std.specs.Prelude.{ℕ, ◌≡◌, ◌≤◌, ◌<◌, ◌+◌, ◌*◌, ◌^◌, min, ◌==◌, true, false, List, []}
use Rattle.std.specs.Prelude.{◌∷◌, ◌++◌, length, ◌⊎◌, Option, Some, is_some, IfSome}
use Rattle.std.specs.List.{AllByRecursion}
use Rattle.std.specs.Duration.{as_nanos, max_nanos}
use Rattle.std.specs.declared.cmp.Ordering.{Ordering}
use Rattle.std.specs.declared.time.Duration.{Duration}
use Rattle.p2p_discovery.specs.declared.discovery.Info.{Info}
use Rattle.p2p_discovery.specs.declared.discovery.Payload.TheVariants as said
use Rattle.p2p_discovery.specs.Judgement.{is_signed_in}
use Rattle.p2p_directory.specs.declared.node.received.Received.TheVariants as received
use Rattle.p2p_directory.specs.declared.node.exchanged.Exchanged.{Exchanged}
use Rattle.p2p_directory.specs.declared.node.exchanged.Exchanged.TheVariants as exchanged
use Rattle.p2p_directory.specs.declared.node.network.commands.NetworkCommand.{NetworkCommand}
use Rattle.p2p_directory.specs.declared.node.network.commands.NetworkCommand.TheVariants as command
use Rattle.p2p_directory.specs.declared.node.network.commands.NetworkReply.{NetworkReply}
use Rattle.p2p_directory.specs.declared.node.network.commands.NetworkReply.TheVariants as reply
use Rattle.p2p_tracker.specs.Calls.{Call, SetAt, given_by}
use Rattle.p2p_tracker.specs.History.{is_own, is_in}
use Rattle.p2p_directory.specs.Run.{call_of, world_after}
use Rattle.p2p_directory.specs.Received.{Wire, applies, received_at, told_with}
use Rattle.p2p_tracker.specs.Answers.{is_present_in, set_at_place, set_with_index, infos_for}
use Rattle.p2p_tracker.specs.Answers.{bits_of, sharable_info}
use Rattle.p2p_tracker.specs.Moments.{epoch_millis}
use Rattle.p2p_directory.specs.Nodes.{Made, AreValues}
use Rattle.p2p_directory.specs.Exchange.{ExchangeOutcome, IsExchangeAnswer, infos_applied}
use Rattle.p2p_directory.specs.Exchange.{IsCarried}
use Rattle.p2p_directory.specs.Network.{infos_of_frame}
use Rattle.p2p_directory.specs.Network.{Done, changed_by, is_node, calls_at, world_at_node}
use Rattle.p2p_directory.specs.Network.{standing_at, IsNetworkAnswer, AreNetworkAnswers}
use Rattle.p2p_directory.specs.Laws.Gossip.{IsSince, IsUpToDate, GivesOnly, IsMade, wanted_info}
use Rattle.p2p_directory.specs.Laws.Gossip.{wanted_infos, unless_above}
use Rattle.p2p_directory.specs.Laws.LateFrames.{TakesLate, SpellsFor}
use Rattle.p2p_directory.specs.Laws.Isolation.{SameFor, left_for}
use Rattle.p2p_directory.specs.Laws.Order.{HaveSame, IsUnambiguous}
use Rattle.p2p_directory.specs.Laws.OrderRuns.{infos_together, with_updates}

module _ {C S : Type 0} where
  -- an info is among these
  abbrev pub IsAmong : List (Info C S) → Info C S → Type 0
  IsAmong [] i = ⊥
  IsAmong (x ∷ xs) i = (i ≡ x) ⊎ IsAmong xs i

module _ {C S : Type 0} (wire : Wire C S) (size : ℕ) (node : ℕ → Made C S) where
  -- each node is made from one setup
  abbrev pub AreMade : (C → C → Ordering) → Type 0
  AreMade cmp = (i : ℕ) → is_node wire size node i ≡ true → IsMade cmp (node i)

  -- WHAT IS GIVEN TO NODES: from outside, by a command that was replied `Call` or by a frame that
  -- was accepted; and to an asker by its exchange that was applied

  -- P holds of each info that is given from outside
  abbrev pub GivesTo : (Info C S → Type 0) → NetworkCommand C S × NetworkReply C S → Type 0
  GivesTo P (command.Call i x, reply.Call r) = GivesOnly P (call_of x)
  GivesTo P (command.Frame i frame now, reply.Frame r) = applies r ≡ true →
      AllByRecursion P (infos_of_frame wire (node i).limits frame)
  GivesTo P _ = Unit {0}

  -- .. or that an exchange brings its asker
  abbrev pub GivesOrBrings : (Info C S → Type 0) → NetworkCommand C S × NetworkReply C S → Type 0
  GivesOrBrings P (command.Exchange asker replier place asker_now replier_now, reply.Exchange r) =
      IfSome (infos_applied r) (AllByRecursion P)
  GivesOrBrings P x = GivesTo P x

  -- P holds of all own infos, and of each info that was given to any node from outside
  pub record AreAllGiven (P : Info C S → Type 0) (done : Done C S) : Type 0 where
    pub own : (i : ℕ) → is_node wire size node i ≡ true → P (node i).directory.own
    pub given : AllByRecursion (GivesTo P) done

  -- P holds of the own info of node n, and of each info that was given to it, by its own exchanges
  -- too
  pub record IsGivenOnly (n : ℕ) (P : Info C S → Type 0) (done : Done C S) : Type 0 where
    pub own : is_node wire size node n ≡ true → P (node n).directory.own
    pub given : AllByRecursion (λ x. changed_by x.0 ≡ n → GivesOrBrings P x) done

  -- where P holds of all own infos and of all that was given from outside, it holds of all that was
  -- given to each node: exchanges bring nothing else
  abbrev pub GivesEach : (Info C S → Type 0) → Done C S → Type 0
  GivesEach P done = AreAllGiven P done → (n : ℕ) → IsGivenOnly n P done

  -- P holds of each info that node n holds
  abbrev pub HoldsOnly : ℕ → (Info C S → Type 0) → Done C S → Type 0
  HoldsOnly n P done = is_node wire size node n ≡ true → (p : C) (i : Info C S) →
      ((world_at_node wire size node done n).peer p).known.info ≡ Some i → P i

  -- PROVENANCE

  -- the info is given from outside
  abbrev pub IsGivenBy : NetworkCommand C S × NetworkReply C S → Info C S → Type 0
  IsGivenBy (command.Call n x, reply.Call r) i = IsAmong (given_by (call_of x)) i
  IsGivenBy (command.Frame n frame now, reply.Frame r) i =
      (applies r ≡ true) × IsAmong (infos_of_frame wire (node n).limits frame) i
  IsGivenBy _ i = ⊥

  -- .. at some point
  abbrev pub IsGivenIn : Done C S → Info C S → Type 0
  IsGivenIn [] i = ⊥
  IsGivenIn (x ∷ done) i = IsGivenBy x i ⊎ IsGivenIn done i

  -- it is the own info of some node
  abbrev pub IsOwnInfo : Info C S → Type 0
  IsOwnInfo i = (n : ℕ) × (is_node wire size node n ≡ true) × (i ≡ (node n).directory.own)

  -- the own info of some node, or given to some node
  abbrev pub HasOrigin : Done C S → Info C S → Type 0
  HasOrigin done i = IsOwnInfo i ⊎ IsGivenIn done i

  -- HONEST INFOS

  -- the signature is right in the namespace of a node
  abbrev pub IsSignedFor : ℕ → Info C S → Type 0
  IsSignedFor n i = is_signed_in wire.verifies (node n).verifier.namespace i ≡ true

  -- .. of two
  pub record IsSigned (asker replier : ℕ) (i : Info C S) : Type 0 where
    pub at_asker : IsSignedFor asker i
    pub at_replier : IsSignedFor replier i

  -- where all that was given from outside is signed for one node, or for two, so is all that was
  -- given to each
  abbrev pub GivesSigned : Done C S → Type 0
  GivesSigned done = (i j : ℕ) →
      GivesEach (IsSignedFor i) done × GivesEach (IsSigned i j) done

  -- THE PREMISES OF AN EXCHANGE

  -- x is the asker's set at the place at one point, and at another the replier retains a set of its
  -- index with the same primary list
  pub record HaveOneList (asked done : Done C S) (asker replier place : ℕ)
      (x : SetAt C) : Type 0 where
    pub at_place : set_at_place (node asker).directory
        (world_at_node wire size node asked asker) place ≡ Some x
    pub kept : SetAt C
    pub retained : set_with_index (node replier).directory
        (world_at_node wire size node done replier) x.index ≡ Some kept
    pub one_list : kept.primary ≡ x.primary

  -- the limits of both admit the bits of x and these infos, and the replier's moment lies at most
  -- the asker's bound past the asker's
  pub record Fits (asker replier : ℕ) (asker_now replier_now : ℕ) (x : SetAt C)
      (infos : List (Info C S)) : Type 0 where
    pub bits : length x.primary ≤ (node replier).limits.max_bit_vec
    pub peers : length infos ≤ (node asker).limits.max_peers
    pub count : length infos ≤ (node asker).verifier.greatest_count
    pub moments : replier_now ≤ asker_now + (node asker).verifier.synchrony_bound

  -- of a peer: what the replier may share of it, where the asker wants its info
  abbrev pub info_to_bring : Done C S → ℕ → ℕ → ℕ → C → Option (Info C S)
  info_to_bring done asker replier replier_now p =
      wanted_info (node asker) (world_at_node wire size node done asker)
      (node replier) (world_at_node wire size node done replier) (epoch_millis replier_now) p

  -- the wanted infos that may be shared, in an exchange over x
  abbrev pub infos_to_bring : Done C S → ℕ → ℕ → ℕ → SetAt C → List (Info C S)
  infos_to_bring done asker replier replier_now x =
      wanted_infos (node asker) (world_at_node wire size node done asker)
      (node replier) (world_at_node wire size node done replier) replier_now x.primary

  -- all of them, for an exchange over x
  pub record MayBring (done : Done C S) (asker replier place : ℕ) (asker_now replier_now : Duration)
      (x : SetAt C) : Type 0 where
    pub honest : IsGivenOnly replier (IsSigned asker replier) done
    pub one : HaveOneList done done asker replier place x
    pub fits : Fits asker replier (as_nanos asker_now) (as_nanos replier_now) x
        (infos_to_bring done asker replier (as_nanos replier_now) x)

  -- WHAT FOLLOWS

  -- all nodes stand at the same worlds
  abbrev pub AreSame : Done C S → Done C S → Type 0
  AreSame before after = (i : ℕ) →
      world_at_node wire size node after i ≡ world_at_node wire size node before i

  -- the exchange c was replied r; these infos are brought by it
  pub record Brings (done : Done C S) (asker replier : ℕ) (replier_now : ℕ) (x : SetAt C)
      (c : NetworkCommand C S) (r : Exchanged C S) (infos : List (Info C S)) : Type 0 where
    -- they are just what the replier answers to the asker's bits
    pub shared : infos_for (node replier).directory
        (world_at_node wire size node done replier) x.index
        (bits_of (node asker).directory (world_at_node wire size node done asker) x) replier_now
        ≡ Some infos
    -- just they are applied, want of memory aside
    pub answer : (infos_applied r ≡ Some infos) ⊎ (r ≡ exchanged.Memory)
    -- afterwards the asker's info of each of their peers is at least as new
    pub known : infos_applied r ≡ Some infos →
        AllByRecursion (IsUpToDate
        (world_at_node wire size node ((c, reply.Exchange r) ∷ done) asker)) infos
    -- directly repeated it is applied, want of memory aside, and changes nothing
    pub again : infos_applied r ≡ Some infos → (r2 : Exchanged C S) →
        let once = (c, reply.Exchange r) ∷ done in
        IsNetworkAnswer wire size node once c (reply.Exchange r2) →
        ((is_some (infos_applied r2) ≡ true) ⊎ (r2 ≡ exchanged.Memory))
        × AreSame once ((c, reply.Exchange r2) ∷ once)

  -- REACH

  -- a peer was present at a node after each of the later commands
  abbrev pub StaysPresent : ℕ → C → Done C S → Done C S → Type 0
  StaysPresent n p [] done = Unit {0}
  StaysPresent n p (x ∷ later) done =
      (is_present_in (node n).directory (world_at_node wire size node (x ∷ later ++ done) n) p
      ≡ true)
      × StaysPresent n p later done

  -- the node holds an info of the peer that is at least this new
  abbrev pub HoldsSince : ℕ → C → ℕ → Done C S → Type 0
  HoldsSince n p t done = IsSince t ((world_at_node wire size node done n).peer p).known.info

  -- INFOS OF A PRESENT PEER ONLY GET NEWER: what a node held, and what it holds later
  abbrev pub OnlyGetNewer : Done C S → Type 0
  OnlyGetNewer all = (later done : Done C S) (n : ℕ) (p : C) (t : ℕ) → all ≡ later ++ done →
      is_node wire size node n ≡ true → HoldsSince n p t done → StaysPresent n p later done →
      HoldsSince n p t all

  -- what each exchange so far that was applied brought is held as long as the peer stays present
  abbrev pub Reach : Done C S → Type 0
  Reach all = (later done : Done C S) (asker replier place : ℕ) (asker_now replier_now : Duration)
      (r : Exchanged C S) (x : SetAt C) →
      let c = command.Exchange asker replier place asker_now replier_now in
      all ≡ later ++ (c, reply.Exchange r) ∷ done →
      MayBring done asker replier place asker_now replier_now x → is_some (infos_applied r) ≡ true →
      AllByRecursion (λ p.
      IfSome (info_to_bring done asker replier (as_nanos replier_now) p) (λ i.
      StaysPresent asker p later ((c, reply.Exchange r) ∷ done) →
      HoldsSince asker p i.timestamp all)) x.primary

  -- .. and whether the asker wanted its info or not: of each other peer of the list that the
  -- replier might share, it then holds an info, as long as the peer stays present
  abbrev pub Acquaint : Done C S → Type 0
  Acquaint all = (later done : Done C S) (asker replier place : ℕ)
      (asker_now replier_now : Duration) (r : Exchanged C S) (x : SetAt C) →
      let c = command.Exchange asker replier place asker_now replier_now in
      all ≡ later ++ (c, reply.Exchange r) ∷ done →
      MayBring done asker replier place asker_now replier_now x → is_some (infos_applied r) ≡ true →
      (p : C) (i : Info C S) → is_in (node asker).directory p x.primary ≡ true →
      is_own (node asker).directory p ≡ false →
      unless_above (epoch_millis (as_nanos replier_now))
      (sharable_info (node replier).directory (world_at_node wire size node done replier) p)
      ≡ Some i →
      StaysPresent asker p later ((c, reply.Exchange r) ∷ done) →
      HoldsSince asker p 0 all

  -- AT EACH POINT OF A RUN

  -- an exchange under its premises brings the wanted infos that may be shared
  abbrev pub BringsWanted : Done C S → NetworkCommand C S → NetworkReply C S → Type 0
  BringsWanted done (command.Exchange asker replier place asker_now replier_now)
      (reply.Exchange r) =
      (x : SetAt C) → MayBring done asker replier place asker_now replier_now x →
      Brings done asker replier (as_nanos replier_now) x
      (command.Exchange asker replier place asker_now replier_now) r
      (infos_to_bring done asker replier (as_nanos replier_now) x)
  BringsWanted done _ _ = Unit {0}

  -- the outcome of an exchange is what its frames come to, unless memory was refused
  abbrev pub CarriesExchange : Done C S → NetworkCommand C S → NetworkReply C S → Type 0
  CarriesExchange done (command.Exchange asker replier place asker_now replier_now)
      (reply.Exchange r) = (o : ExchangeOutcome C S) → IsExchangeAnswer false o r →
      IsCarried wire (standing_at wire size node done asker)
      (standing_at wire size node done replier) place (as_nanos asker_now) (as_nanos replier_now) o
  CarriesExchange done _ _ = Unit {0}

  -- a greeting with the own info of any node is taken by another for which it is signed, want of
  -- memory aside, where their keys differ and its timestamp is within the bound
  abbrev pub TakesGreeting : Done C S → NetworkCommand C S → NetworkReply C S → Type 0
  TakesGreeting done (command.Frame n frame now) (reply.Frame r) = (other : ℕ) →
      is_node wire size node other ≡ true →
      let own = (node other).directory.own in
      IsSignedFor n own → frame ≡ wire.spelling (said.Greeting own) →
      is_own (node n).directory own.public_key ≡ false →
      own.timestamp * 10 ^ 6
      ≤ min (as_nanos now + (node n).verifier.synchrony_bound) max_nanos →
      (r ≡ received.Greeted own.public_key) ⊎ (r ≡ received.Memory)
  TakesGreeting done _ _ = Unit {0}

  -- a frame of infos for a node is taken, however late, by these keys and signatures
  abbrev pub TakesFrame : (C → Type 0) → (S → Type 0) → Done C S → NetworkCommand C S →
      NetworkReply C S → Type 0
  TakesFrame IsKey IsSignature done (command.Frame n frame now) (reply.Frame r) =
      TakesLate wire IsKey IsSignature (node n) (calls_at wire size node done n) frame
      (as_nanos now) r
      (calls_at wire size node ((command.Frame n frame now, reply.Frame r) ∷ done) n)
  TakesFrame IsKey IsSignature done _ _ = Unit {0}

  -- WHAT IS TOLD HAS A SPELLING, by these keys and signatures
  module _ (IsKey : C → Type 0) (IsSignature : S → Type 0) where
    -- bits whose index and number fit, and infos that are made of values of their types
    abbrev pub IsWritten : Done C S → NetworkCommand C S → NetworkReply C S → Type 0
    IsWritten done (command.Ask n place) (reply.Ask frame) =
        IfSome ((standing_at wire size node done n).bits place)
        (λ v. (v.index < 2 ^ 64) × (length v.bits < 2 ^ 64))
    IsWritten done (command.Frame n frame now) (reply.Frame r) =
        AreValues IsKey IsSignature (told_with (received_at wire
        (standing_at wire size node done n) frame (as_nanos now)) r)
    IsWritten done _ _ = Unit {0}

    -- a frame that the replier replied for the asker, at the moment t
    pub record IsReplyFor (asker replier : ℕ) (t : ℕ) (frame : List ℕ) : Type 0 where
      pub infos : List (Info C S)
      pub spells : SpellsFor wire IsKey IsSignature (node asker) t frame infos
      pub signed : AllByRecursion (IsSigned asker replier) infos

    -- bits that any node was asked for earlier, when it had x at the place, and of which the
    -- replier now retains a set with the same primary list: a reply spells infos for that node
    abbrev pub RepliesInfos : Done C S → NetworkCommand C S → NetworkReply C S → Type 0
    RepliesInfos done (command.Frame replier frame now) (reply.Frame r) =
        (later asked : Done C S) (asker place : ℕ) (x : SetAt C) (given : List ℕ) →
        done ≡ later ++ (command.Ask asker place, reply.Ask (Some frame)) ∷ asked →
        IsGivenOnly replier (IsSigned asker replier) done →
        HaveOneList asked done asker replier place x →
        r ≡ received.Reply given → IsReplyFor asker replier (as_nanos now) given
    RepliesInfos done _ _ = Unit {0}

  -- all nodes but the one that a command may change stand as before
  abbrev pub LeavesOtherNodes : Done C S → NetworkCommand C S → NetworkReply C S → Type 0
  LeavesOtherNodes done c r = (n : ℕ) → (changed_by c == n) ≡ false →
      world_at_node wire size node ((c, r) ∷ done) n ≡ world_at_node wire size node done n

  -- a law of one reply holds of each reply of a run
  abbrev pub OfEachReply : (Done C S → NetworkCommand C S → NetworkReply C S → Type 0) →
      Done C S → List (NetworkCommand C S) → List (NetworkReply C S) → Type 0
  OfEachReply P done (c ∷ cs) (r ∷ rs) = P done c r × OfEachReply P ((c, r) ∷ done) cs rs
  OfEachReply P done _ _ = Unit {0}

  -- a law of what was done holds at each point of a run, the last one too
  abbrev pub AtEachPoint : (Done C S → Type 0) → Done C S → List (NetworkCommand C S) →
      List (NetworkReply C S) → Type 0
  AtEachPoint P done (c ∷ cs) (r ∷ rs) = P done × AtEachPoint P ((c, r) ∷ done) cs rs
  AtEachPoint P done _ _ = P done

  -- calls on single other peers, and the infos of others in updates, may be left out of the calls
  -- that a node accepted: all that is said of p is the same
  abbrev pub Isolate : Done C S → Type 0
  Isolate done = (n : ℕ) → is_node wire size node n ≡ true → (p : C) →
      SameFor p (world_at_node wire size node done n)
      (world_after (node n).directory
      (left_for (node n).directory p (calls_at wire size node done n)))

  -- .. and infos of its updates that follow each other directly may be given in any order, and by
  -- other updates in their place, where no two are of one key with one timestamp
  abbrev pub Reorder : Done C S → Type 0
  Reorder done = (n : ℕ) → is_node wire size node n ≡ true → let s = (node n).directory in
      (later before : List (Call C S)) (first some : List (Info C S))
      (more others : List (List (Info C S))) →
      calls_at wire size node done n ≡ later ++ with_updates s (first ∷ more) before →
      IsUnambiguous s (infos_together s (first ∷ more)) →
      HaveSame (infos_together s (first ∷ more)) (infos_together s (some ∷ others)) →
      world_after s (later ++ with_updates s (some ∷ others) before)
      ≡ world_at_node wire size node done n

  -- what is given to any node comes from somewhere, and what it holds: gossip invents nothing
  abbrev pub Provenance : Done C S → Type 0
  Provenance done = (n : ℕ) →
      IsGivenOnly n (HasOrigin done) done × HoldsOnly n (HasOrigin done) done

  -- where all that was given to a node is signed for node n, so is all that it holds
  abbrev pub HoldSigned : Done C S → Type 0
  HoldSigned done = (n holder : ℕ) → IsGivenOnly holder (IsSignedFor n) done →
      HoldsOnly holder (IsSignedFor n) done

  -- what is told with each reply of a run has a spelling
  abbrev pub AreWritten : (C → Type 0) → (S → Type 0) → Done C S → List (NetworkCommand C S) →
      List (NetworkReply C S) → Type 0
  AreWritten IsKey IsSignature = OfEachReply (IsWritten IsKey IsSignature)

  -- ALL LAWS

  -- of what was done
  pub record PointLaws (done : Done C S) : Type 0 where
    -- gossip invents nothing
    pub provenance : Provenance done
    -- all that is given is signed where all that comes from outside is
    pub given : GivesSigned done
    -- what an exchange brought is held as long as the peer stays present
    pub reach : Reach done
    -- .. and some info of each other peer that was shared, wanted or not
    pub acquaintance : Acquaint done

  -- of one reply, by these keys and signatures
  pub record ReplyLaws (IsKey : C → Type 0) (IsSignature : S → Type 0) (done : Done C S)
      (c : NetworkCommand C S) (r : NetworkReply C S) : Type 0 where
    -- an exchange brings the wanted infos that may be shared
    pub exchanges : BringsWanted done c r
    -- .. and is what its frames come to
    pub carried : CarriesExchange done c r
    -- a greeting is taken
    pub greetings : TakesGreeting done c r
    -- bits that were asked for are replied with infos for the asker
    pub infos_replied : RepliesInfos IsKey IsSignature done c r
    -- such infos are taken, however late
    pub late : TakesFrame IsKey IsSignature done c r

  -- P holds of all commands and replies
  abbrev pub OfAll : (Done C S → List (NetworkCommand C S) → List (NetworkReply C S) → Type 0) →
      Type 0
  OfAll P = (cs : List (NetworkCommand C S)) (rs : List (NetworkReply C S)) → P [] cs rs

  -- .. where each reply is the answer at its point
  abbrev pub OfAnswers : (Done C S → List (NetworkCommand C S) → List (NetworkReply C S) →
      Type 0) → Type 0
  OfAnswers P = OfAll (λ done cs rs. AreNetworkAnswers wire size node done cs rs → P done cs rs)
