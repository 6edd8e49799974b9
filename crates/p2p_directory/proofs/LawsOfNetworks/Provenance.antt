-- What any node holds was given to some node, or is the own info of one.
use Rattle.std.proofs.Common.{◌≡◌, ℕ, Bool, true, false, ◌&&◌, List, [], ◌∷◌, ◌++◌, refl, subst, inl, inr, ap}
use Rattle.std.specs.Prelude.{if◌then◌else◌, not, ◌==◌}
use Rattle.std.specs.List.{AllByRecursion}
use Rattle.std.specs.Duration.{as_nanos}
use Rattle.std.proofs.lemmas.Bool.{and_parts, eqb-true}
use Rattle.p2p_discovery.specs.declared.discovery.Info.{Info}
use Rattle.p2p_directory.specs.declared.node.network.commands.NetworkCommand.{NetworkCommand}
use Rattle.p2p_directory.specs.declared.node.network.commands.NetworkCommand.TheVariants as command
use Rattle.p2p_directory.specs.declared.node.network.commands.NetworkReply.{NetworkReply}
use Rattle.p2p_directory.specs.declared.node.network.commands.NetworkReply.TheVariants as reply
use Rattle.p2p_tracker.specs.Calls.{Call, given_by}
use Rattle.p2p_tracker.specs.Calls.Call.{Update}
use Rattle.p2p_directory.specs.Run.{call_of, was_made, world_after}
use Rattle.p2p_directory.specs.Received.{Wire, applies}
use Rattle.p2p_directory.specs.Exchange
use Rattle.p2p_directory.specs.Exchange.{infos_applied}
use Rattle.p2p_directory.specs.Nodes.{Made}
use Rattle.p2p_directory.specs.Network.{infos_of_frame, Done, changed_by, calls_then, is_node}
use Rattle.p2p_directory.specs.Network.{calls_at, standing_at, IsNetworkAnswer, AreNetworkAnswers}
use Rattle.p2p_directory.specs.Laws.Gossip.{GivesOnly}
use Rattle.p2p_directory.specs.Laws.Network.{IsAmong, GivesTo, GivesOrBrings, IsGivenOnly, GivesEach, HoldsOnly}
use Rattle.p2p_directory.specs.Laws.Network.{IsSigned, GivesSigned, IsGivenBy, IsGivenIn, HasOrigin, Provenance}
use Rattle.p2p_directory.specs.Laws.Network.{IsSignedFor, HoldSigned, AtEachPoint, OfEachReply, LeavesOtherNodes}
use Rattle.p2p_directory.proofs.LawsOfGossip.Infos
use Rattle.p2p_directory.proofs.LawsOfGossip.Given.{exchange_gives, brings_applied, gives_with, gives_if}

-- what holds of all that is given

module _ {C S : Type 0} (P : Info C S → Type 0) where
  from_among : (xs : List (Info C S)) → ((i : Info C S) → IsAmong xs i → P i) → AllByRecursion P xs
  from_among [] h = tt
  from_among (x ∷ xs) h = (h x (inl refl), from_among xs (λ i m. h i (inr m)))

  gives_call : (c : Call C S) → ((i : Info C S) → IsAmong (given_by c) i → P i) → GivesOnly P c
  gives_call (Update infos) h = from_among infos h
  gives_call c h = tt

module _ {C S : Type 0} (wire : Wire C S) (size : ℕ) (node : ℕ → Made C S) where
  -- each reply was the answer at its point
  abbrev pub AreAnswered : Done C S → Type 0
  AreAnswered [] = Unit {0}
  AreAnswered (x ∷ done) = IsNetworkAnswer wire size node done x.0 x.1 × AreAnswered done

  pub answered_before : (later done : Done C S) → AreAnswered (later ++ done) → AreAnswered done
  answered_before [] done h = h
  answered_before (x ∷ later) done h = answered_before later done h.1

  -- a law of what was done, at each point of a run
  pub at_each_point : (P : Done C S → Type 0) → ((done : Done C S) → AreAnswered done → P done) →
      (done : Done C S) → AreAnswered done →
      (cs : List (NetworkCommand C S)) (rs : List (NetworkReply C S)) →
      AreNetworkAnswers wire size node done cs rs → AtEachPoint wire size node P done cs rs
  at_each_point P law done answered [] rs h = law done answered
  at_each_point P law done answered (c ∷ cs) [] h = absurd h
  at_each_point P law done answered (c ∷ cs) (r ∷ rs) h =
      (law done answered, at_each_point P law ((c, r) ∷ done) (h.0, answered) cs rs h.1)

  -- a law of one reply, of each reply of a run
  pub of_each_reply : (P : Done C S → NetworkCommand C S → NetworkReply C S → Type 0) →
      ((done : Done C S) → AreAnswered done → (c : NetworkCommand C S) (r : NetworkReply C S) →
      IsNetworkAnswer wire size node done c r → P done c r) →
      (done : Done C S) → AreAnswered done →
      (cs : List (NetworkCommand C S)) (rs : List (NetworkReply C S)) →
      AreNetworkAnswers wire size node done cs rs → OfEachReply wire size node P done cs rs
  of_each_reply P law done answered [] rs h = tt
  of_each_reply P law done answered (c ∷ cs) [] h = tt
  of_each_reply P law done answered (c ∷ cs) (r ∷ rs) h = (
    law done answered c r h.0,
    of_each_reply P law ((c, r) ∷ done) (h.0, answered) cs rs h.1,
  )

  -- a law of what was done that holds whatever the replies, at each point of them
  pub at_any_point : (P : Done C S → Type 0) → ((done : Done C S) → P done) → (done : Done C S)
      (cs : List (NetworkCommand C S)) (rs : List (NetworkReply C S)) →
      AtEachPoint wire size node P done cs rs
  at_any_point P law done [] rs = law done
  at_any_point P law done (c ∷ cs) [] = law done
  at_any_point P law done (c ∷ cs) (r ∷ rs) =
      (law done, at_any_point P law ((c, r) ∷ done) cs rs)

  -- .. a law of one reply, of each
  pub of_any_reply : (P : Done C S → NetworkCommand C S → NetworkReply C S → Type 0) →
      ((done : Done C S) (c : NetworkCommand C S) (r : NetworkReply C S) → P done c r) →
      (done : Done C S) (cs : List (NetworkCommand C S)) (rs : List (NetworkReply C S)) →
      OfEachReply wire size node P done cs rs
  of_any_reply P law done [] rs = tt
  of_any_reply P law done (c ∷ cs) [] = tt
  of_any_reply P law done (c ∷ cs) (r ∷ rs) =
      (law done c r, of_any_reply P law ((c, r) ∷ done) cs rs)

  -- the nodes that a command may not change
  pub leaves_others : (done : Done C S) (c : NetworkCommand C S) (r : NetworkReply C S) →
      LeavesOtherNodes wire size node done c r
  leaves_others done c r n other = ap (λ b. world_after (node n).directory (if b
      then calls_then wire (node n) c r (calls_at wire size node done n)
      else calls_at wire size node done n)) other

  -- WHAT A NODE WAS GIVEN, whatever the replies

  module _ (P : Info C S → Type 0) where
    abbrev GivesAll : List (Call C S) → Type 0
    GivesAll calls = AllByRecursion (GivesOnly P) calls

    gives_then : (c : NetworkCommand C S) (r : NetworkReply C S) (calls : List (Call C S)) →
        GivesOrBrings wire size node P (c, r) → GivesAll calls →
        GivesAll (calls_then wire (node (changed_by c)) c r calls)
    gives_then (command.Call i x) (reply.Call r) calls h before =
        gives_if P (was_made r) (call_of x) calls (λ e. h) before
    gives_then (command.Frame i frame now) (reply.Frame r) calls h before =
        gives_if P (applies r) (Update (infos_of_frame wire (node i).limits frame)) calls h before
    gives_then (command.Exchange asker replier place asker_now replier_now) (reply.Exchange r)
        calls h before = gives_with P (infos_applied r) calls h before
    gives_then c r calls h before = before

    gives_at : (n : ℕ) (x : NetworkCommand C S × NetworkReply C S) (done : Done C S) →
        (changed_by x.0 ≡ n → GivesOrBrings wire size node P x) →
        GivesAll (calls_at wire size node done n) → GivesAll (calls_at wire size node (x ∷ done) n)
    gives_at n x done h before = go (changed_by x.0 == n) refl
      where
        calls : List (Call C S)
        calls = calls_at wire size node done n

        go : (b : Bool) → (changed_by x.0 == n) ≡ b →
            GivesAll (if b then calls_then wire (node n) x.0 x.1 calls else calls)
        go true e =
            let same = eqb-true (changed_by x.0) n e in
            subst (λ i. GivesAll (calls_then wire (node i) x.0 x.1 calls)) same
            (gives_then x.0 x.1 calls (h same) before)
        go false e = before

    gives_calls : (n : ℕ) (done : Done C S) →
        AllByRecursion (λ x. changed_by x.0 ≡ n → GivesOrBrings wire size node P x) done →
        GivesAll (calls_at wire size node done n)
    gives_calls n [] h = tt
    gives_calls n (x ∷ done) h = gives_at n x done h.0 (gives_calls n done h.1)

  -- the calls of its directory
  pub given_at : (P : Info C S → Type 0) (n : ℕ) (done : Done C S) →
      IsGivenOnly wire size node n P done → is_node wire size node n ≡ true →
      Infos.AreGiven (node n).directory P (calls_at wire size node done n)
  given_at P n done only there = record {
    own = only.own there;
    calls = gives_calls P n done only.given;
  }

  -- what it holds
  pub holds_only : (P : Info C S → Type 0) (n : ℕ) (done : Done C S) →
      IsGivenOnly wire size node n P done → HoldsOnly wire size node n P done
  holds_only P n done only there p i e =
      (Infos.known_is_given (node n).directory P (calls_at wire size node done n)
      (given_at P n done only there) p i e).0

  -- WHAT WAS GIVEN TO ANY NODE FROM OUTSIDE is all that exchanges bring

  module _ (P : Info C S → Type 0)
      (own : (i : ℕ) → is_node wire size node i ≡ true → P (node i).directory.own) where
    abbrev GivenTo : ℕ → Done C S → Type 0
    GivenTo n done =
        AllByRecursion (λ x. changed_by x.0 ≡ n → GivesOrBrings wire size node P x) done

    gives_or_brings : (done : Done C S) (c : NetworkCommand C S) (r : NetworkReply C S) →
        IsNetworkAnswer wire size node done c r → GivesTo wire size node P (c, r) →
        ((n : ℕ) → GivenTo n done) → GivesOrBrings wire size node P (c, r)
    gives_or_brings done (command.Exchange asker replier place asker_now replier_now)
        (reply.Exchange r) is h before =
        let a = standing_at wire size node done asker in
        let b = standing_at wire size node done replier in
        let there : is_node wire size node replier ≡ true =
        (and_parts (is_node wire size node replier) (not (asker == replier))
        (and_parts (is_node wire size node asker)
        (is_node wire size node replier && not (asker == replier)) is.0).1).0 in
        let told = Infos.infos_are_given (node replier).directory P
        (calls_at wire size node done replier)
        (given_at P replier done (record { own = own replier; given = before replier }) there) in
        brings_applied P r (Exchange.exchange_may_want_memory a place)
        (Exchange.exchanged_at a b place (as_nanos asker_now) (as_nanos replier_now)) is.1
        (exchange_gives P a b place (as_nanos asker_now) (as_nanos replier_now)
        (λ index bits infos e. told index bits (as_nanos replier_now) infos e))
    gives_or_brings done c r is h before = h

    given_to : (done : Done C S) → AreAnswered done →
        AllByRecursion (GivesTo wire size node P) done → (n : ℕ) → GivenTo n done
    given_to [] answered h n = tt
    given_to (x ∷ done) answered h n =
        let before = given_to done answered.1 h.1 in
        ((λ same. gives_or_brings done x.0 x.1 answered.0 h.0 before), before n)

  given_to_each : (P : Info C S → Type 0) (done : Done C S) → AreAnswered done →
      GivesEach wire size node P done
  given_to_each P done answered all n = record {
    own = all.own n;
    given = given_to P all.own done answered all.given n;
  }

  pub gives_signed : (done : Done C S) → AreAnswered done → GivesSigned wire size node done
  gives_signed done answered i j = (
    given_to_each (IsSignedFor wire size node i) done answered,
    given_to_each (IsSigned wire size node i j) done answered,
  )

  -- PROVENANCE

  gives_to : (P : Info C S → Type 0) (c : NetworkCommand C S) (r : NetworkReply C S) →
      ((i : Info C S) → IsGivenBy wire size node (c, r) i → P i) → GivesTo wire size node P (c, r)
  gives_to P (command.Call i x) (reply.Call r) h = gives_call P (call_of x) h
  gives_to P (command.Frame i frame now) (reply.Frame r) h = λ e.
      from_among P (infos_of_frame wire (node i).limits frame) (λ j m. h j (e, m))
  gives_to P c r h = tt

  gives_all : (P : Info C S → Type 0) (done : Done C S) →
      ((i : Info C S) → IsGivenIn wire size node done i → P i) →
      AllByRecursion (GivesTo wire size node P) done
  gives_all P [] h = tt
  gives_all P (x ∷ done) h =
      (gives_to P x.0 x.1 (λ i m. h i (inl m)), gives_all P done (λ i m. h i (inr m)))

  given_from : (done : Done C S) → AreAnswered done → (n : ℕ) →
      IsGivenOnly wire size node n (HasOrigin wire size node done) done
  given_from done answered = given_to_each (HasOrigin wire size node done) done answered (record {
    own = λ n there. inl (n, there, refl);
    given = gives_all (HasOrigin wire size node done) done (λ i m. inr m);
  })

  pub provenance : (done : Done C S) → AreAnswered done → Provenance wire size node done
  provenance done answered n =
      let given = given_from done answered n in
      (given, holds_only (HasOrigin wire size node done) n done given)

  -- INFOS

  pub hold_signed : (done : Done C S) → HoldSigned wire size node done
  hold_signed done n holder only = holds_only (IsSignedFor wire size node n) holder done only
